-- What TRAY answers and leaves: that many NEWs, where the hand is held again before each but the first. Assumes nothing.
use mathlib.Core.Path.{◌≡◌, refl, ap, sym, ◌∙◌, subst}
use mathlib.Core.Bool.{false}
use mathlib.Core.List.{List, [], ◌∷◌, ◌++◌, map}
use Prim.Native.Nat.{ℕ, zero, suc, ◌+◌, ◌≤◌}
use native.Mathlib.Omega.{arith}
use borrow.Author.Tests.{lt-ltb, le-ltb}
use lib.ListN.{length, take, length-append}
use Rattle.model.specs.Numbers.{LIST_CAPACITY}
use Rattle.model.specs.Model.{Component, Extended, kind_of, extend}
use Rattle.model.specs.Store.{Store, with_control, with_staged, empty_staged}
use Rattle.model.specs.Commands.{NEW, TRAY, Done, accepted}
use Rattle.model.specs.Refusals.{unknown_kind}
use Rattle.model.specs.Run.{Outcome, accepts, does, store_after, answer_of}
use Rattle.model.specs.Sound.{In, Distinct, StoreSound}
use Rattle.model.specs.Theorems.{restaged, news}
use Rattle.model.proofs.Outcomes.{tray_full, tray_made}
use Rattle.model.proofs.Extending.{new_entities, each_created, new_live, new_count, first_new, left_new, news_next, news_none, tray_news, tray_none}
use Rattle.tapes.specs.Tapes.{after_one, after_all}
use Rattle.tapes.specs.Built.{hold_commands}
use Rattle.tapes.specs.Trays.{more_news, news_with, free_in, TrayTold}
use Rattle.tapes.proofs.Tapes.{after_append}
use Rattle.tapes.proofs.Building.{known_kind, holds_after}

-- the hand h can be held in the store t, where it is empty
module _ (h : List Component) (once : Distinct (map kind_of h)) (few : length h ≤ LIST_CAPACITY) where
  held : (t : Store) → t.control.staged ≡ [] → ((k : ℕ) → In (map kind_of h) k → unknown_kind k t ≡ false) → after_all (hold_commands h) t ≡ restaged h t
  held t none known =
      holds_after h t (rw none once) (rw none few) known
      ∙ ap (λ (l : List Component). with_control t (with_staged t.control (l ++ h))) none

  more : (n : ℕ) (t : Store) → t.control.staged ≡ [] → ((k : ℕ) → In (map kind_of h) k → unknown_kind k t ≡ false) → n ≤ free_in t → news n h t ≡ after_all (more_news n h) t
  unfolding accepted
  more zero t none known room = news_none h t
  more (suc n) t none known room =
      news_next n h t (omega arith)
      ∙ more n (accepted NEW (restaged h t)).store refl known (omega (arith, left_new h t (omega arith)))
      ∙ sym (after_append (hold_commands h) (NEW ∷ more_news n h) t
      ∙ ap (λ (x : Store). after_all (more_news n h) (after_one NEW x)) (held t none known)
      ∙ ap (after_all (more_news n h)) (first_new h t (omega arith)))

-- 02, No. 4: "the store afterwards equals that many NEWs, each with the same hand, row order included"
pub tray_commands : (n : ℕ) (s : Store) → StoreSound s → suc n ≤ free_in s → after_one (TRAY (suc n)) s ≡ after_all (news_with (suc n) s.control.staged) s
unfolding accepted
tray_commands n s S room =
    let h : List Component = s.control.staged in
    ap (store_after s) (tray_made s (suc n) (le-ltb (free_in s) (suc n) room))
    ∙ tray_news s S (suc n) (omega arith) room
    ∙ news_next n h s (omega arith)
    ∙ more h S.staged.once S.staged.few n (accepted NEW (restaged h s)).store refl (λ j i. known_kind s S.kinds.small j (S.staged.known j i)) (omega (arith, left_new h s (omega arith)))
    ∙ sym (ap (after_all (more_news n h)) (first_new h s (omega arith)))

-- ---- each TRAY in a sound store

live_count : (n : ℕ) (s : Store) → length (accepted (TRAY n) s).store.entities.live ≡ length s.entities.live + n
unfolding accepted extend
live_count n s =
    ap (λ (x : Extended). length x.entities.live) (each_created n s.control.staged s.entities s.storage)
    ∙ ap length (new_live n s.entities) ∙ length-append s.entities.live (new_entities n s.entities) ∙ ap (λ (k : ℕ). length s.entities.live + k) (new_count n s.entities)

pub tray_told : (n : ℕ) (s : Store) (rest : List ℕ) → StoreSound s → TrayTold n s (store_after s (does (TRAY n) s)) (answer_of (does (TRAY n) s) ++ rest)
unfolding accepted
tray_told n s rest S =
    record {
      full = λ h. let e = tray_full s n (lt-ltb (free_in s) n h) in (ap (λ (x : Outcome). take 1 (answer_of x ++ rest)) e, ap (store_after s) e);
      answer = λ h. ap (λ (x : Outcome). take 3 (answer_of x ++ rest)) (made h);
      news = λ some h. as_news n some h;
      made = λ h. (ap (λ (x : Outcome). length (store_after s x).entities.live) (made h) ∙ live_count n s, ap (λ (x : Outcome). (store_after s x).control.counts) (made h));
      none = λ q. subst (λ (k : ℕ). store_after s (does (TRAY k) s) ≡ with_control s (empty_staged s.control)) (sym q) (ap (store_after s) (tray_made s 0 (le-ltb (free_in s) 0 (omega arith))) ∙ ap (λ (d : Done). d.store) (tray_none s));
    }
  where
    made : n ≤ free_in s → does (TRAY n) s ≡ accepts (accepted (TRAY n) s).store (accepted (TRAY n) s).answer
    made h = tray_made s n (le-ltb (free_in s) n h)

    as_news : (n : ℕ) → 1 ≤ n → n ≤ free_in s → store_after s (does (TRAY n) s) ≡ after_all (news_with n s.control.staged) s
    as_news zero some h = absurd (omega arith)
    as_news (suc m) some h = tray_commands m s S h
