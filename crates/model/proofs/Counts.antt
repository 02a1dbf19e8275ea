-- Laws on the refusal counts: a refusal more, and another caller. Assumes nothing.
use mathlib.Core.Path.{◌≡◌, refl, ap, ◌∙◌}
use mathlib.Core.Logic.{◌≢◌}
use Prim.Native.Nat.{ℕ, zero, suc, ◌+◌, ◌≤◌, ◌<◌}
use native.Mathlib.Omega.{arith}
use borrow.Author.Tests.{ltb-true, lt-ltb, le-ltb}
use lib.Dec.{ltb}
use lib.ListN.{length, length-set}
use lib.Seq.{get_or-set_same, get_or-set_other}
use Rattle.model.specs.Numbers.{CALLERS, LAST_CALLER, MAX_REFUSALS}
use Rattle.model.specs.Store.{Control, Store, with_control, no_counts, refusals_by, own_refusals, one_more, counted, with_caller}
use Rattle.model.specs.Refusals.{Unchanged}
use Rattle.model.specs.Sound.{CountsSound}
use Rattle.model.specs.History.{more_by}
use Rattle.model.proofs.BoolLaws.{by-eq, cond_case}
use Rattle.model.proofs.ListLaws.{default_at}

-- ---- "stays at 4,294,967,295"

one_more_most : (n : ℕ) → n ≤ MAX_REFUSALS → one_more n ≤ MAX_REFUSALS
one_more_most n h = cond_case (λ (m : ℕ). m ≤ MAX_REFUSALS) (ltb n MAX_REFUSALS) _ _ (λ t. omega (arith, ltb-true n MAX_REFUSALS t)) (λ t. omega (arith, h))

pub one_more_up : (n : ℕ) → n < MAX_REFUSALS → one_more n ≡ suc n
one_more_up n h = rw (lt-ltb n MAX_REFUSALS h)

pub one_more_full : (n : ℕ) → MAX_REFUSALS ≤ n → one_more n ≡ n
one_more_full n h = rw (le-ltb n MAX_REFUSALS h)

-- n more, up to the last number
pub more_up : (n m : ℕ) → m + n ≤ MAX_REFUSALS → more_by n m ≡ m + n
more_up zero m h = omega arith
more_up (suc n) m h = ap (more_by n) (one_more_up m (omega arith)) ∙ more_up n (suc m) (omega arith) ∙ omega arith

pub more_full : (n m : ℕ) → m ≤ MAX_REFUSALS → MAX_REFUSALS ≤ m + n → more_by n m ≡ MAX_REFUSALS
more_full zero m le h = omega arith
more_full (suc n) m le h =
    by-eq m MAX_REFUSALS
    (λ e. ap (more_by n) (one_more_full m (omega arith)) ∙ more_full n m le (omega arith))
    (λ ne. ap (more_by n) (one_more_up m (omega arith)) ∙ more_full n (suc m) (omega arith) (omega arith))

-- n more and then k more
pub more_more : (n k m : ℕ) → more_by (n + k) m ≡ more_by k (more_by n m)
more_more zero k m = let e : 0 + k ≡ k = omega arith in ap (λ (i : ℕ). more_by i m) e
more_more (suc n) k m = let e : suc n + k ≡ suc (n + k) = omega arith in ap (λ (i : ℕ). more_by i m) e ∙ more_more n k (one_more m)

-- ---- one refusal more: "no caller's refusals alter another's"

module _ (d : Control) where
  pub others_counted : (c : ℕ) → c ≢ d.counts.caller → refusals_by c (counted d) ≡ refusals_by c d
  others_counted c ne = get_or-set_other d.counts.refusals d.counts.caller c (one_more (own_refusals d)) 0 ne

  module _ (N : CountsSound d.counts) where
    pub caller_inside : d.counts.caller < length d.counts.refusals
    caller_inside = omega (arith, N.caller, N.callers)

    pub own_counted : own_refusals (counted d) ≡ one_more (own_refusals d)
    own_counted = get_or-set_same d.counts.refusals d.counts.caller (one_more (own_refusals d)) 0 caller_inside

    pub counted_sound : CountsSound (counted d).counts
    counted_sound =
        record {
          caller = N.caller;
          callers = length-set d.counts.refusals d.counts.caller (one_more (own_refusals d)) ∙ N.callers;
          most = λ c. by-eq c d.counts.caller
              (λ e. rw (e, own_counted) (one_more_most (own_refusals d) (N.most d.counts.caller)))
              (λ ne. rw (others_counted c ne) (N.most c));
        }

    pub called_sound : (c : ℕ) → c ≤ LAST_CALLER → CountsSound (with_caller d c).counts
    called_sound c h = record { caller = h; callers = N.callers; most = N.most }

pub none_sound : CountsSound no_counts
none_sound = record { caller = omega arith; callers = refl; most = λ c. rw (default_at {A = ℕ} 0 CALLERS c) (omega arith) }

-- "change no other word"
pub refusal_unchanged : (s : Store) → Unchanged s (with_control s (counted s.control))
refusal_unchanged s =
    record { settings = refl; kinds = refl; entities = refl; storage = refl; staged = refl; excluded = refl; draft = refl; caller = refl; others = others_counted s.control }
