-- Sets of kinds as lists that have each kind once: what the tests on them decide, and how long they are. Assumes nothing.
use mathlib.Core.Path.{◌≡◌, refl, sym, ap, subst, ◌∙◌}
use mathlib.Core.Bool.{true, false, ◌&&◌, and-false}
use mathlib.Core.List.{List, ◌∷◌}
use Prim.Native.Nat.{ℕ, ◌-◌, ◌≤◌, ◌<◌}
use native.Mathlib.Omega.{arith}
use borrow.Author.Tests.{eq-eqb, ne_eqb}
use lib.Dec.{eqb}
use lib.ListN.{length, take, drop, take-append-drop}
use Rattle.model.specs.Numbers.{MAX_KINDS}
use Rattle.model.specs.Lists.{one, count_of}
use Rattle.model.proofs.ListLaws.{below_counts, shorter, as_long, few_below}
use Rattle.model.specs.Model.{mem, within, same_set}
use Rattle.model.proofs.KindLists.{in_count, out_count, all_true, within_counts, without_length, lacks_some}
use Rattle.model.proofs.BoolLaws.{bool_cases, by-eq, by_lt}
use Rattle.words.specs.Part.{between}
use Rattle.layout.specs.Layout.{KindSet}

-- ---- once each

pub set_take : (n : ℕ) (l : List ℕ) → KindSet l → KindSet (take n l)
set_take n l s =
    record {
      once = λ k. omega (arith, s.once k, (below_counts k (take n l) (drop n l) l (take-append-drop n l)).0);
      known = λ k h. omega (arith, s.known k h, (below_counts k (take n l) (drop n l) l (take-append-drop n l)).0);
    }

pub set_drop : (n : ℕ) (l : List ℕ) → KindSet l → KindSet (drop n l)
set_drop n l s =
    record {
      once = λ k. omega (arith, s.once k, (below_counts k (take n l) (drop n l) l (take-append-drop n l)).1);
      known = λ k h. omega (arith, s.known k h, (below_counts k (take n l) (drop n l) l (take-append-drop n l)).1);
    }

pub set_between : (a e : ℕ) (l : List ℕ) → KindSet l → KindSet (between a e l)
set_between a e l s = set_take (e - a) (drop a l) (set_drop a l s)

-- different kinds below 128 are 128 at most
pub pigeon : (l : List ℕ) → KindSet l → length l ≤ MAX_KINDS
pigeon l s = few_below MAX_KINDS l s.once (λ k h. by_lt k MAX_KINDS (λ b. b) (λ b. absurd (omega (arith, s.known k b))))

-- ---- two sets are the same where they are as long and one holds the other

-- a kind more at the head of a list that lacks it
more_here : (x : ℕ) (js ks : List ℕ) → 1 ≤ count_of eqb x ks → count_of eqb x js ≡ 0 → count_of eqb x (x ∷ js) ≤ count_of eqb x ks
more_here x js ks h e = rw (eq-eqb x x refl) (omega arith)

pub same_set_law : (ks js : List ℕ) → KindSet ks → KindSet js → same_set ks js ≡ (eqb (length js) (length ks) && within js ks)
same_set_law ks js sk sj = bool_cases (within js ks) inside outside
  where
    outside : within js ks ≡ false → same_set ks js ≡ (eqb (length js) (length ks) && within js ks)
    outside e = rw e (and-false (within ks js) ∙ sym (and-false (eqb (length js) (length ks))))

    missing : within js ks ≡ true → length js ≡ length ks → (x : ℕ) → mem x ks ≡ true → mem x js ≡ false → ⊥
    missing w e x m n =
        let more : length (x ∷ js) ≤ length ks =
        shorter (x ∷ js) ks (λ z. by-eq z x (λ q. subst (λ (w : ℕ). count_of eqb w (x ∷ js) ≤ count_of eqb w ks) (sym q) (more_here x js ks (in_count ks x m) (out_count js x n))) (λ q. omega (arith, ap one (ne_eqb z x q), within_counts js ks sj.once w z))) in
        omega arith

    inside : within js ks ≡ true → same_set ks js ≡ (eqb (length js) (length ks) && within js ks)
    inside w =
        by-eq (length js) (length ks)
        (λ e. rw (w, eq-eqb (length js) (length ks) e, all_true (λ k. mem k js) ks (λ x m. bool_cases (mem x js) (λ t. t) (λ t. absurd (missing w e x m t)))))
        (λ ne. bool_cases (within ks js)
        (λ v. absurd (ne (as_long js ks (λ x. omega (arith, within_counts js ks sj.once w x, within_counts ks js sk.once v x)))))
        (λ v. rw (w, v, ne_eqb (length js) (length ks) ne)))

-- a set within another that is not within it is shorter
pub proper : (js ks : List ℕ) → KindSet js → KindSet ks → within js ks ≡ true → within ks js ≡ false → length js < length ks
proper js ks sj sk w n = omega (arith, without_length ks js sk.once sj.once w, lacks_some ks js n)
