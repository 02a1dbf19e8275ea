-- RANGE over the families that the arrays list. Assumes nothing.
use mathlib.Core.Path.{◌≡◌, refl, sym, ap, ap₂, ◌∙◌}
use mathlib.Core.Logic.{◌≢◌}
use mathlib.Core.Bool.{true, false, cond, true≢false}
use mathlib.Core.List.{List, [], ◌∷◌, ◌++◌, append_assoc}
use Prim.Native.Nat.{ℕ, zero, suc, ◌+◌, ◌≤◌, ◌<◌}
use native.Mathlib.Nat.{add-zero, add-suc, suc-add, sub-zero}
use native.Mathlib.Decide.{dec_lt}
use native.Mathlib.Omega.{arith}
use lib.Dec.{eqb}
use lib.ListN.{length, get_or, take, drop, drop_of_length-le}
use lib.Seq.{drop-cons}
use Rattle.model.specs.Lists.{count_of}
use Rattle.model.proofs.ListLaws.{count_append}
use Rattle.model.specs.Model.{Family, Range, none, found, mem, same_set, kinds_of, first_range, range_at, range_in, range_all}
use Rattle.model.proofs.KindLists.{in_count, not_in_parts, mem_take_le, not_in_take, differ_left, differ_right}
use Rattle.model.proofs.BoolLaws.{not_true, cond_same}
use Rattle.words.specs.Part.{between}
use Rattle.words.proofs.Part.{count_part, between_join, between_in}
use Rattle.layout.specs.Layout.{Arrays, start_of, width_of, kinds_at, groups_from, KindSet, AritiesRising, WellFormed}
use Rattle.layout.proofs.Family.{rising_le, rising_head}
use Rattle.layout.proofs.Arrays.{kind_order_law, kinds_inside, ends_rise}
use Rattle.group_info.proofs.Places.{place_at, mem_part}

-- ---- a family that lacks one of the kinds

pub lacks_staged : (hs bs acc : List ℕ) (rs : Family) (k : ℕ) → mem k hs ≡ true → mem k (acc ++ kinds_of rs) ≡ false → range_in hs bs acc rs ≡ none
lacks_staged hs bs acc [] k h n = refl
lacks_staged hs bs acc (r ∷ rs) k h n =
    let n' : mem k ((acc ++ r.new_kinds) ++ kinds_of rs) ≡ false = rw append_assoc n in
    rw (differ_left hs (acc ++ r.new_kinds) k h (not_in_parts k (acc ++ r.new_kinds) (kinds_of rs) n').0) (lacks_staged hs bs (acc ++ r.new_kinds) rs k h n')

pub lacks_excluded : (hs : List ℕ) (b : ℕ) (bs acc : List ℕ) (rs : Family) (k : ℕ) → mem k (b ∷ bs) ≡ true → mem k (kinds_of rs) ≡ false → range_in hs (b ∷ bs) acc rs ≡ none
lacks_excluded hs b bs acc [] k h n = refl
lacks_excluded hs b bs acc (r ∷ rs) k h n =
    let n₂ = (not_in_parts k r.new_kinds (kinds_of rs) n).1 in
    rw (next rs n₂, lacks_excluded hs b bs (acc ++ r.new_kinds) rs k h n₂) (cond_same (same_set hs (acc ++ r.new_kinds)) none)
  where
    next : (rs : Family) → mem k (kinds_of rs) ≡ false → range_at (b ∷ bs) r.count rs ≡ none
    next [] n = refl
    next (q ∷ rs) n = rw (differ_left (b ∷ bs) q.new_kinds k h (not_in_parts k q.new_kinds (kinds_of rs) n).0) refl

-- ---- all families

pub all_none : (hs bs : List ℕ) (fs : List Family) → ((i : ℕ) → i < length fs → range_in hs bs [] (get_or fs i []) ≡ none) → range_all hs bs fs ≡ none
all_none hs bs [] h = refl
all_none hs bs (f ∷ fs) h = rw (h 0 (omega arith)) (all_none hs bs fs (λ i l. h (suc i) (omega arith)))

else_none : (r : Range) → first_range r none ≡ r
else_none none = refl
else_none (found a b) = refl

pub only_one : (hs bs : List ℕ) (fs : List Family) (f : ℕ) → f < length fs → ((i : ℕ) → i < length fs → i ≢ f → range_in hs bs [] (get_or fs i []) ≡ none)
    → range_all hs bs fs ≡ range_in hs bs [] (get_or fs f [])
only_one hs bs [] f h o = absurd (omega arith)
only_one hs bs (x ∷ fs) zero h o = rw (all_none hs bs fs (λ i l. o (suc i) (omega arith) (omega arith))) (else_none (range_in hs bs [] x))
only_one hs bs (x ∷ fs) (suc f) h o = rw (o 0 (omega arith) (omega arith)) (only_one hs bs fs f (omega arith) (λ i l n. o (suc i) (omega arith) (λ e. n (omega arith))))

-- ---- the families have no kind in common

pub apart : (a : Arrays) → WellFormed a → (k i j : ℕ) → i < j → j < a.families → count_of eqb k (kinds_at a i) + count_of eqb k (kinds_at a j) ≤ 1
apart a good k i j h l =
    let ks = a.kinds in
    let es = a.kind_ends in
    let o = kind_order_law a good in
    let p = count_part k ks (start_of es i) (get_or es i 0) (start_of es j) (o i (omega arith)) (ends_rise es j (λ m u. o m (omega arith)) (suc i) h) in
    let c = count_append eqb k (take (start_of es j) ks) (kinds_at a j) in
    let d = ap (count_of eqb k) (between_join ks (start_of es j) (get_or es j 0) (o j l)) in
    let e = count_append eqb k (take (get_or es j 0) ks) (between (get_or es j 0) (width_of a) ks) in
    let f = ap (count_of eqb k) (between_join ks (get_or es j 0) (width_of a) (kinds_inside a good j l)) in
    omega (arith, good.kinds.once k)

pub elsewhere : (a : Arrays) → WellFormed a → (k f i : ℕ) → f < a.families → i < a.families → i ≢ f → mem k (kinds_at a f) ≡ true → mem k (kinds_at a i) ≡ false
elsewhere a good k f i hf hi ne m =
    not_true (mem k (kinds_at a i))
    (λ t. elim (dec_lt i f) [
      | yes l ↦ omega (arith, apart a good k i f l hf, in_count (kinds_at a f) k m, in_count (kinds_at a i) k t)
      | no l ↦ omega (arith, apart a good k f i (omega arith) hi, in_count (kinds_at a f) k m, in_count (kinds_at a i) k t)
    ])

-- ---- one family's groups

-- the first place past those before b is none of theirs
pub next_kind : (ks : List ℕ) → KindSet ks → (b a : ℕ) → b < a → a ≤ length ks → (mem (get_or ks b 0) (take a ks) ≡ true) × (mem (get_or ks b 0) (take b ks) ≡ false)
next_kind ks s b a h l =
    let up : between 0 a ks ≡ take a ks = ap (λ (n : ℕ). take n ks) (sub-zero a) in
    let lo : between 0 b ks ≡ take b ks = ap (λ (n : ℕ). take n ks) (sub-zero b) in (
      ap (mem (get_or ks b 0)) (sym up) ∙ between_in 0 a b ks (omega arith) h l,
      ap (mem (get_or ks b 0)) (sym lo) ∙ not_true (mem (get_or ks b 0) (between 0 b ks)) (λ t. let x = mem_part ks s 0 b (omega arith) (omega arith) (get_or ks b 0) t in omega (arith, x.high, place_at ks s b (omega arith))),
    )

module _ (hs bs counts ks : List ℕ) (s : KindSet ks) where
  in_step : (g b a : ℕ) (ars : List ℕ) → b ≤ a
      → range_in hs bs (take b ks) (groups_from counts g ks b (a ∷ ars)) ≡ cond (same_set hs (take a ks)) (range_at bs (get_or counts g 0) (groups_from counts (suc g) ks a ars)) (range_in hs bs (take a ks) (groups_from counts (suc g) ks a ars))
  unfolding groups_from
  in_step g b a ars h =
      ap (λ (l : List ℕ). cond (same_set hs l) (range_at bs (get_or counts g 0) (groups_from counts (suc g) ks a ars)) (range_in hs bs l (groups_from counts (suc g) ks a ars))) (between_join ks b a h)

  no_groups_law : (g b : ℕ) → range_in hs bs (take b ks) (groups_from counts g ks b []) ≡ none
  unfolding groups_from
  no_groups_law g b = refl

  -- kinds that are all before b equal no group past it
  past : (g b : ℕ) (ars : List ℕ) → AritiesRising b (length ks) ars → ((k : ℕ) → mem k hs ≡ true → mem k (take b ks) ≡ true) → range_in hs bs (take b ks) (groups_from counts g ks b ars) ≡ none
  past g b [] r h = no_groups_law g b
  past g b (a ∷ ars) r h =
      let p = rising_head b (length ks) a ars r in
      let x = next_kind ks s b a p.0 (rising_le a (length ks) ars p.1) in
      let out : mem (get_or ks b 0) hs ≡ false = not_true (mem (get_or ks b 0) hs) (λ t. true≢false (sym (h (get_or ks b 0) t) ∙ x.1)) in
      in_step g b a ars (omega (arith, p.0))
      ∙ rw (differ_right hs (take a ks) (get_or ks b 0) x.0 out) (past (suc g) a ars p.1 (λ k m. mem_take_le k ks b a (omega (arith, p.0)) (h k m)))

  -- kinds up to the group at j, one of them new there: they equal that group or none
  pub at_group : (g b : ℕ) (ars : List ℕ) (j top : ℕ) → AritiesRising b (length ks) ars → j < length ars
      → ((k : ℕ) → mem k hs ≡ true → mem k (take (get_or ars j 0) ks) ≡ true) → mem top hs ≡ true → mem top (take (get_or (b ∷ ars) j 0) ks) ≡ false
      → range_in hs bs (take b ks) (groups_from counts g ks b ars)
      ≡ cond (same_set hs (take (get_or ars j 0) ks)) (range_at bs (get_or counts (g + j) 0) (groups_from counts (suc (g + j)) ks (get_or ars j 0) (drop (suc j) ars))) none
  at_group g b [] j top r h below m n = absurd (omega arith)
  at_group g b (a ∷ ars) zero top r h below m n =
      let p = rising_head b (length ks) a ars r in
      in_step g b a ars (omega (arith, p.0))
      ∙ ap₂ (λ (x : Range) (i : ℕ). cond (same_set hs (take a ks)) (range_at bs (get_or counts i 0) (groups_from counts (suc i) ks a ars)) x) (past (suc g) a ars p.1 below) (sym (add-zero g))
  at_group g b (a ∷ ars) (suc j) top r h below m n =
      let p = rising_head b (length ks) a ars r in
      let out : mem top (take a ks) ≡ false = not_in_take top ks a (get_or (a ∷ ars) j 0) (first a ars j p.1 (omega arith)) n in
      in_step g b a ars (omega (arith, p.0))
      ∙ rw (differ_left hs (take a ks) top m out)
      (at_group (suc g) a ars j top p.1 (omega arith) below m n ∙ ap (λ (i : ℕ). cond (same_set hs (take (get_or ars j 0) ks)) (range_at bs (get_or counts i 0) (groups_from counts (suc i) ks (get_or ars j 0) (drop (suc j) ars))) none) (suc-add g j ∙ sym (add-suc g j)))
    where
      first : (a : ℕ) (ars : List ℕ) (j : ℕ) → AritiesRising a (length ks) ars → j < suc (length ars) → a ≤ get_or (a ∷ ars) j 0
      first a ars zero r h = omega arith
      first a [] (suc j) r h = absurd (omega arith)
      first a (c ∷ ars) (suc j) r h = let q = rising_head a (length ks) c ars r in omega (arith, q.0, first c ars j q.1 (omega arith))

  -- no kinds equal no group
  pub empty_none : (g b : ℕ) (ars : List ℕ) → AritiesRising b (length ks) ars → ((k : ℕ) → mem k hs ≡ false) → range_in hs bs (take b ks) (groups_from counts g ks b ars) ≡ none
  empty_none g b ars r h = past g b ars r (λ k m. absurd (true≢false (sym m ∙ h k)))

-- ---- what follows a group: the next larger one's new kinds

pub next_new_kinds : (b : ℕ) (bs counts ks : List ℕ) (g a n : ℕ) (ars : List ℕ) (j : ℕ) → j < length ars
    → range_at (b ∷ bs) n (groups_from counts g ks a (drop j ars)) ≡ cond (same_set (b ∷ bs) (between a (get_or ars j 0) ks)) (found (get_or counts g 0) n) none
unfolding groups_from
next_new_kinds b bs counts ks g a n ars j h = rw (drop-cons ars j 0 h)

pub no_next : (b : ℕ) (bs counts ks : List ℕ) (g a n : ℕ) (ars : List ℕ) (j : ℕ) → length ars ≤ j → range_at (b ∷ bs) n (groups_from counts g ks a (drop j ars)) ≡ none
unfolding groups_from
no_next b bs counts ks g a n ars j h = rw (drop_of_length-le ars {i = j} h)
