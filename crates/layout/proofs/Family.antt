-- One family as the arrays have it: its groups from its kinds and arities. Assumes nothing.
use mathlib.Core.Path.{◌≡◌, refl, sym, ap, ap₂, ◌∙◌}
use mathlib.Core.Bool.{false, ◌||◌}
use mathlib.Core.List.{List, [], ◌∷◌, ◌++◌}
use Prim.Native.Nat.{ℕ, zero, suc, ◌+◌, ◌≤◌, ◌<◌}
use native.Mathlib.Nat.{sub-zero}
use native.Mathlib.Numerals.{add-one}
use native.Mathlib.Omega.{arith}
use lib.ListN.{length, get_or, take, drop}
use lib.Seq.{drop-length, take-length}
use Rattle.model.specs.Model.{Family, kinds_of, is_group, same_set, new_group}
use Rattle.words.specs.Part.{between}
use Rattle.words.proofs.Part.{between_join, between_drop}
use Rattle.layout.specs.Layout.{start_of, groups_from, AritiesRising}
use Rattle.model.proofs.ListLaws.{drop_step}

pub start_next : (es : List ℕ) (f : ℕ) → start_of es (f + 1) ≡ get_or es f 0
start_next es f = ap (start_of es) (add-one f)

pub start_prior : (es : List ℕ) (f : ℕ) → start_of es f ≡ get_or (0 ∷ es) f 0
start_prior es zero = refl
start_prior es (suc f) = refl

-- ---- arities

pub rising_le : (b n : ℕ) (ars : List ℕ) → AritiesRising b n ars → b ≤ n
unfolding AritiesRising
rising_le b n [] r = omega (arith, r)
rising_le b n (a ∷ ars) r = omega (arith, r.0, rising_le a n ars r.1)

-- a family that has a group starts its arities anywhere below
pub rising_zero : (n : ℕ) (ars : List ℕ) → 2 ≤ n → AritiesRising 1 n ars → AritiesRising 0 n ars
unfolding AritiesRising
rising_zero n [] h r = absurd (omega (arith, r))
rising_zero n (a ∷ ars) h r = (omega (arith, r.0), r.1)

-- one group alone
pub rising_alone : (s : ℕ) → 2 ≤ s → AritiesRising 1 s (s ∷ [])
unfolding AritiesRising
rising_alone s h = (omega arith, refl)

-- an arity is at most the number of kinds, above what comes before, and no smaller than an earlier one
pub rising_at : (b n : ℕ) (ars : List ℕ) (j : ℕ) → AritiesRising b n ars → j < length ars → get_or ars j 0 ≤ n
unfolding AritiesRising
rising_at b n [] j r h = absurd (omega arith)
rising_at b n (a ∷ ars) zero r h = rising_le a n ars r.1
rising_at b n (a ∷ ars) (suc j) r h = rising_at a n ars j r.1 (omega arith)

pub rising_step : (b n : ℕ) (ars : List ℕ) (j : ℕ) → AritiesRising b n ars → j < length ars → get_or (b ∷ ars) j 0 < get_or ars j 0
unfolding AritiesRising
rising_step b n [] j r h = absurd (omega arith)
rising_step b n (a ∷ ars) zero r h = r.0
rising_step b n (a ∷ ars) (suc j) r h = rising_step a n ars j r.1 (omega arith)

-- the last is all
pub rising_last : (b n : ℕ) (ars : List ℕ) → AritiesRising b n ars → get_or (b ∷ ars) (length ars) 0 ≡ n
unfolding AritiesRising
rising_last b n [] r = r
rising_last b n (a ∷ ars) r = rising_last a n ars r.1

pub rising_above : (b n : ℕ) (ars : List ℕ) (j : ℕ) → AritiesRising b n ars → j < length ars → b < get_or ars j 0
unfolding AritiesRising
rising_above b n [] j r h = absurd (omega arith)
rising_above b n (a ∷ ars) zero r h = r.0
rising_above b n (a ∷ ars) (suc j) r h = omega (arith, r.0, rising_above a n ars j r.1 (omega arith))

pub rising_less : (b n : ℕ) (ars : List ℕ) (i j : ℕ) → AritiesRising b n ars → i < j → j < length ars → get_or ars i 0 < get_or ars j 0
unfolding AritiesRising
rising_less b n [] i j r l h = absurd (omega arith)
rising_less b n (a ∷ ars) i zero r l h = absurd (omega arith)
rising_less b n (a ∷ ars) zero (suc j) r l h = rising_above a n ars j r.1 (omega arith)
rising_less b n (a ∷ ars) (suc i) (suc j) r l h = rising_less a n ars i j r.1 (omega arith) (omega arith)

-- ---- the groups

-- without counts the number of the first group does not matter
pub no_counts_law : (g h : ℕ) (ks : List ℕ) (b : ℕ) (ars : List ℕ) → groups_from [] g ks b ars ≡ groups_from [] h ks b ars
unfolding groups_from
no_counts_law g h ks b [] = refl
no_counts_law g h ks b (a ∷ ars) = ap (λ (r : Family). new_group (between b a ks) ∷ r) (no_counts_law (suc g) (suc h) ks a ars)

-- the counts of other groups do not matter
pub groups_same : (cs cs' : List ℕ) (g : ℕ) (ks : List ℕ) (b : ℕ) (ars : List ℕ) → ((j : ℕ) → g ≤ j → j < g + length ars → get_or cs' j 0 ≡ get_or cs j 0) → groups_from cs' g ks b ars ≡ groups_from cs g ks b ars
unfolding groups_from
groups_same cs cs' g ks b [] e = refl
groups_same cs cs' g ks b (a ∷ ars) e =
    ap₂ (λ (c : ℕ) (rs : Family). record { new_kinds = between b a ks; count = c } ∷ rs) (e g (omega arith) (omega arith))
    (groups_same cs cs' (suc g) ks a ars (λ j l h. e j (omega arith) (omega arith)))

-- the kinds of the groups from arity b on
pub kinds_from_law : (counts : List ℕ) (g : ℕ) (ks : List ℕ) (b : ℕ) (ars : List ℕ) → AritiesRising b (length ks) ars → kinds_of (groups_from counts g ks b ars) ≡ drop b ks
unfolding groups_from AritiesRising
kinds_from_law counts g ks b [] r = sym (ap (λ (n : ℕ). drop n ks) r ∙ drop-length ks)
kinds_from_law counts g ks b (a ∷ ars) r =
    ap (λ (l : List ℕ). between b a ks ++ l) (kinds_from_law counts (suc g) ks a ars r.1) ∙ between_drop ks b a (omega (arith, r.0))

-- a turn of the loop over the arities: j is next
pub record Turn (hs ks ars : List ℕ) (j : ℕ) : Type 0 where
  pub low : start_of ars j < get_or ars j 0
  pub high : get_or ars j 0 ≤ length ks
  pub next : AritiesRising (start_of ars (j + 1)) (length ks) (drop (j + 1) ars)
  pub joins : take (start_of ars j) ks ++ between (start_of ars j) (get_or ars j 0) ks ≡ take (get_or ars j 0) ks
  pub opens : groups_from [] 0 ks (start_of ars j) (drop j ars) ≡ new_group (between (start_of ars j) (get_or ars j 0) ks) ∷ groups_from [] 0 ks (start_of ars (j + 1)) (drop (j + 1) ars)
  pub splits : is_group hs (take (start_of ars j) ks) (groups_from [] 0 ks (start_of ars j) (drop j ars))
      ≡ (same_set hs (take (get_or ars j 0) ks) || is_group hs (take (start_of ars (j + 1)) ks) (groups_from [] 0 ks (start_of ars (j + 1)) (drop (j + 1) ars)))

group_open : (ks : List ℕ) (b a : ℕ) (ars : List ℕ) → groups_from [] 0 ks b (a ∷ ars) ≡ new_group (between b a ks) ∷ groups_from [] 0 ks a ars
unfolding groups_from
group_open ks b a ars = ap (λ (r : Family). new_group (between b a ks) ∷ r) (no_counts_law 1 0 ks a ars)

group_split : (hs ks : List ℕ) (b a : ℕ) (ars : List ℕ) → b ≤ a
    → is_group hs (take b ks) (groups_from [] 0 ks b (a ∷ ars)) ≡ (same_set hs (take a ks) || is_group hs (take a ks) (groups_from [] 0 ks a ars))
unfolding groups_from
group_split hs ks b a ars h =
    ap (λ (l : List ℕ). same_set hs l || is_group hs l (groups_from [] 1 ks a ars)) (between_join ks b a h)
    ∙ ap (λ (r : Family). same_set hs (take a ks) || is_group hs (take a ks) r) (no_counts_law 1 0 ks a ars)

pub rising_head : (b n a : ℕ) (ars : List ℕ) → AritiesRising b n (a ∷ ars) → (b < a) × AritiesRising a n ars
unfolding AritiesRising
rising_head b n a ars r = r

pub turn : (hs ks ars : List ℕ) (j : ℕ) → j < length ars → AritiesRising (start_of ars j) (length ks) (drop j ars) → Turn hs ks ars j
turn hs ks ars j h r =
    let d : drop j ars ≡ get_or ars j 0 ∷ drop (j + 1) ars = drop_step ars j 0 h in
    let s = rising_head (start_of ars j) (length ks) (get_or ars j 0) (drop (j + 1) ars) (rw d at r) in
    let n : start_of ars (j + 1) ≡ get_or ars j 0 = start_next ars j in
    record {
      low = s.0;
      high = rising_le (get_or ars j 0) (length ks) (drop (j + 1) ars) s.1;
      next = rw n s.1;
      joins = between_join ks (start_of ars j) (get_or ars j 0) (omega (arith, s.0));
      opens =
          ap (groups_from [] 0 ks (start_of ars j)) d ∙ group_open ks (start_of ars j) (get_or ars j 0) (drop (j + 1) ars)
          ∙ ap (λ (a : ℕ). new_group (between (start_of ars j) (get_or ars j 0) ks) ∷ groups_from [] 0 ks a (drop (j + 1) ars)) (sym n);
      splits =
          ap (λ (l : List ℕ). is_group hs (take (start_of ars j) ks) (groups_from [] 0 ks (start_of ars j) l)) d
          ∙ group_split hs ks (start_of ars j) (get_or ars j 0) (drop (j + 1) ars) (omega (arith, s.0))
          ∙ ap (λ (a : ℕ). same_set hs (take (get_or ars j 0) ks) || is_group hs (take a ks) (groups_from [] 0 ks a (drop (j + 1) ars))) (sym n);
    }

pub no_groups_law : (hs ks ars : List ℕ) (b : ℕ) → is_group hs (take b ks) (groups_from [] 0 ks b (drop (length ars) ars)) ≡ false
unfolding groups_from
no_groups_law hs ks ars b = rw drop-length

-- ---- a family of one group

pub from_alone : (g : ℕ) (more : List ℕ) → groups_from [] g more 0 (length more ∷ []) ≡ new_group more ∷ []
unfolding groups_from
from_alone g more = ap (λ (l : List ℕ). new_group l ∷ []) (ap (λ (n : ℕ). take n more) (sub-zero (length more)) ∙ take-length more)
