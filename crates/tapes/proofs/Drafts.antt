-- What GROUP adds to a draft: kinds of which the draft has none become a family of their own, kinds that hold all those of the last family its next group.
-- Assumes nothing.
use mathlib.Core.Path.{◌≡◌, refl, ap, ◌∙◌}
use mathlib.Core.Bool.{true, false}
use mathlib.Core.List.{List, [], ◌∷◌, ◌++◌, append_assoc, append-nil}
use Prim.Native.Nat.{ℕ, ◌+◌, ◌≤◌, ◌<◌}
use native.Mathlib.Omega.{arith}
use lib.ListN.{length, length-append}
use Rattle.model.specs.Numbers.{MAX_GROUP_ARITY, MAX_GROUP_COUNT}
use Rattle.model.specs.Model.{Family, mem, meets, within, without, head_kind, kinds_of, groups_of, is_group, present, touched, chained, new_group, families_with}
use Rattle.model.specs.Adding.{added, add_group}
use Rattle.model.specs.Sound.{In, Distinct, layout_kinds}
use Rattle.model.proofs.KindLists.{distinct_right, mem_append, head_in, in_left, in_right, not_in_parts, all_true, any_in, differ_left, unmet_all, before_free, without_ring}
use Rattle.model.proofs.Draft.{added_fresh, added_onto, chains_above, family_with_above, kinds_append, groups_append}

-- ---- kinds that a draft has not

-- one of ks is in no group of it, so that ks is no group of it
not_group : (ks acc : List ℕ) (k : ℕ) (f : Family) → In ks k → mem k (acc ++ kinds_of f) ≡ false → is_group ks acc f ≡ false
not_group ks acc k [] i n = refl
not_group ks acc k (r ∷ rs) i n =
    let m : mem k ((acc ++ r.new_kinds) ++ kinds_of rs) ≡ false = ap (mem k) (append_assoc acc r.new_kinds (kinds_of rs)) ∙ n in
    rw (differ_left ks (acc ++ r.new_kinds) k i (not_in_parts k (acc ++ r.new_kinds) (kinds_of rs) m).0) (not_group ks (acc ++ r.new_kinds) k rs i m)

not_present : (ks : List ℕ) (k : ℕ) (fs : List Family) → In ks k → mem k (layout_kinds fs) ≡ false → present ks fs ≡ false
not_present ks k [] i n = refl
not_present ks k (f ∷ fs) i n =
    let p = not_in_parts k (kinds_of f) (layout_kinds fs) n in
    rw (not_group ks [] k f i p.0) (not_present ks k fs i p.1)

-- it has none of ks
abbrev pub FreeOf : List ℕ → List Family → Type 0
FreeOf ks fs = (k : ℕ) → In ks k → mem k (layout_kinds fs) ≡ false

module _ (ks : List ℕ) (f : Family) (fs : List Family) (h : FreeOf ks (f ∷ fs)) where
  free_first : meets ks (kinds_of f) ≡ false
  free_first = unmet_all ks (kinds_of f) (λ k i. (not_in_parts k (kinds_of f) (layout_kinds fs) (h k i)).0)

  free_rest : FreeOf ks fs
  free_rest k i = (not_in_parts k (kinds_of f) (layout_kinds fs) (h k i)).1

free_touched : (ks : List ℕ) (fs : List Family) → FreeOf ks fs → touched ks fs ≡ 0
free_touched ks [] h = refl
free_touched ks (f ∷ fs) h = rw (free_first ks f fs h) (free_touched ks fs (free_rest ks f fs h))

-- a group of its own
pub own_added : (ks : List ℕ) (fs : List Family) → 2 ≤ length ks → length ks ≤ MAX_GROUP_ARITY → FreeOf ks fs → groups_of fs < MAX_GROUP_COUNT → add_group ks fs ≡ added (fs ++ ((new_group ks ∷ []) ∷ []))
own_added ks fs two narrow free few =
    let i : In ks (head_kind ks) = head_in ks (omega arith) in
    added_fresh ks fs two narrow (not_present ks (head_kind ks) fs i (free (head_kind ks) i)) few (free_touched ks fs free)

-- ---- kinds that hold all kinds of the last family, and none of the families before

module _ (ks : List ℕ) (f : Family) (m : meets ks (kinds_of f) ≡ true) (w : within (kinds_of f) ks ≡ true) where
  last_touched : (fs : List Family) → FreeOf ks fs → touched ks (fs ++ (f ∷ [])) ≡ 1
  last_touched [] h = rw m
  last_touched (g ∷ fs) h = rw (free_first ks g fs h) (last_touched fs (free_rest ks g fs h))

  last_chained : (fs : List Family) → FreeOf ks fs → chained ks (fs ++ (f ∷ [])) ≡ true
  last_chained [] h = rw (m, chains_above ks [] f w)
  last_chained (g ∷ fs) h = rw (free_first ks g fs h) (last_chained fs (free_rest ks g fs h))

  last_placed : (fs : List Family) → FreeOf ks fs → families_with ks (fs ++ (f ∷ [])) ≡ fs ++ ((f ++ (new_group (without ks (kinds_of f)) ∷ [])) ∷ [])
  last_placed [] h = rw (m, family_with_above ks [] f w)
  last_placed (g ∷ fs) h = rw (free_first ks g fs h) (ap {B = List Family} (λ l. g ∷ l) (last_placed fs (free_rest ks g fs h)))

-- the last family's next group, of ring `ring`
pub wider_added : (fs : List Family) (f : Family) (ring : List ℕ) → 1 ≤ length (kinds_of f) → 1 ≤ length ring → length (kinds_of f ++ ring) ≤ MAX_GROUP_ARITY → Distinct (layout_kinds fs ++ (kinds_of f ++ ring)) → groups_of fs + length f < MAX_GROUP_COUNT
    → add_group (kinds_of f ++ ring) (fs ++ (f ∷ [])) ≡ added (fs ++ ((f ++ (new_group ring ∷ [])) ∷ []))
wider_added fs f ring some more narrow once few =
    let two : 2 ≤ length (kinds_of f ++ ring) = omega (arith, length-append (kinds_of f) ring) in
    let both : Distinct (kinds_of f ++ ring) = distinct_right (layout_kinds fs) (kinds_of f ++ ring) once in
    let free : FreeOf (kinds_of f ++ ring) fs = before_free (layout_kinds fs) (kinds_of f ++ ring) once in
    let h : In ring (head_kind ring) = head_in ring more in
    let i : In (kinds_of f ++ ring) (head_kind ring) = in_right (kinds_of f) ring (head_kind ring) h in
    let new : mem (head_kind ring) (layout_kinds (fs ++ (f ∷ []))) ≡ false =
    ap (mem (head_kind ring)) (kinds_append fs (f ∷ []) ∙ ap (λ (l : List ℕ). layout_kinds fs ++ l) (append-nil (kinds_of f)))
    ∙ mem_append (head_kind ring) (layout_kinds fs) (kinds_of f)
    ∙ rw (free (head_kind ring) i) (before_free (kinds_of f) ring both (head_kind ring) h) in
    let m : meets (kinds_of f ++ ring) (kinds_of f) ≡ true = any_in (λ k. mem k (kinds_of f)) (kinds_of f ++ ring) (head_kind (kinds_of f)) (in_left (kinds_of f) ring (head_kind (kinds_of f)) (head_in (kinds_of f) some)) (head_in (kinds_of f) some) in
    let w : within (kinds_of f) (kinds_of f ++ ring) ≡ true = all_true (λ k. mem k (kinds_of f ++ ring)) (kinds_of f) (λ k j. in_left (kinds_of f) ring k j) in
    let room : groups_of (fs ++ (f ∷ [])) < MAX_GROUP_COUNT = omega (arith, groups_append fs (f ∷ [])) in
    added_onto (kinds_of f ++ ring) (fs ++ (f ∷ [])) two narrow (not_present (kinds_of f ++ ring) (head_kind ring) (fs ++ (f ∷ [])) i new) room
    (last_touched (kinds_of f ++ ring) f m w fs free) (last_chained (kinds_of f ++ ring) f m w fs free)
    ∙ ap added (last_placed (kinds_of f ++ ring) f m w fs free ∙ ap (λ (l : List ℕ). fs ++ ((f ++ (new_group l ∷ [])) ∷ [])) (without_ring (kinds_of f) ring both))
