-- No operation on components changes a layout but for its counts; and a layout that commands can build stays one. Assumes nothing.
use mathlib.Core.Path.{◌≡◌, refl, ap, ap₂, ◌∙◌}
use mathlib.Core.List.{List, [], ◌∷◌, ◌++◌, map}
use Prim.Native.Nat.{ℕ, ◌+◌}
use lib.ListN.{length-map}
use Rattle.model.specs.Model.{Entity, SparseSet, Group, Family, Component, Storage, Walked, GroupStep, zero_count, meets, all_held, is_grouped, kind_of, kinds_of, groups_of, insert_all, group_components, ungroup_components, group_family, ungroup_family, group_touched, ungroup, group_all, regroup, set_layout, insert_components, remove, clear_all}
use Rattle.model.specs.Sound.{layout_kinds, Rising, BuildableFamilies, Buildable}
use Rattle.model.proofs.BoolLaws.{cond_case}
use Rattle.model.proofs.Regroup.{zero_kinds}

-- the layout with every count 0
abbrev pub plain : List Family → List Family
plain fs = map (map zero_count) fs

-- ---- the walks

group_components_plain : (e : Entity) (ks : List ℕ) (r : Group) (sets : List SparseSet) → zero_count (group_components e ks r sets).group ≡ zero_count r
unfolding group_components
group_components_plain e ks r sets = cond_case (λ (s : GroupStep). zero_count s.group ≡ zero_count r) (is_grouped e r sets) _ _ (λ t. refl) (λ t. refl)

ungroup_components_plain : (e : Entity) (ks : List ℕ) (r : Group) (sets : List SparseSet) → zero_count (ungroup_components e ks r sets).group ≡ zero_count r
unfolding ungroup_components
ungroup_components_plain e ks r sets = cond_case (λ (s : GroupStep). zero_count s.group ≡ zero_count r) (is_grouped e r sets) _ _ (λ t. refl) (λ t. refl)

cons : (r q : Group) (rs qs : Family) → zero_count r ≡ zero_count q → map zero_count rs ≡ map zero_count qs → map zero_count (r ∷ rs) ≡ map zero_count (q ∷ qs)
cons r q rs qs p o = ap₂ {C = Family} (λ x xs. x ∷ xs) p o

cons_all : (f g : Family) (fs gs : List Family) → map zero_count f ≡ map zero_count g → plain fs ≡ plain gs → plain (f ∷ fs) ≡ plain (g ∷ gs)
cons_all f g fs gs p o = ap₂ {C = List Family} (λ x xs. x ∷ xs) p o

group_family_plain : (e : Entity) (acc : List ℕ) (sets : List SparseSet) (rs : Family) → map zero_count (group_family e acc sets rs).groups ≡ map zero_count rs
unfolding group_family
group_family_plain e acc sets [] = refl
group_family_plain e acc sets (r ∷ rs) =
    cond_case (λ (w : Walked). map zero_count w.groups ≡ map zero_count (r ∷ rs)) (all_held e r.new_kinds sets) _ _
    (λ t. cons (group_components e (acc ++ r.new_kinds) r sets).group r (group_family e (acc ++ r.new_kinds) (group_components e (acc ++ r.new_kinds) r sets).sets rs).groups rs (group_components_plain e (acc ++ r.new_kinds) r sets) (group_family_plain e (acc ++ r.new_kinds) (group_components e (acc ++ r.new_kinds) r sets).sets rs))
    (λ t. refl)

ungroup_family_plain : (e : Entity) (gone acc : List ℕ) (sets : List SparseSet) (rs : Family) → map zero_count (ungroup_family e gone acc sets rs).groups ≡ map zero_count rs
unfolding ungroup_family
ungroup_family_plain e gone acc sets [] = refl
ungroup_family_plain e gone acc sets (r ∷ rs) =
    cond_case (λ (w : Walked). map zero_count w.groups ≡ map zero_count (r ∷ rs)) (meets gone (acc ++ r.new_kinds)) _ _
    (λ t. cons (ungroup_components e (acc ++ r.new_kinds) r (ungroup_family e gone (acc ++ r.new_kinds) sets rs).sets).group r (ungroup_family e gone (acc ++ r.new_kinds) sets rs).groups rs (ungroup_components_plain e (acc ++ r.new_kinds) r (ungroup_family e gone (acc ++ r.new_kinds) sets rs).sets) (ungroup_family_plain e gone (acc ++ r.new_kinds) sets rs))
    (λ t. cons r r (ungroup_family e gone (acc ++ r.new_kinds) sets rs).groups rs refl (ungroup_family_plain e gone (acc ++ r.new_kinds) sets rs))

group_touched_plain : (e : Entity) (ks : List ℕ) (sets : List SparseSet) (fs : List Family) → plain (group_touched e ks sets fs).layout ≡ plain fs
unfolding group_touched
group_touched_plain e ks sets [] = refl
group_touched_plain e ks sets (f ∷ fs) =
    cond_case (λ (p : Storage). plain p.layout ≡ plain (f ∷ fs)) (meets ks (kinds_of f)) _ _
    (λ t. cons_all (group_family e [] sets f).groups f (group_touched e ks (group_family e [] sets f).sets fs).layout fs (group_family_plain e [] sets f) (group_touched_plain e ks (group_family e [] sets f).sets fs))
    (λ t. cons_all f f (group_touched e ks sets fs).layout fs refl (group_touched_plain e ks sets fs))

ungroup_plain : (e : Entity) (gone : List ℕ) (sets : List SparseSet) (fs : List Family) → plain (ungroup e gone sets fs).layout ≡ plain fs
unfolding ungroup
ungroup_plain e gone sets [] = refl
ungroup_plain e gone sets (f ∷ fs) = cons_all (ungroup_family e gone [] sets f).groups f (ungroup e gone (ungroup_family e gone [] sets f).sets fs).layout fs (ungroup_family_plain e gone [] sets f) (ungroup_plain e gone (ungroup_family e gone [] sets f).sets fs)

group_all_plain : (e : Entity) (sets : List SparseSet) (fs : List Family) → plain (group_all e sets fs).layout ≡ plain fs
unfolding group_all
group_all_plain e sets [] = refl
group_all_plain e sets (f ∷ fs) = cons_all (group_family e [] sets f).groups f (group_all e (group_family e [] sets f).sets fs).layout fs (group_family_plain e [] sets f) (group_all_plain e (group_family e [] sets f).sets fs)

-- ---- the operations

pub insert_plain : (e : Entity) (staged : List Component) (p : Storage) → plain (insert_components e staged p).layout ≡ plain p.layout
unfolding insert_components
insert_plain e staged p = group_touched_plain e (map kind_of staged) (insert_all e staged p.sets) p.layout

pub remove_plain : (e : Entity) (gone : List ℕ) (p : Storage) → plain (remove e gone p).layout ≡ plain p.layout
unfolding remove
remove_plain e gone p = ungroup_plain e gone p.sets p.layout

regroup_plain : (live : List Entity) (p : Storage) → plain (regroup live p).layout ≡ plain p.layout
unfolding regroup
regroup_plain [] p = refl
regroup_plain (e ∷ es) p = regroup_plain es (group_all e p.sets p.layout) ∙ group_all_plain e p.sets p.layout

plain_family : (f : Family) → map zero_count (map zero_count f) ≡ map zero_count f
plain_family [] = refl
plain_family (r ∷ rs) = ap {B = Family} (λ xs. zero_count r ∷ xs) (plain_family rs)

plain_plain : (fs : List Family) → plain (plain fs) ≡ plain fs
plain_plain [] = refl
plain_plain (f ∷ fs) = ap₂ {C = List Family} (λ x xs. x ∷ xs) (plain_family f) (plain_plain fs)

pub set_layout_plain : (live : List Entity) (draft : List Family) (p : Storage) → plain (set_layout live draft p).layout ≡ plain draft
unfolding set_layout
set_layout_plain live draft p = regroup_plain live (record { sets = p.sets; layout = plain draft }) ∙ plain_plain draft

pub clear_all_plain : (p : Storage) → plain (clear_all p).layout ≡ plain p.layout
unfolding clear_all
clear_all_plain p = plain_plain p.layout

-- ---- what commands can build, up to counts

layout_kinds_plain : (fs : List Family) → layout_kinds (plain fs) ≡ layout_kinds fs
layout_kinds_plain [] = refl
layout_kinds_plain (f ∷ fs) = ap₂ (λ (a b : List ℕ). a ++ b) (zero_kinds f) (layout_kinds_plain fs)

pub groups_of_plain : (fs : List Family) → groups_of (plain fs) ≡ groups_of fs
groups_of_plain [] = refl
groups_of_plain (f ∷ fs) = ap₂ (λ (a b : ℕ). a + b) (length-map f zero_count) (groups_of_plain fs)

rising_to : (f : Family) → Rising f → Rising (map zero_count f)
rising_to [] h = tt
rising_to (r ∷ rs) h = (h.0, rising_to rs h.1)

rising_from_law : (f : Family) → Rising (map zero_count f) → Rising f
rising_from_law [] h = tt
rising_from_law (r ∷ rs) h = (h.0, rising_from_law rs h.1)

families_to : (fs : List Family) → BuildableFamilies fs → BuildableFamilies (plain fs)
families_to [] h = tt
families_to ([] ∷ fs) h = absurd h.0
families_to ((r ∷ rs) ∷ fs) h = ((h.0.0, rising_to rs h.0.1, rw (zero_kinds rs) h.0.2), families_to fs h.1)

families_from : (fs : List Family) → BuildableFamilies (plain fs) → BuildableFamilies fs
families_from [] h = tt
families_from ([] ∷ fs) h = absurd h.0
families_from ((r ∷ rs) ∷ fs) h = ((h.0.0, rising_from_law rs h.0.1, rw (zero_kinds rs) at h.0.2), families_from fs h.1)

plain_to : (kinds : List ℕ) (fs : List Family) → Buildable kinds fs → Buildable kinds (plain fs)
plain_to kinds fs b =
    record {
      families = families_to fs b.families;
      once = rw (layout_kinds_plain fs) b.once;
      known = rw (layout_kinds_plain fs) b.known;
      few = rw (groups_of_plain fs) b.few;
    }

plain_from : (kinds : List ℕ) (fs : List Family) → Buildable kinds (plain fs) → Buildable kinds fs
plain_from kinds fs b =
    record {
      families = families_from fs b.families;
      once = rw (layout_kinds_plain fs) at b.once;
      known = rw (layout_kinds_plain fs) at b.known;
      few = rw (groups_of_plain fs) at b.few;
    }

pub buildable_plain : (kinds : List ℕ) (fs gs : List Family) → plain gs ≡ plain fs → Buildable kinds fs → Buildable kinds gs
buildable_plain kinds fs gs p b = plain_from kinds gs (rw p (plain_to kinds fs b))
