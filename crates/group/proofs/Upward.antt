-- The walk upward over positions is the model's walk family by family. Assumes nothing.
use mathlib.Core.Path.{◌≡◌, refl, ap, sym, ◌∙◌}
use mathlib.Core.Bool.{Bool, true, false, cond}
use mathlib.Core.List.{List, [], ◌∷◌, ◌++◌}
use Prim.Native.Nat.{ℕ, zero, suc, ◌+◌, ◌-◌, ◌≤◌, ◌<◌}
use native.Mathlib.Omega.{arith}
use native.Mathlib.Numerals.{add-one}
use borrow.Author.Tests.{lt-ltb, le-ltb}
use lib.ListN.{length}
use Rattle.model.specs.Model.{Entity, SparseSet, Group, Family, Storage, Walked, meets, set_of, at, on_kinds, swap_to, all_held, is_grouped, head_kind, kinds_of, group_components, group_family, group_touched, group_all}
use Rattle.model.proofs.BoolLaws.{cond_case, bool_cases}
use Rattle.model.proofs.Walk.{group_stays, group_moves}
use Rattle.masks.specs.Masks.{up_from}
use Rattle.masks.proofs.Lists.{has_here, has_later}
use Rattle.masks.proofs.Rising.{From}
use Rattle.group.specs.declared.group_status.GroupStatus.{GroupStatus}
use Rattle.group.specs.declared.group_status.GroupStatus.TheVariants.{Incomplete, Ungrouped, Grouped}
use Rattle.group.specs.Flat.{Located, located, with_count, moved_to, status_of, status_at, group_at, ungroup_at, step_up, skip_after, walk_up, passing, positions_where, insert_positions, all_positions}
use Rattle.group.proofs.Fronts.{Front, whole, past, Hole, opened, next, Here, here, put_here}
use Rattle.group.proofs.Positions.{where_family, family_all, family_none, where_within, where_all}

-- ---- a walk upward step by step: what it leaves, or what its steps need

pub record Stepwise {ℓ} (X : Type ℓ) (e : Entity) (step : GroupStatus → ℕ → Storage → X → X) (walk : ℕ → List ℕ → Storage → X) : Type ℓ where
  pub none : (skip : ℕ) (s : Storage) → walk skip [] s ≡ walk 0 [] s
  pub pass : (skip g : ℕ) (ps : List ℕ) (s : Storage) → g < skip → walk skip (g ∷ ps) s ≡ walk skip ps s
  pub on : (skip g : ℕ) (ps : List ℕ) (s : Storage) → skip ≤ g → (t : GroupStatus) → status_at e g s ≡ t
      → walk skip (g ∷ ps) s ≡ step t g s (walk (skip_after t (located s.layout g).top skip) ps (step_up t e g s))

module _ {ℓ} {X : Type ℓ} {e : Entity} {step : GroupStatus → ℕ → Storage → X → X} {walk : ℕ → List ℕ → Storage → X} (W : Stepwise X e step walk) where
  -- what all positions are past need not be skipped
  pub up_from_law : (skip : ℕ) (ps : List ℕ) (s : Storage) → From skip ps → walk skip ps s ≡ walk 0 ps s
  up_from_law skip [] s f = W.none skip s
  up_from_law skip (g ∷ ps) s f =
      W.on skip g ps s (f g (has_here g ps)) (status_at e g s) refl
      ∙ ap (step (status_at e g s) g s) (same (status_at e g s) (λ s'. up_from_law skip ps s' (λ i h. f i (has_later i g ps h))))
      ∙ sym (W.on 0 g ps s (omega arith) (status_at e g s) refl)
    where
      top : ℕ
      top = (located s.layout g).top

      same : (t : GroupStatus) → ((s' : Storage) → walk skip ps s' ≡ walk 0 ps s') → walk (skip_after t top skip) ps (step_up t e g s) ≡ walk (skip_after t top 0) ps (step_up t e g s)
      same Incomplete r = refl
      same Ungrouped r = r (group_at e g s)
      same (Grouped place) r = r s

  -- a run of positions below skip is passed over
  up_past : (skip p n : ℕ) (ps : List ℕ) (s : Storage) → p + n ≤ skip → walk skip (up_from p n ++ ps) s ≡ walk skip ps s
  unfolding up_from
  up_past skip p zero ps s h = refl
  up_past skip p (suc n) ps s h = W.pass skip p (up_from (suc p) n ++ ps) s (omega arith) ∙ up_past skip (suc p) n ps s (omega arith)

-- ---- a group of a family

module _ (e : Entity) {acc : List ℕ} {first top p : ℕ} (H : Hole acc first top p) (sets : List SparseSet) (r : Group) (rs : Family) (fits : p + suc (length rs) ≡ top) where
  abbrev pub At : Storage
  At = record { sets = sets; layout = H.build (r ∷ rs) }

  pub status_here : status_at e p At ≡ status_of e (Here H r rs) sets
  status_here = ap (λ (l : Located). status_of e l sets) (here H r rs fits)

  pub top_here : (located At.layout p).top ≡ top
  top_here = ap (λ (l : Located). l.top) (here H r rs fits)

  pub incomplete_here : all_held e r.new_kinds sets ≡ false → status_at e p At ≡ Incomplete
  incomplete_here a = status_here ∙ rw a

  pub grouped_here : all_held e r.new_kinds sets ≡ true → is_grouped e r sets ≡ true → status_at e p At ≡ Grouped (at e (set_of sets (head_kind r.new_kinds)))
  grouped_here a b = status_here ∙ rw (a, b)

  pub ungrouped_here : all_held e r.new_kinds sets ≡ true → is_grouped e r sets ≡ false → status_at e p At ≡ Ungrouped
  ungrouped_here a b = status_here ∙ rw (a, b)

  -- swapped to place c in the group's kinds, and n for its count
  abbrev pub Moved : ℕ → ℕ → Storage
  Moved c n = record { sets = on_kinds (acc ++ r.new_kinds) (swap_to e c) sets; layout = H.build (with_count n r ∷ rs) }

  moved_here : (c n : ℕ) → moved_to e p c n At ≡ Moved c n
  moved_here c n = λ i. record { sets = on_kinds (here H r rs fits i).kinds (swap_to e c) sets; layout = put_here H r rs n i }

  pub group_here : group_at e p At ≡ Moved r.count (suc r.count)
  unfolding group_at
  group_here = ap (λ (l : Located). moved_to e p l.count (l.count + 1) At) (here H r rs fits) ∙ moved_here r.count (r.count + 1) ∙ ap (Moved r.count) (add-one r.count)

  pub ungroup_here : ungroup_at e p At ≡ Moved (r.count - 1) (r.count - 1)
  unfolding ungroup_at
  ungroup_here = ap (λ (l : Located). moved_to e p (l.count - 1) (l.count - 1) At) (here H r rs fits) ∙ moved_here (r.count - 1) (r.count - 1)

-- ---- a family

-- R of a walk and of what is left of it: that they are the same, or the needs of the walk from the needs of what is left. C is what the steps rest on,
-- before the groups rs of a family; acc are the kinds of the group before.
pub record Climb {ℓ} (X : Type ℓ) (e : Entity) (step : GroupStatus → ℕ → Storage → X → X) (R : X → X → Type 0) (C : List SparseSet → List ℕ → Family → Type 0) : Type ℓ where
  pub same : (x : X) → R x x
  pub both : {x y z : X} → R x y → R y z → R x z
  pub left : {x y : X} (g : ℕ) (s : Storage) → R x y → R (step Incomplete g s x) y
  pub inside : {x y : X} (place g : ℕ) (s : Storage) → R x y → R (step (Grouped place) g s x) y
  pub enters : {x y : X} {acc : List ℕ} {first top p : ℕ} (H : Hole acc first top p) (sets : List SparseSet) (r : Group) (rs : Family) (fits : p + suc (length rs) ≡ top)
      → C sets acc (r ∷ rs) → all_held e r.new_kinds sets ≡ true → is_grouped e r sets ≡ false → R x y → R (step Ungrouped p (At e H sets r rs fits) x) y
  pub past : (acc : List ℕ) (sets : List SparseSet) (r : Group) (rs : Family) → C sets acc (r ∷ rs) → all_held e r.new_kinds sets ≡ true → C sets (acc ++ r.new_kinds) rs
  pub moved : (acc : List ℕ) (sets : List SparseSet) (r : Group) (rs : Family) → C sets acc (r ∷ rs) → all_held e r.new_kinds sets ≡ true → is_grouped e r sets ≡ false
      → C (on_kinds (acc ++ r.new_kinds) (swap_to e r.count) sets) (acc ++ r.new_kinds) rs

abbrev pub at_hole : {acc : List ℕ} {first top p : ℕ} → Hole acc first top p → Walked → Storage
at_hole H w = record { sets = w.sets; layout = H.build w.groups }

-- the walk leaves as many groups
length_up : (e : Entity) (acc : List ℕ) (sets : List SparseSet) (rs : Family) → length (group_family e acc sets rs).groups ≡ length rs
unfolding group_family
length_up e acc sets [] = refl
length_up e acc sets (r ∷ rs) =
    cond_case (λ (w : Walked). length w.groups ≡ suc (length rs)) (all_held e r.new_kinds sets) _ _
    (λ a. ap suc (length_up e (acc ++ r.new_kinds) (group_components e (acc ++ r.new_kinds) r sets).sets rs))
    (λ a. refl)

-- the families that pass the test are walked upward
unfoldable pub group_where : (Family → Bool) → Entity → List SparseSet → List Family → Storage
group_where t e sets [] = record { sets = sets; layout = [] }
group_where t e sets (f ∷ fs) =
    let w = group_family e [] sets f in
    let p = group_where t e w.sets fs in
    let q = group_where t e sets fs in
    let on : Storage = record { sets = p.sets; layout = w.groups ∷ p.layout } in
    let off : Storage = record { sets = q.sets; layout = f ∷ q.layout } in
    cond (t f) on off

touched_where : (e : Entity) (ks : List ℕ) (sets : List SparseSet) (fs : List Family) → group_where (λ f. meets ks (kinds_of f)) e sets fs ≡ group_touched e ks sets fs
unfolding group_where group_touched
touched_where e ks sets [] = refl
touched_where e ks sets (f ∷ fs) = rw (touched_where e ks sets fs, touched_where e ks (group_family e [] sets f).sets fs)

all_where : (e : Entity) (sets : List SparseSet) (fs : List Family) → group_where (λ f. true) e sets fs ≡ group_all e sets fs
unfolding group_where group_all
all_where e sets [] = refl
all_where e sets (f ∷ fs) = rw (all_where e (group_family e [] sets f).sets fs)

abbrev pub at_front : {p : ℕ} → Front p → Storage → Storage
at_front F s = record { sets = s.sets; layout = F.build s.layout }

module _ {ℓ} {X : Type ℓ} {e : Entity} {step : GroupStatus → ℕ → Storage → X → X} {walk : ℕ → List ℕ → Storage → X} {R : X → X → Type 0} {C : List SparseSet → List ℕ → Family → Type 0}
    (W : Stepwise X e step walk) (K : Climb X e step R C) where
  family_climbs : {acc : List ℕ} {first top p : ℕ} (H : Hole acc first top p) (sets : List SparseSet) (rs : Family) (skip : ℕ) (ps : List ℕ) → p + length rs ≡ top → skip ≤ p → From top ps → C sets acc rs
      → R (walk skip (up_from p (length rs) ++ ps) (record { sets = sets; layout = H.build rs })) (walk 0 ps (at_hole H (group_family e acc sets rs)))
  unfolding up_from group_family
  family_climbs H sets [] skip ps fits le f c = rw (up_from_law W skip ps (record { sets = sets; layout = H.build [] }) (λ i h. omega (arith, f i h))) (K.same _)
  family_climbs {acc} {first} {top} {p} H sets (r ∷ rs) skip ps fits le f c =
      bool_cases (all_held e r.new_kinds sets)
      (λ a. bool_cases (is_grouped e r sets)
      (λ b. rw (W.on skip p rest S le (Grouped here_at) (grouped_here e H sets r rs fits a b), a, group_stays e (acc ++ r.new_kinds) r sets b)
      (K.inside here_at p S (family_climbs (next H r) sets rs skip ps (omega arith) (omega arith) f (K.past acc sets r rs c a))))
      (λ b. rw (W.on skip p rest S le Ungrouped (ungrouped_here e H sets r rs fits a b), group_here e H sets r rs fits, a, group_moves e (acc ++ r.new_kinds) r sets b)
      (K.enters H sets r rs fits c a b (family_climbs (next H (with_count (suc r.count) r)) M rs skip ps (omega arith) (omega arith) f (K.moved acc sets r rs c a b)))))
      (λ a. rw (W.on skip p rest S le Incomplete (incomplete_here e H sets r rs fits a), top_here e H sets r rs fits, up_past W top (suc p) (length rs) ps S (omega arith), up_from_law W top ps S f, a)
      (K.left p S (K.same (walk 0 ps S))))
    where
      S : Storage
      S = record { sets = sets; layout = H.build (r ∷ rs) }

      here_at : ℕ
      here_at = at e (set_of sets (head_kind r.new_kinds))

      M : List SparseSet
      M = on_kinds (acc ++ r.new_kinds) (swap_to e r.count) sets

      rest : List ℕ
      rest = up_from (suc p) (length rs) ++ ps

  -- ---- all families that pass a test: A is what the walks rest on, before the families fs

  pub where_climbs : (t : Family → Bool) (A : List SparseSet → List Family → Type 0)
      → ((sets : List SparseSet) (f : Family) (fs : List Family) → A sets (f ∷ fs) → t f ≡ true → C sets [] f × A (group_family e [] sets f).sets fs)
      → ((sets : List SparseSet) (f : Family) (fs : List Family) → A sets (f ∷ fs) → A sets fs)
      → {p : ℕ} (F : Front p) (sets : List SparseSet) (fs : List Family) → A sets fs
      → R (walk 0 (positions_where (λ f ks. t f) p fs) (at_front F (record { sets = sets; layout = fs }))) (walk 0 [] (at_front F (group_where t e sets fs)))
  unfolding passing group_where
  where_climbs t A on off {p = p} F sets [] a = K.same _
  where_climbs t A on off {p = p} F sets (f ∷ fs) a =
      rw (where_family T p f fs)
      (bool_cases (t f)
      (λ m. rw (m, family_all T f (λ ks. m) p [] f)
      (let o = on sets f fs a m in
      K.both (family_climbs (opened F (p + length f) fs) sets f 0 (positions_where T (p + length f) fs) refl (omega arith) (λ i h. (where_within T (p + length f) fs i h).0) o.0)
      (rw (ap (λ (n : ℕ). p + n) (sym (length_up e [] sets f))) (where_climbs t A on off {p = p + length w.groups} (past F w.groups refl) w.sets fs o.1))))
      (λ m. rw (m, family_none T f (λ ks. m) p [] f) (where_climbs t A on off {p = p + length f} (past F f refl) sets fs (off sets f fs a))))
    where
      T : Family → List ℕ → Bool
      T f ks = t f

      w : Walked
      w = group_family e [] sets f

-- ---- the walk itself

pub walk_steps : (e : Entity) → Stepwise Storage e (λ t g s x. x) (walk_up e)
unfolding walk_up
walk_steps e =
    record {
      none = λ skip s. refl;
      pass = λ skip g ps s h. rw (lt-ltb g skip h);
      on = λ skip g ps s h t q. rw (le-ltb g skip h, q);
    }

walk_climb : (e : Entity) → Climb Storage e (λ t g s x. x) (λ x y. x ≡ y) (λ sets acc rs. Unit {0})
walk_climb e =
    record {
      same = λ x. refl;
      both = λ p q. p ∙ q;
      left = λ g s r. r;
      inside = λ place g s r. r;
      enters = λ H sets r rs fits c a b q. q;
      past = λ acc sets r rs c a. tt;
      moved = λ acc sets r rs c a b. tt;
    }

walk_where : (t : Family → Bool) (e : Entity) (s : Storage) → walk_up e 0 (positions_where (λ f ks. t f) 0 s.layout) s ≡ group_where t e s.sets s.layout
unfolding walk_up
walk_where t e s = where_climbs (walk_steps e) (walk_climb e) t (λ sets fs. Unit {0}) (λ sets f fs a m. (tt, tt)) (λ sets f fs a. tt) whole s.sets s.layout tt

-- insertion's walk
pub walk_touched : (e : Entity) (ks : List ℕ) (s : Storage) → walk_up e 0 (insert_positions ks s.layout) s ≡ group_touched e ks s.sets s.layout
walk_touched e ks s = walk_where (λ f. meets ks (kinds_of f)) e s ∙ touched_where e ks s.sets s.layout

-- the walk of each live entity, when a layout is applied
pub walk_all : (e : Entity) (s : Storage) → walk_up e 0 (all_positions s.layout) s ≡ group_all e s.sets s.layout
walk_all e s = ap (λ (ps : List ℕ). walk_up e 0 ps s) (sym (where_all 0 s.layout)) ∙ walk_where (λ f. true) e s ∙ all_where e s.sets s.layout
