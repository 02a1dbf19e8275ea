-- What holds of every row of a kind's sparse set, as that its value fits its bytes, holds after every operation, if it holds of the rows of the
-- staged components. Assumes nothing.
use mathlib.Core.Path.{◌≡◌, refl}
use mathlib.Core.List.{List, [], ◌∷◌, ◌++◌, map}
use Prim.Native.Nat.{ℕ, ◌-◌, ◌<◌}
use native.Mathlib.Omega.{arith}
use native.Mathlib.Nat.{zero-add}
use native.Mathlib.Decide.{ℕ_discrete, dec_lt}
use lib.ListN.{length, get_or, set, get_or-map}
use lib.Seq.{get_or-set_same, get_or-set_other, set_out}
use Rattle.model.specs.Model.{Entity, Row, SparseSet, Group, Family, Component, Storage, Walked, GroupStep, no_row, mem, meets, set_of, at, held, all_held, is_grouped, swap_to, insert_row, remove_row, on_kinds, insert_all, kind_of, kinds_of, group_components, ungroup_components, group_family, ungroup_family, group_touched, ungroup, group_all, regroup, set_layout, insert_components, remove, clear_all}
use Rattle.model.proofs.ListLaws.{AllOf, all_set, all_take, all_snoc}
use Rattle.model.proofs.SparseSets.{set_of_map_on}
use Rattle.model.proofs.BoolLaws.{cond_case}

-- Q k holds of each row of kind k's sparse set
module _ (Q : ℕ → Row → Type 0) (Q0 : (k : ℕ) → Q k no_row) where
  abbrev pub ColOk : ℕ → SparseSet → Type 0
  ColOk k c = AllOf (Q k) no_row (Q0 k) c

  abbrev pub ColsOk : List SparseSet → Type 0
  ColsOk sets = (k : ℕ) → ColOk k (set_of sets k)

  abbrev pub StagedOk : Entity → List Component → Type 0
  StagedOk e [] = Unit {0}
  StagedOk e (p ∷ ps) = Q p.kind (record { entity = e; value = p.value }) × StagedOk e ps

  swap_ok : (e : Entity) (c k : ℕ) (rows : SparseSet) → ColOk k rows → ColOk k (swap_to e c rows)
  swap_ok e c k rows h = all_set (Q k) no_row (Q0 k) (set rows (at e rows) (get_or rows c no_row)) c (get_or rows (at e rows) no_row) (h (at e rows)) (all_set (Q k) no_row (Q0 k) rows (at e rows) (get_or rows c no_row) (h c) h)

  put_ok : (e : Entity) (v k : ℕ) (rows : SparseSet) → Q k (record { entity = e; value = v }) → ColOk k rows → ColOk k (insert_row e v rows)
  put_ok e v k rows qv h =
      cond_case (ColOk k) (held e rows) _ _ (λ t. all_set (Q k) no_row (Q0 k) rows (at e rows) (record { entity = e; value = v }) qv h) (λ t. all_snoc (Q k) no_row (Q0 k) rows (record { entity = e; value = v }) qv h)

  take_ok : (e : Entity) (k : ℕ) (rows : SparseSet) → ColOk k rows → ColOk k (remove_row e rows)
  take_ok e k rows h =
      cond_case (ColOk k) (held e rows) _ _ (λ t. all_take (Q k) no_row (Q0 k) (length rows - 1) (set rows (at e rows) (get_or rows (length rows - 1) no_row)) (all_set (Q k) no_row (Q0 k) rows (at e rows) (get_or rows (length rows - 1) no_row) (h (length rows - 1)) h)) (λ t. h)

  on_ok : (ks : List ℕ) (f : SparseSet → SparseSet) → f [] ≡ [] → ((k : ℕ) (c : SparseSet) → ColOk k c → ColOk k (f c)) → (sets : List SparseSet) → ColsOk sets → ColsOk (on_kinds ks f sets)
  on_ok ks f z g sets h k =
      rw (set_of_map_on ks f z 0 sets k, zero-add k) (cond_case (ColOk k) (mem k ks) _ _ (λ t. g k (set_of sets k) (h k)) (λ t. h k))

  cols_set : (sets : List SparseSet) (i : ℕ) (new : SparseSet) → ColOk i new → ColsOk sets → ColsOk (set sets i new)
  cols_set sets i new o h k = go (ℕ_discrete k i) (dec_lt i (length sets))
    where
      go : Dec (k ≡ i) → Dec (i < length sets) → ColOk k (set_of (set sets i new) k)
      go (yes q) (yes l) = rw (q, get_or-set_same sets i new [] l) o
      go (yes q) (no l) = rw (set_out sets i new (omega arith)) (h k)
      go (no q) l = rw (get_or-set_other sets i k new [] q) (h k)

  put_all_ok : (e : Entity) (staged : List Component) (sets : List SparseSet) → StagedOk e staged → ColsOk sets → ColsOk (insert_all e staged sets)
  put_all_ok e [] sets hh h = h
  put_all_ok e (p ∷ ps) sets hh h =
      put_all_ok e ps (set sets p.kind (insert_row e p.value (set_of sets p.kind))) hh.1
      (cols_set sets p.kind (insert_row e p.value (set_of sets p.kind)) (put_ok e p.value p.kind (set_of sets p.kind) hh.0 (h p.kind)) h)

  group_components_ok : (e : Entity) (ks : List ℕ) (r : Group) (sets : List SparseSet) → ColsOk sets → ColsOk (group_components e ks r sets).sets
  unfolding group_components
  group_components_ok e ks r sets h = cond_case (λ (s : GroupStep). ColsOk s.sets) (is_grouped e r sets) _ _ (λ t. h) (λ t. on_ok ks (swap_to e r.count) refl (swap_ok e r.count) sets h)

  ungroup_components_ok : (e : Entity) (ks : List ℕ) (r : Group) (sets : List SparseSet) → ColsOk sets → ColsOk (ungroup_components e ks r sets).sets
  unfolding ungroup_components
  ungroup_components_ok e ks r sets h = cond_case (λ (s : GroupStep). ColsOk s.sets) (is_grouped e r sets) _ _ (λ t. on_ok ks (swap_to e (r.count - 1)) refl (swap_ok e (r.count - 1)) sets h) (λ t. h)

  group_family_ok : (e : Entity) (acc : List ℕ) (sets : List SparseSet) (rs : Family) → ColsOk sets → ColsOk (group_family e acc sets rs).sets
  unfolding group_family
  group_family_ok e acc sets [] h = h
  group_family_ok e acc sets (r ∷ rs) h =
      cond_case (λ (s : Walked). ColsOk s.sets) (all_held e r.new_kinds sets) _ _
      (λ t. group_family_ok e (acc ++ r.new_kinds) (group_components e (acc ++ r.new_kinds) r sets).sets rs (group_components_ok e (acc ++ r.new_kinds) r sets h)) (λ t. h)

  ungroup_family_ok : (e : Entity) (gone acc : List ℕ) (sets : List SparseSet) (rs : Family) → ColsOk sets → ColsOk (ungroup_family e gone acc sets rs).sets
  unfolding ungroup_family
  ungroup_family_ok e gone acc sets [] h = h
  ungroup_family_ok e gone acc sets (r ∷ rs) h =
      cond_case (λ (s : Walked). ColsOk s.sets) (meets gone (acc ++ r.new_kinds)) _ _
      (λ t. ungroup_components_ok e (acc ++ r.new_kinds) r (ungroup_family e gone (acc ++ r.new_kinds) sets rs).sets (ungroup_family_ok e gone (acc ++ r.new_kinds) sets rs h))
      (λ t. ungroup_family_ok e gone (acc ++ r.new_kinds) sets rs h)

  pub group_family_all_ok : (e : Entity) (ks : List ℕ) (sets : List SparseSet) (fs : List Family) → ColsOk sets → ColsOk (group_touched e ks sets fs).sets
  unfolding group_touched
  group_family_all_ok e ks sets [] h = h
  group_family_all_ok e ks sets (f ∷ fs) h =
      cond_case (λ (s : Storage). ColsOk s.sets) (meets ks (kinds_of f)) _ _ (λ t. group_family_all_ok e ks (group_family e [] sets f).sets fs (group_family_ok e [] sets f h)) (λ t. group_family_all_ok e ks sets fs h)

  ungroup_family_all_ok : (e : Entity) (gone : List ℕ) (sets : List SparseSet) (fs : List Family) → ColsOk sets → ColsOk (ungroup e gone sets fs).sets
  unfolding ungroup
  ungroup_family_all_ok e gone sets [] h = h
  ungroup_family_all_ok e gone sets (f ∷ fs) h = ungroup_family_all_ok e gone (ungroup_family e gone [] sets f).sets fs (ungroup_family_ok e gone [] sets f h)

  group_family_every_ok : (e : Entity) (sets : List SparseSet) (fs : List Family) → ColsOk sets → ColsOk (group_all e sets fs).sets
  unfolding group_all
  group_family_every_ok e sets [] h = h
  group_family_every_ok e sets (f ∷ fs) h = group_family_every_ok e (group_family e [] sets f).sets fs (group_family_ok e [] sets f h)

  pub insert_ok : (e : Entity) (staged : List Component) (p : Storage) → StagedOk e staged → ColsOk p.sets → ColsOk (insert_components e staged p).sets
  unfolding insert_components
  insert_ok e staged p hh h = group_family_all_ok e (map kind_of staged) (insert_all e staged p.sets) p.layout (put_all_ok e staged p.sets hh h)

  pub remove_ok : (e : Entity) (gone : List ℕ) (p : Storage) → ColsOk p.sets → ColsOk (remove e gone p).sets
  unfolding remove
  remove_ok e gone p h = on_ok gone (remove_row e) refl (take_ok e) (ungroup e gone p.sets p.layout).sets (ungroup_family_all_ok e gone p.sets p.layout h)

  regroup_ok : (live : List Entity) (p : Storage) → ColsOk p.sets → ColsOk (regroup live p).sets
  unfolding regroup
  regroup_ok [] p h = h
  regroup_ok (e ∷ es) p h = regroup_ok es (group_all e p.sets p.layout) (group_family_every_ok e p.sets p.layout h)

  pub set_layout_ok : (live : List Entity) (draft : List Family) (p : Storage) → ColsOk p.sets → ColsOk (set_layout live draft p).sets
  unfolding set_layout
  set_layout_ok live draft p h = regroup_ok live (record { sets = p.sets; layout = _ }) h

  pub clear_all_ok : (p : Storage) → ColsOk (clear_all p).sets
  unfolding clear_all
  clear_all_ok p k = rw (get_or-map {B = SparseSet} (λ c. []) p.sets k []) (λ j. Q0 k)
