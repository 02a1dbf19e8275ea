-- What the walks of entities one after another need holds: of new entities that all have their components, and of all live ones when a layout is applied.
-- Assumes nothing.
use mathlib.Core.Path.{◌≡◌, sym, ◌∙◌, subst}
use mathlib.Core.Bool.{true}
use mathlib.Core.List.{List, [], ◌∷◌, map}
use Prim.Native.Nat.{ℕ}
use lib.ListN.{length}
use Rattle.model.specs.Model.{Entity, SparseSet, Family, Component, Storage, meets, kinds_of, kind_of, insert_components, group_all}
use Rattle.model.specs.Sound.{key, Distinct}
use Rattle.model.proofs.Walk.{Plus}
use Rattle.model.proofs.Families.{Apart, fam_kinds, FamsFor, Kinds}
use Rattle.model.proofs.Invariant.{Fit, insert_fit}
use Rattle.model.proofs.Regroup.{FreshAll, None, UpEvery, group_family_every_good, fams_fresh}
use Rattle.model.proofs.Behind.{Fresh, pending, pending_even, group_first, after_kinds, after_fresh}
use Rattle.group.specs.Flat.{walk_up, insert_positions, all_positions}
use Rattle.group.specs.Ready.{ReadyUp, ReadyEach}
use Rattle.group.proofs.Positions.{where_all}
use Rattle.group.proofs.Upward.{walk_touched, walk_all}
use Rattle.group.proofs.UpReady.{ready_where}
use Rattle.group.proofs.Each.{touched_kept, all_kept}

-- ---- new entities, all with the staged components before the first is grouped

pub ready_new : (es : List Entity) (staged : List Component) (p : Storage) → Fit p → Kinds (length p.sets) staged → Distinct (map kind_of staged) → Fresh es p.sets
    → ReadyEach es (insert_positions (map kind_of staged) p.layout) (pending es staged p)
unfolding ReadyEach
ready_new [] staged p f lt d F = tt
ready_new (e ∷ es) staged p f lt d F =
    let s : Storage = pending (e ∷ es) staged p in
    let ks : List ℕ = map kind_of staged in
    let ps : List ℕ = insert_positions ks p.layout in
    let now : walk_up e 0 ps s ≡ pending es staged (insert_components e staged p) = walk_touched e ks s ∙ group_first e es staged p f lt d F in (
      ready_where (λ g. meets (map kind_of staged) (kinds_of g)) None e s f.apart (pending_even e es staged p f lt d F),
      subst (λ (qs : List ℕ). ReadyEach es qs (walk_up e 0 ps s)) (touched_kept ks e ps s)
          (subst (λ (x : Storage). ReadyEach es (insert_positions ks x.layout) x) (sym now)
          (ready_new es staged (insert_components e staged p) (insert_fit e staged p lt f) (after_kinds e es staged p f lt d F) d (after_fresh e es staged p f lt d F))),
    )

-- ---- a layout is applied

ready_each : (W : Entity → Type 0) (es : List Entity) (s : Storage) → Apart (fam_kinds s.layout) → FamsFor (key s.sets) W s.layout → ReadyEach es (all_positions s.layout) s
unfolding ReadyEach
ready_each W [] s apart fm = tt
ready_each W (e ∷ es) s apart fm =
    let U : UpEvery W e s.sets s.layout (group_all e s.sets s.layout) = group_family_every_good W e s.sets s.layout apart fm in
    let ps : List ℕ = all_positions s.layout in (
      subst (λ (qs : List ℕ). ReadyUp e 0 qs s) (where_all 0 s.layout) (ready_where (λ f. true) W e s apart fm),
      subst (λ (qs : List ℕ). ReadyEach es qs (walk_up e 0 ps s)) (all_kept e ps s)
          (subst (λ (x : Storage). ReadyEach es (all_positions x.layout) x) (sym (walk_all e s))
          (ready_each (Plus W e) es (group_all e s.sets s.layout) (rw U.kinds apart) U.fams)),
    )

-- the walk of each live entity in turn can be made
pub ready_regroup : (live : List Entity) (draft : List Family) (sets : List SparseSet) → FreshAll draft → Apart (fam_kinds draft) → ReadyEach live (all_positions draft) (record { sets = sets; layout = draft })
ready_regroup live draft sets fr apart = ready_each None live (record { sets = sets; layout = draft }) apart (fams_fresh (key sets) draft fr)
