-- The live entities walked one after another over all groups, and a layout applied. Assumes nothing.
use mathlib.Core.Path.{◌≡◌, refl, ap, sym, ◌∙◌, subst}
use mathlib.Core.List.{List, []}
use Prim.Native.Nat.{ℕ}
use native.Mathlib.Omega.{arith}
use Rattle.model.specs.Model.{Entity, Storage, groups_of, regroup}
use Rattle.model.specs.Store.{Store, with_draft, with_storage, with_control, on_storage}
use Rattle.model.specs.Sound.{StoreSound}
use Rattle.model.proofs.Regroup.{FreshAll, set_layout_is}
use Rattle.model.proofs.Held.{distinct_families, buildable_fresh}
use Rattle.masks.specs.Masks.{has}
use Rattle.masks.proofs.Lists.{up_parts}
use Rattle.memory.specs.Meaning.{meaning}
use Rattle.memory.specs.Arranged.{Becomes}
use Rattle.memory.proofs.Becomes.{becomes_next}
use Rattle.group.specs.Flat.{walk_each, all_positions}
use Rattle.group.specs.Ready.{ReadyEach}
use Rattle.group.specs.Steps.{Below}
use Rattle.group.proofs.Each.{each_all}
use Rattle.group.proofs.EachReady.{ready_regroup}
use Rattle.group.proofs.Storing.{storage_becomes}
use Rattle.layout_apply.specs.Steps.{installed, applied}

-- ---- ps are all positions of the layout

module _ (w ps : List ℕ) (b : ps ≡ all_positions (meaning w).storage.layout) where
  pub all_below : Below ps (meaning w).storage
  all_below g t = let n = groups_of (meaning w).storage.layout in omega (arith, (up_parts 0 n g (ap (has g) (sym b) ∙ t)).1)

  pub all_ready : (es : List Entity) → ReadyEach es (all_positions (meaning w).storage.layout) (meaning w).storage → ReadyEach es ps (meaning w).storage
  all_ready es r = subst (λ (qs : List ℕ). ReadyEach es qs (meaning w).storage) (sym b) r

  pub all_regrouped : (es : List Entity) (w' : List ℕ) → Becomes w w' (on_storage (walk_each es ps) (meaning w)) → Becomes w w' (on_storage (regroup es) (meaning w))
  all_regrouped es w' B = storage_becomes w w' (meaning w) (walk_each es ps) (regroup es) (ap (λ (qs : List ℕ). walk_each es qs (meaning w).storage) b ∙ each_all es (meaning w).storage) B

-- ---- a layout applied

module _ (w w₁ : List ℕ) (M : StoreSound (meaning w)) (B : Becomes w w₁ (installed (meaning w))) where
  pub walks_ready : ReadyEach (meaning w₁).entities.live (all_positions (meaning w₁).storage.layout) (meaning w₁).storage
  walks_ready =
      let m = meaning w in
      subst (λ (x : Store). ReadyEach x.entities.live (all_positions x.storage.layout) x.storage) (sym B.means)
      (ready_regroup m.entities.live m.control.draft m.storage.sets (buildable_fresh m.control.draft M.draft.families M.uncounted) (distinct_families m.control.draft M.draft.once))

  pub applied_becomes : (w₂ : List ℕ) → Becomes w₁ w₂ (on_storage (regroup (meaning w₁).entities.live) (meaning w₁)) → Becomes w w₂ (applied (meaning w))
  applied_becomes w₂ C =
      let m = meaning w in
      let fresh : FreshAll m.control.draft = buildable_fresh m.control.draft M.draft.families M.uncounted in
      subst (λ (q : Storage). Becomes w w₂ (with_control (with_storage m q) (with_draft m.control []))) (sym (set_layout_is m.entities.live m.control.draft m.storage fresh))
      (becomes_next (installed m) (λ (x : Store). on_storage (regroup x.entities.live) x) B refl C)
