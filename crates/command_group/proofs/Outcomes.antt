-- GROUP, by the answer that the draft by value got. Assumes nothing.
use mathlib.Core.Path.{◌≡◌, refl, sym, ap, ◌∙◌}
use mathlib.Core.Bool.{Bool}
use mathlib.Core.List.{List}
use Prim.Native.Nat.{ℕ}
use Rattle.model.specs.Store.{Store, with_control, with_draft, empty_staged}
use Rattle.model.specs.Commands.{GROUP}
use Rattle.model.specs.Run.{does}
use Rattle.model.proofs.Outcomes.{group_does}
use Rattle.model.specs.Theorems.{grouped}
use Rattle.layout.specs.declared.group_layout.Answer.{Answer}
use Rattle.layout.specs.declared.group_layout.Layout.{Layout}
use Rattle.std.specs.Prelude.{Result}
use Rattle.model.specs.declared.refusals.Refusal.{Refusal}
use Rattle.layout.specs.ByValue as layout
use Rattle.layout.specs.Add.{model_of}
use Rattle.memory.specs.Meaning.{meaning}
use Rattle.memory.specs.Arranged.{Becomes}
use Rattle.memory.proofs.Becomes.{becomes_next}
use Rattle.control.specs.Draft.{drafting}
use Rattle.command_group.specs.Drafts.{Drafts}

-- the command's outcome is the answer's
pub group_as : (s : Store) (r : Answer) (o : Result Bool Refusal) → Drafts s r → r.outcome ≡ o → does GROUP s ≡ grouped s (model_of o (layout.layout_meaning r.layout))
group_as s r o D e = group_does s ∙ ap (grouped s) (sym D.says) ∙ ap (λ (x : Result Bool Refusal). grouped s (model_of x (layout.layout_meaning r.layout))) e

-- the draft set, and then the staged list emptied
pub drafted_emptied : {w₀ w w' : List ℕ} (l : Layout) → Becomes w₀ w (drafting l (meaning w₀)) → Becomes w w' (with_control (meaning w) (empty_staged (meaning w).control))
    → Becomes w₀ w' (with_control (meaning w₀) (with_draft (empty_staged (meaning w₀).control) (layout.layout_meaning l)))
drafted_emptied {w₀} l B C = becomes_next (drafting l (meaning w₀)) (λ (t : Store). with_control t (empty_staged t.control)) B refl C
