-- What adding a group answers, in document 01's numbers and in the model's terms. Assumes nothing.
use Rattle.std.specs.Prelude.{◌≡◌, Bool, true, false, List, ℕ, ◌≤◌, length, Result, Ok, Err}
use Rattle.model.specs.declared.refusals.Refusal.{Refusal}
use Rattle.model.specs.Codes.{refusal_code}
use Rattle.model.specs.Numbers.{MAX_GROUP_ARITY}
use Rattle.model.specs.Model.{Family}
use Rattle.model.specs.Adding.{Added, nothing, added, refused, add_group}
use Rattle.layout.specs.Layout.{KindSet}
use Rattle.layout.specs.ByValue.{Formed, layout_meaning}
use Rattle.layout.specs.Fit.{fit_from}
use Rattle.layout.specs.declared.group_layout.Fit.{Fit}
use Rattle.layout.specs.declared.group_layout.Fit.TheVariants.{Fresh}
use Rattle.layout.specs.declared.group_layout.Layout.{Layout}
use Rattle.layout.specs.declared.group_layout.Answer.{Answer}

-- the number of the refusal (01: CLASH, MANY), 0 where the command is accepted
abbrev pub refusal_of : Result Bool Refusal → ℕ
refusal_of (Ok told) = 0
refusal_of (Err refusal) = refusal_code refusal

-- 01: "a definition gives this paper's number and values for each of the enum's cases". The outcome with the families after it, as the model answers: GROUP's
-- byte is 0 for `nothing` and 1 for `added`, and a refusal has its number
abbrev pub model_of : Result Bool Refusal → List Family → Added
model_of (Ok false) fs = nothing
model_of (Ok true) fs = added fs
model_of (Err refusal) fs = refused (refusal_of (Err refusal))

-- the staged kinds, two to sixteen of them, stand so to the layout's families
pub record Fitting (l : Layout) (staged : List ℕ) (x : Fit) : Type 0 where
  pub formed : Formed l
  pub kinds : KindSet staged
  pub least : 2 ≤ length staged
  pub most : length staged ≤ MAX_GROUP_ARITY
  pub fits : fit_from staged 0 Fresh (layout_meaning l) ≡ x

-- GROUP, as the model says; unless the group is added, the layout is the one that came
pub record AddsGroup (l : Layout) (staged : List ℕ) (r : Answer) : Type 0 where
  pub formed : Formed r.layout
  pub says : model_of r.outcome (layout_meaning r.layout) ≡ add_group staged (layout_meaning l)
  pub kept : (r.outcome ≡ Ok true → ⊥) → r.layout ≡ l
