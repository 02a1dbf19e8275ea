use mathlib.Core.Path.{subst}
use native.Mathlib.Omega.{arith}
use mathlib.Core.List.{[], ◌∷◌, ◌++◌}
use Rattle.model.specs.Model.{SparseSet, insert_row, entity}
use Rattle.values.specs.Values.{value_of}
use Rattle.words.specs.declared.Found.{Found}
use Rattle.component.specs.Answers.{Finds}
use Rattle.component.specs.SparseSet.{rows}
use Rattle.component.specs.Stored.{valued}
use Rattle.component.proofs.Meaning.{length_rows}
use Rattle.component.proofs.Moves.{changed_as}
use Rattle.component.proofs.Places.{absent, insert_free, insert_held}
use Rattle.component.proofs.component_sparse_set.insert.Goals as goal

pub append-requires : goal.append-requires
append-requires c =
    let a = c.args in
    let e = entity a.e.index a.e.version in
    let rs = rows a.z a.part.now in
    let f = subst (λ (r : Found). Finds a.z e rs r) c.in_default.is c.find-found.ensures in
    record { column_sound = c.requires.column_sound; issued = c.requires.issued; absent = absent a.e.index a.e.version rs c.requires.current f }

pub returns-in_default : goal.returns-in_default
returns-in_default c =
    let a = c.args in
    let e = entity a.e.index a.e.version in
    let rs = rows a.z a.part.now in
    let f = subst (λ (r : Found). Finds a.z e rs r) c.in_default.is c.find-found.ensures in
    let v = value_of a.z.stride a.x in
    changed_as a.z (λ (q : SparseSet). q ++ (record { entity = e; value = v } ∷ [])) (insert_row e v) a.part.now c.append.new.part c.append.ensures (insert_free a.z e rs f v)

pub replace-requires : goal.replace-requires
replace-requires c =
    let a = c.args in
    let e = entity a.e.index a.e.version in
    let rs = rows a.z a.part.now in
    let p = c.in-At.place in
    let f = subst (λ (r : Found). Finds a.z e rs r) c.in-At.is c.find-found.ensures in
    record { column_sound = c.requires.column_sound; place_in_bounds = omega (arith, f.inside, length_rows a.z a.part.now) }

pub returns : goal.returns
returns c =
    let a = c.args in
    let e = entity a.e.index a.e.version in
    let rs = rows a.z a.part.now in
    let p = c.in-At.place in
    let f = subst (λ (r : Found). Finds a.z e rs r) c.in-At.is c.find-found.ensures in
    let v = value_of a.z.stride a.x in
    changed_as a.z (valued p v) (insert_row e v) a.part.now c.replace.new.part c.replace.ensures (insert_held a.z e rs p f v)
