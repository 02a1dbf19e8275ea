use mathlib.Core.Path.{subst}
use Rattle.model.specs.Model.{SparseSet, entity}
use Rattle.words.specs.declared.Shape.{Shape}
use Rattle.component.specs.Answers.{Finds}
use Rattle.kinds.specs.Kinds.{kind_set}
use Rattle.group.specs.Places.{kind_no}
use Rattle.group_tables.proofs.Columns.{lent_from, of_kind}
use Rattle.group_tables.proofs.tables.InTablesLookups.find.Goals as goal

pub find_from-requires-clause-lent_from : goal.find_from-requires-clause-lent_from
find_from-requires-clause-lent_from c =
    let a = c.args in
    lent_from a.words.now a.self.tables.now.shape a.self.tables.now.starts c.requires.arranged c.requires.lookups.columns a.place c.requires.place_in_bounds

pub returns : goal.returns
returns c =
    let a = c.args in
    let S = c.requires.lookups.columns in
    let e = entity a.e.index a.e.version in
    subst (λ (z : Shape). Finds z e (kind_set a.words.now (kind_no a.words.now a.place)) c.find_from.result) S.shape
    (of_kind a.words.now a.self.tables.now.shape a.self.tables.now.starts c.requires.arranged S a.place c.requires.place_in_bounds (λ (rs : SparseSet). Finds a.self.tables.now.shape e rs c.find_from.result) c.find_from.ensures)
