use mathlib.Core.Path.{◌≡◌}
use Rattle.model.specs.Model.{SparseSet, held, entity}
use Rattle.group_tables.proofs.Columns.{lent_from, of_kind}
use Rattle.group_tables.proofs.tables.InTablesLookups.holds.Goals as goal

pub holds_from-requires-clause-lent_from : goal.holds_from-requires-clause-lent_from
holds_from-requires-clause-lent_from c =
    let a = c.args in
    lent_from a.words.now a.self.tables.now.shape a.self.tables.now.starts c.requires.arranged c.requires.lookups.columns a.place c.requires.place_in_bounds

pub returns : goal.returns
returns c =
    let a = c.args in
    of_kind a.words.now a.self.tables.now.shape a.self.tables.now.starts c.requires.arranged c.requires.lookups.columns a.place c.requires.place_in_bounds (λ (rs : SparseSet). c.holds_from.result ≡ held (entity a.e.index a.e.version) rs) c.holds_from.ensures
