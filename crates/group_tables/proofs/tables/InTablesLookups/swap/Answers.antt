use Rattle.model.specs.Model.{swap_to, entity}
use Rattle.group_tables.proofs.Columns.{swaps_from, column_changes}
use Rattle.group_tables.proofs.tables.InTablesLookups.swap.Goals as goal

pub swap_to_from-requires : goal.swap_to_from-requires
swap_to_from-requires c =
    let a = c.args in
    swaps_from a.words.now a.self.tables.now.shape a.self.tables.now.starts c.requires.arranged c.requires.lookups.columns a.place c.requires.place_in_bounds (entity a.e.index a.e.version) a.swap_index c.requires.holds c.requires.room

pub returns : goal.returns
returns c =
    let a = c.args in
    column_changes a.words.now a.self.tables.now.shape a.self.tables.now.starts c.requires.arranged c.requires.lookups.columns a.place c.requires.place_in_bounds c.swap_to_from.new.words (swap_to (entity a.e.index a.e.version) a.swap_index) c.swap_to_from.ensures
