use Rattle.store_c.proofs.held.yirbarn_held_column_at.Goals as goal

pub returns : goal.returns
returns c = c.column_at.ensures
