use Rattle.std.proofs.Common.{◌∙◌}
use Rattle.codec.proofs.Low.{get_low}
use Rattle.codec.proofs.get.Goals as goal

pub returns : goal.returns
returns g c = c.from_le_bytes.ensures ∙ get_low g.row.N c.args.at c.args.tape.now _ c.requires.few c.requires.room c.copy_from_slice.ensures.after
