use Rattle.codec.proofs.Low.{put_low}
use Rattle.codec.proofs.put.Goals as goal

pub returns : goal.returns
returns g c = rw c.copy_from_slice.ensures.after (put_low g.row.N c.args.v c.args.at c.args.out.now _ c.requires.few c.requires.room c.to_le_bytes-bytes.ensures)
