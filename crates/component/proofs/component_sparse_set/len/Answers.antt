use Rattle.component.proofs.Meaning.{length_rows}
use Rattle.component.proofs.component_sparse_set.len.Goals as goal

pub returns : goal.returns
returns c = λ z. length_rows z c.args.part.now
