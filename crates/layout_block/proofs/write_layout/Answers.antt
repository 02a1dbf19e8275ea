use borrow.Author.Rules.{rules}
use Rattle.layout.specs.ByValue.{arrays_of, ArraysSized}
use Rattle.layout_block.proofs.Transfer
use Rattle.layout_block.proofs.write_layout.Goals as goal

pub returns : goal.returns
returns c =
    let sizes : ArraysSized (arrays_of c.args.l) = search rules in
    Transfer.write_done c.args.l c.requires.0 sizes _ _ _ _ _ c.requires.1 c.put.ensures c.put-2.ensures c.put-3.ensures c.put-4.ensures
