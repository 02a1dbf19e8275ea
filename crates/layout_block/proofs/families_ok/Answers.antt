use mathlib.Core.List.{[]}
use Rattle.words.proofs.Decides.{denied}
use Rattle.std.proofs.lemmas.Bool.{not_from_false}
use Rattle.layout.specs.Layout.{arrays_in}
use Rattle.layout_block.proofs.Checking.{formed_stop}
use Rattle.layout_block.proofs.families_ok.Goals as goal

pub returns-then-not-family_ok : goal.returns-then-not-family_ok
returns-then-not-family_ok c = let a = arrays_in [] c.args.arities.now c.args.kind_ends.now c.args.ends.now c.args.families in let l = c.loop-f in formed_stop a l.kind_start l.group_start l.f c.loop-f-test.true l.invariant (denied c.family_ok.result c.family_ok.ensures (not_from_false _ c.if-not-family_ok.true))
