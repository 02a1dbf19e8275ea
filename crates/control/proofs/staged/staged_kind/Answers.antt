use mathlib.Core.Path.{sym, ap, ◌∙◌}
use native.Mathlib.Omega.{arith}
use Rattle.model.specs.Model.{kind_of}
use Rattle.memory.proofs.Frames.{long}
use Rattle.control.proofs.Control.{staged_read, staged_few}
use Rattle.control.proofs.staged.staged_kind.Goals as goal

pub overflow_add-i : goal.overflow_add-i
overflow_add-i c = omega (arith, c.requires.i_in_bounds, staged_few c.args.words.now c.requires.arranged)

pub word-requires : goal.word-requires
word-requires c = omega (arith, c.requires.i_in_bounds, staged_few c.args.words.now c.requires.arranged, long c.args.words.now c.requires.arranged)

pub returns : goal.returns
returns c = c.word.ensures.is ∙ sym (ap kind_of (staged_read c.args.words.now c.args.i c.requires.i_in_bounds))
