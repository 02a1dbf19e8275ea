use borrow.Author.Rules.{rules}
use borrow.Author.Tests.{tests}
use Rattle.model.specs.Sound.{Limits}
use Rattle.memory.specs.Header.{capacity_of, kind_capacity_of, value_bytes_of}
use Rattle.soundness.proofs.Whole.{size_left}
use Rattle.soundness.proofs.has_room.Goals as goal

pub returns-then-within_limits : goal.returns-then-within_limits
returns-then-within_limits c =
    let w = c.args.words.now in
    let limits : Limits (capacity_of w) (kind_capacity_of w) (value_bytes_of w) = search (rules, tests) in
    size_left (capacity_of w) (kind_capacity_of w) (value_bytes_of w) w c.words_needed.result limits c.words_needed.ensures
