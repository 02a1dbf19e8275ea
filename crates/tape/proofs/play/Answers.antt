use Rattle.std.proofs.Common.{rules}
use Rattle.std.specs.Io.KnownBytes.{Appends}
use Rattle.tape.specs.Output.{output}
use Rattle.tape.specs.Played.{CutShort}
use Rattle.tape.proofs.Playing.{of_next}
use Rattle.tape.proofs.play.Goals as goal

pub returns-in-Ok-answer-clause-played : goal.returns-in-Ok-answer-clause-played
returns-in-Ok-answer-clause-played g c =
    of_next (λ t. Appends (g.W.Write.contents c.args.writer.now) (g.W.Write.contents c.answer.new.writer) (output t))
    _ _ c.read_up_to.new.buffer c.in-Ok.n (search rules) c.in-Ok.ensures.taken c.in-Ok-answer.ensures.ok

pub returns-in-Err-answer-clause-unanswered : goal.returns-in-Err-answer-clause-unanswered
returns-in-Err-answer-clause-unanswered g c =
    of_next (λ t. CutShort (g.W.Write.contents c.args.writer.now) (g.W.Write.contents c.answer.new.writer) (output t))
    _ _ c.read_up_to.new.buffer c.in-Ok.n (search rules) c.in-Ok.ensures.taken c.in-Err-answer.ensures.err
