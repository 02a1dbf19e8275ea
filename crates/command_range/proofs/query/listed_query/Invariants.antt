use Rattle.words.specs.Part.{between}
use Rattle.command_range.specs.Query.{QueryOf}
use Rattle.command_range.proofs.query.listed_query.Given as goal

abbrev pub invariant-loop-at : goal.invariant-loop-at
invariant-loop-at g l = QueryOf l.words (between g.L.KindsInWords.KINDS_AT l.at l.words) l.found
