use mathlib.Core.Path.{sym}
use Rattle.command.proofs.Acts.{refused_by_law, accepted_by}
use Rattle.command_list.proofs.Known.{bar_refused, bar_taken}
use Rattle.memory.specs.Meaning.{meaning}
use Rattle.command_list.proofs.lists.bar.Goals as goal

pub returns-in-Some : goal.returns-in-Some
returns-in-Some c = refused_by_law (bar_refused (meaning c.args.words.now) c.args.kind _ (sym c.in-Some.ensures)) c.refuse.ensures

pub returns : goal.returns
returns c = accepted_by (bar_taken (meaning c.args.words.now) c.args.kind (sym c.in_default.ensures)) c.exclude.ensures c.ack.ensures
