use Rattle.model.specs.Numbers.{LAST_CALLER}
use Rattle.command.proofs.Acts.{refused_by_law, accepted_by}
use Rattle.memory.specs.Meaning.{meaning}
use Rattle.model.proofs.Outcomes.{caller_above, caller_set}
use borrow.Author.Tests.{lt-ltb, le-ltb}
use Rattle.command_list.proofs.callers.set_caller.Goals as goal

pub returns-then-c-gt-LAST_CALLER : goal.returns-then-c-gt-LAST_CALLER
returns-then-c-gt-LAST_CALLER c = let a = c.args in refused_by_law (caller_above (meaning a.words.now) a.caller (lt-ltb LAST_CALLER a.caller c.if-c-gt-LAST_CALLER.true)) c.refuse.ensures

pub returns : goal.returns
returns c = let a = c.args in accepted_by (caller_set (meaning a.words.now) a.caller (le-ltb LAST_CALLER a.caller c.if-c-gt-LAST_CALLER.false)) c.set_caller.ensures c.ack.ensures
