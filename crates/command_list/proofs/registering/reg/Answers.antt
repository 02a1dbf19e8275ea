use mathlib.Core.Path.{sym, ◌∙◌}
use Rattle.model.specs.Numbers.{LAST_KIND}
use Rattle.command.proofs.Acts.{refused_by_law, accepted_by}
use Rattle.memory.specs.Meaning.{meaning}
use Rattle.model.proofs.Outcomes.{reg_above, reg_full, reg_known, reg_new}
use Rattle.memory.proofs.Becomes.{stays}
use borrow.Author.Tests.{lt-ltb, le-ltb}
use Rattle.command_list.proofs.registering.reg.Goals as goal

pub returns-then-k-gt-LAST_KIND : goal.returns-then-k-gt-LAST_KIND
returns-then-k-gt-LAST_KIND c = refused_by_law (reg_above (meaning c.args.words.now) c.args.kind (lt-ltb LAST_KIND _ c.if-k-gt-LAST_KIND.true)) c.refuse.ensures

pub returns-then-is_registered : goal.returns-then-is_registered
returns-then-is_registered c = accepted_by (reg_known (meaning c.args.words.now) c.args.kind (le-ltb LAST_KIND _ c.if-k-gt-LAST_KIND.false) (sym c.is_registered.ensures ∙ c.if-is_registered.true)) (stays c.requires.sound.arranged) c.ack_byte.ensures

pub returns-then-no_slot : goal.returns-then-no_slot
returns-then-no_slot c = refused_by_law (reg_full (meaning c.args.words.now) c.args.kind (le-ltb LAST_KIND _ c.if-k-gt-LAST_KIND.false) (sym c.is_registered.ensures ∙ c.if-is_registered.false) (sym c.no_slot.ensures ∙ c.if-no_slot.true)) c.refuse-then-no_slot.ensures

pub returns : goal.returns
returns c = accepted_by (reg_new (meaning c.args.words.now) c.args.kind (le-ltb LAST_KIND _ c.if-k-gt-LAST_KIND.false) (sym c.is_registered.ensures ∙ c.if-is_registered.false) (sym c.no_slot.ensures ∙ c.if-no_slot.false)) c.register.ensures c.ack_byte-2.ensures
