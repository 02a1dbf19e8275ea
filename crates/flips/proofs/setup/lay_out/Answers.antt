use Rattle.flips.proofs.setup.lay_out.Goals as goal

pub returns : goal.returns
returns c = λ S. c.command.ensures (c.command_with-3.ensures (c.command_with-2.ensures (c.command_with.ensures (c.feed.ensures S))))
