use Rattle.flips.proofs.setup.create.Goals as goal

pub returns : goal.returns
returns c = λ S. c.command.ensures (c.command_with-5.ensures (c.command_with-4.ensures (c.command_with-3.ensures (c.command_with-2.ensures (c.command_with.ensures S)))))
