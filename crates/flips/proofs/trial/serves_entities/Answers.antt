use Rattle.flips.proofs.trial.serves_entities.Goals as goal

pub returns : goal.returns
returns c = λ S. c.command_on-destroyed.ensures (c.command_on-removed.ensures (c.hold-2.ensures (c.command_on-inserted.ensures (c.hold.ensures S))))
