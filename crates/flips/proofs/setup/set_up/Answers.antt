use Rattle.flips.proofs.setup.set_up.Goals as goal

pub returns : goal.returns
returns c = λ S. c.feed.ensures (c.hold.ensures (c.draft.ensures (c.recycle.ensures (c.create.ensures (c.lay_out.ensures S)))))
