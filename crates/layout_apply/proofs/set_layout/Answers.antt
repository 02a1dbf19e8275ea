use Rattle.layout_apply.proofs.Regrouping.{walks_ready, applied_becomes}
use Rattle.layout_apply.proofs.set_layout.Goals as goal

pub regroup-requires-clause-ready_each : goal.regroup-requires-clause-ready_each
regroup-requires-clause-ready_each c = walks_ready c.args.words.now c.install.new.words c.requires.store_sound c.install.ensures

pub returns : goal.returns
returns c =
    applied_becomes c.args.words.now c.install.new.words c.requires.store_sound c.install.ensures c.regroup.new.words c.regroup.ensures
