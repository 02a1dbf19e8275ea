use Rattle.model.specs.Model.{destroy, entity}
use Rattle.control.proofs.EntityPart.{entities_read, sound_in, changed_becomes}
use Rattle.control.proofs.entities.destroy.Goals as goal

pub capacity-n-requires : goal.capacity-n-requires
capacity-n-requires c = c.requires.arranged

pub destroy_in-requires : goal.destroy_in-requires
destroy_in-requires c =
    let w = c.args.words.now in
    let n = c.capacity-n.result in
    let C = c.capacity-n.ensures in
    record { sound = sound_in w n C c.requires.arranged; live_at = rw (entities_read w n C) c.requires.live_at }

pub shape_of-words : goal.shape_of-words
shape_of-words c = c.destroy_in.auto.words

pub returns : goal.returns
returns c =
    let g = c.capacity-n in
    let r = c.destroy_in in
    changed_becomes c.args.words.now g.result g.ensures c.requires.arranged r.new.words (destroy (entity c.args.e.index c.args.e.version)) r.ensures
