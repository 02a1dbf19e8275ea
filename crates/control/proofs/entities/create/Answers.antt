use Rattle.control.proofs.EntityPart.{entities_read, sound_in, created_becomes}
use Rattle.control.proofs.entities.create.Goals as goal

pub capacity-n-requires : goal.capacity-n-requires
capacity-n-requires c = c.requires.arranged

pub create_in-requires : goal.create_in-requires
create_in-requires c =
    let w = c.args.words.now in
    let n = c.capacity-n.result in
    let C = c.capacity-n.ensures in
    record { sound = sound_in w n C c.requires.arranged; room = rw (entities_read w n C, C.is) c.requires.number_left }

pub shape_of-words : goal.shape_of-words
shape_of-words c = c.create_in.auto.words

pub returns : goal.returns
returns c =
    let g = c.capacity-n in
    let r = c.create_in in
    created_becomes c.args.words.now c.requires.arranged g.result g.ensures r.new.words r.result r.ensures
