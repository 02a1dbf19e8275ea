use Rattle.entity.specs.Answers.{entity_of_answer}
use Rattle.world.proofs.Lifetimes.{create_sounds, new_live, created_whole}
use Rattle.world.proofs.create.Goals as goal

pub insert-requires : goal.insert-requires
insert-requires c =
    let w = c.args.words.now in
    let m = c.create-e in
    record { sound = create_sounds w c.requires.sound c.requires.not_full m.new.words (entity_of_answer m.result) m.ensures.entity m.ensures.becomes; live = new_live w c.requires.sound c.requires.not_full m.new.words (entity_of_answer m.result) m.ensures.entity m.ensures.becomes }

pub returns : goal.returns
returns c =
    let w = c.args.words.now in
    let m = c.create-e in
    record {
      becomes = created_whole w c.requires.sound c.requires.not_full m.new.words (entity_of_answer m.result) m.ensures.entity m.ensures.becomes c.insert.new.words c.insert.ensures;
      entity = m.ensures.entity;
    }
