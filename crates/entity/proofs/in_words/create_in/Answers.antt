use Rattle.entity.proofs.InWords.{changed_in}
use Rattle.entity.specs.Answers.{with_created}
use Rattle.entity.proofs.in_words.create_in.Goals as goal

pub returns : goal.returns
returns c =
    let a = c.args in
    let r = c.create.ensures in
    record {
      changed = changed_in a.n with_created a.words.now c.create.new.part c.requires.sound.fits r.changed;
      entity = r.entity;
    }
