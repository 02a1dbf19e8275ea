use Rattle.entity.proofs.InWords.{changed_in}
use Rattle.model.specs.Model.{destroy, entity}
use Rattle.entity.proofs.in_words.destroy_in.Goals as goal

pub returns : goal.returns
returns c =
    let a = c.args in
    changed_in a.n (destroy (entity a.e.index a.e.version)) a.words.now c.destroy.new.part c.requires.sound.fits c.destroy.ensures
