use mathlib.Core.Path.{◌≡◌}
use native.Mathlib.Omega.{arith}
use lib.ListN.{length}
use Rattle.words.specs.Shape.{TwoOrFour}
use Rattle.memory.proofs.Frames.{long}
use Rattle.memory.proofs.KindLists.{staged_length}
use Rattle.control.proofs.Control.{stage_becomes}
use Rattle.control.proofs.staged.stage.Goals as goal

pub width-requires : goal.width-requires
width-requires c = rw c.shape_of-z.ensures.is c.requires.arranged.columns.shaped.words

pub put-requires : goal.put-requires
put-requires c =
    let w = c.args.words.now in
    let t : TwoOrFour c.shape_of-z.result.stride = rw c.shape_of-z.ensures.is c.requires.arranged.columns.shaped.words in
    let size : length c.push-place.new.words ≡ length w = c.push-place.auto.words in
    omega (arith, t.most, c.width.ensures, size, c.push-place.ensures.place, staged_length w, c.requires.room, long w c.requires.arranged)

pub returns : goal.returns
returns c =
    let w = c.args.words.now in
    rw (c.put.ensures, c.width.ensures, c.shape_of-z.ensures.is, c.push-place.ensures.stored, c.push-place.ensures.place)
    (stage_becomes w c.requires.arranged c.args.kind c.args.x (omega (arith, staged_length w, c.requires.room)))
