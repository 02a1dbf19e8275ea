use mathlib.Core.Path.{◌≡◌, ap, ◌∙◌}
use Prim.Native.Nat.{◌+◌, ◌*◌}
use native.Mathlib.Omega.{arith}
use lib.ListN.{length}
use Rattle.model.specs.Snapshot.{flat, listing, snapshot}
use Rattle.words.specs.declared.Shape.{Shape}
use Rattle.memory.specs.Meaning.{meaning}
use Rattle.memory.proofs.Becomes.{stride_bytes}
use Rattle.snapshot.proofs.Known.{capacity_most, live_most}
use Rattle.snapshot.proofs.Parts.{snapshot_length, snapshot_written}
use Rattle.snapshot.proofs.write_snapshot.Goals as goal

pub overflow_cast-live : goal.overflow_cast-live
overflow_cast-live c =
    let w = c.args.words.now in
    omega (arith, c.live_len-live.ensures, live_most w c.requires.arranged, capacity_most w c.requires.arranged)

pub put-requires-clause-room : goal.put-requires-clause-room
put-requires-clause-room c =
    let width : 4 * c.shape_of-shape.result.stride ≡ (meaning c.args.words.now).settings.value_bytes = ap (λ (z : Shape). 4 * z.stride) c.shape_of-shape.ensures.is ∙ stride_bytes c.args.words.now c.requires.arranged in
    let whole : length (snapshot (meaning c.args.words.now)) ≡ 4 + length (flat (4 * c.shape_of-shape.result.stride) (listing (meaning c.args.words.now))) = snapshot_length (meaning c.args.words.now) (4 * c.shape_of-shape.result.stride) (width) in
    omega (arith, whole, c.requires.room)

pub write_entities-requires-clause-room : goal.write_entities-requires-clause-room
write_entities-requires-clause-room c =
    let width : 4 * c.shape_of-shape.result.stride ≡ (meaning c.args.words.now).settings.value_bytes = ap (λ (z : Shape). 4 * z.stride) c.shape_of-shape.ensures.is ∙ stride_bytes c.args.words.now c.requires.arranged in
    let whole : length (snapshot (meaning c.args.words.now)) ≡ 4 + length (flat (4 * c.shape_of-shape.result.stride) (listing (meaning c.args.words.now))) = snapshot_length (meaning c.args.words.now) (4 * c.shape_of-shape.result.stride) (width) in
    omega (arith, whole, c.requires.room, c.put.auto.out)

pub returns : goal.returns
returns c =
    let width : 4 * c.shape_of-shape.result.stride ≡ (meaning c.args.words.now).settings.value_bytes = ap (λ (z : Shape). 4 * z.stride) c.shape_of-shape.ensures.is ∙ stride_bytes c.args.words.now c.requires.arranged in
    snapshot_written (meaning c.args.words.now) (4 * c.shape_of-shape.result.stride) width c.live_len-live.result c.live_len-live.ensures c.put.ensures c.write_entities.ensures
