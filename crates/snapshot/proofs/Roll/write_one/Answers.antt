use mathlib.Core.Path.{◌≡◌, ap, ◌∙◌, subst}
use mathlib.Core.Option.{some}
use Prim.Native.Nat.{◌*◌}
use native.Mathlib.Omega.{arith}
use lib.ListN.{length-set}
use Rattle.model.specs.Snapshot.{value_at}
use Rattle.model.specs.Model.{entity}
use Rattle.words.specs.declared.Found.{Found}
use Rattle.values.specs.Values.{value_of}
use Rattle.component.specs.Answers.{Finds, HeldAt}
use Rattle.words.specs.declared.Shape.{Shape}
use Rattle.words.specs.Shape.{shape_of}
use Rattle.kinds.specs.Kinds.{kind_set}
use Rattle.kinds.proofs.Slot.{known_small}
use Rattle.snapshot.proofs.Known.{stride_words}
use Rattle.snapshot.proofs.Listed.{value_held, one_room, one_written}
use Rattle.snapshot.proofs.Roll.write_one.Goals as goal

pub overflow_cast-out : goal.overflow_cast-out
overflow_cast-out c = omega (arith, known_small c.args.self.now.words.now c.requires.arranged c.args.kind c.requires.kind_known)

pub width-requires : goal.width-requires
width-requires c = stride_words c.args.self.now.words.now c.requires.arranged c.args.self.now.shape.stride (ap (λ (y : Shape). y.stride) c.args.self.now.shape_is)

pub put_bytes-requires : goal.put_bytes-requires
put_bytes-requires c =
    let found_at : HeldAt (shape_of c.args.self.now.words.now) (entity c.args.e.index c.args.e.version) (kind_set c.args.self.now.words.now c.args.kind) c.in-At.place = (
    let a = c.args in
    subst (λ (r : Found). Finds (shape_of a.self.now.words.now) (entity a.e.index a.e.version) (kind_set a.self.now.words.now a.kind) r) c.in-At.is c.find-found.ensures) in
    let shown : value_at (entity c.args.e.index c.args.e.version) (kind_set c.args.self.now.words.now c.args.kind) ≡ some (value_of c.args.self.now.shape.stride c.value_of-value.result) = (
    let a = c.args in
    let f = found_at in
    value_held (entity a.e.index a.e.version) (kind_set a.self.now.words.now a.kind) c.in-At.place (value_of a.self.now.shape.stride c.value_of-value.result) f.holds f.place (ap (λ (y : Shape). value_of y.stride c.value_of-value.result) c.args.self.now.shape_is ∙ c.value_of-value.ensures)) in
    simp length-set (omega (arith, one_room (4 * c.args.self.now.shape.stride) c.args.at c.args.kind shown c.requires.room))

pub returns : goal.returns
returns c =
    let found_at : HeldAt (shape_of c.args.self.now.words.now) (entity c.args.e.index c.args.e.version) (kind_set c.args.self.now.words.now c.args.kind) c.in-At.place = (
    let a = c.args in
    subst (λ (r : Found). Finds (shape_of a.self.now.words.now) (entity a.e.index a.e.version) (kind_set a.self.now.words.now a.kind) r) c.in-At.is c.find-found.ensures) in
    let shown : value_at (entity c.args.e.index c.args.e.version) (kind_set c.args.self.now.words.now c.args.kind) ≡ some (value_of c.args.self.now.shape.stride c.value_of-value.result) = (
    let a = c.args in
    let f = found_at in
    value_held (entity a.e.index a.e.version) (kind_set a.self.now.words.now a.kind) c.in-At.place (value_of a.self.now.shape.stride c.value_of-value.result) f.holds f.place (ap (λ (y : Shape). value_of y.stride c.value_of-value.result) c.args.self.now.shape_is ∙ c.value_of-value.ensures)) in
    let a = c.args in one_written (4 * a.self.now.shape.stride) a.out.now a.at a.kind shown (rw c.width.ensures at c.put_bytes.ensures)
