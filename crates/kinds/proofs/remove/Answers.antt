use mathlib.Core.Path.{subst}
use Rattle.component.specs.Answers.{Gives}
use Rattle.kinds.specs.Kinds.{kind_set}
use Rattle.model.specs.Model.{remove_row, entity}
use Rattle.words.specs.declared.Shape.{Shape}
use Rattle.kinds.proofs.Slot.{lent_at, rows_at, only_becomes}
use Rattle.kinds.proofs.remove.Goals as goal

pub remove_in-requires : goal.remove_in-requires
remove_in-requires c = lent_at c.args.words.now c.args.z c.args.kind c.slot_of-slot.result c.requires.shape_is c.slot_of-slot.ensures

pub returns : goal.returns
returns c =
    let a = c.args in
    let w = a.words.now in
    let slot = c.slot_of-slot.result in
    let e = entity a.e.index a.e.version in
    record {
      becomes = only_becomes w a.z a.kind slot c.requires.shape_is c.slot_of-slot.ensures c.remove_in.new.words (remove_row e) c.requires.arranged c.remove_in.ensures.change;
      gives =
          subst (λ (y : Shape). Gives y.stride e (kind_set w a.kind) c.remove_in.result) c.requires.shape_is
          (rw (rows_at w a.z a.kind slot c.requires.shape_is c.slot_of-slot.ensures) at c.remove_in.ensures.answer);
    }
