use mathlib.Core.Path.{sym, ◌∙◌, subst}
use Prim.Native.Nat.{◌≤◌, ℕ, ◌<◌, zero-le}
use native.Mathlib.Numerals.{add-one-le}
use lib.ListN.{take}
use Rattle.memory.specs.Meaning.{meaning}
use Rattle.model.specs.Model.{entity}
use Rattle.group.proofs.Storing.{shape_kept}
use Rattle.world.specs.Insert.{inserted}
use Rattle.world.proofs.Inserting.{insert_none, insert_all_law, insert_ask, insert_count, insert_turn}
use Rattle.world.proofs.component_set.insert_staged.Goals as goal

pub loop-i-init : goal.loop-i-init
loop-i-init c =
    let a = c.args in
    (zero-le, c.len-n.ensures.is, insert_none a.words.now a.e.index a.e.version c.requires.insertable)

pub insert_one-requires : goal.insert_one-requires
insert_one-requires c =
    let a = c.args in
    let v = c.loop-i.invariant in
    let I = c.requires.insertable in record { insertable = insert_ask a.words.now a.e.index a.e.version I c.loop-i.words (take c.loop-i.i (meaning a.words.now).control.staged) v.2; shape_is = c.requires.shape_is ∙ sym (shape_kept a.words.now c.loop-i.words (inserted (entity a.e.index a.e.version) (take c.loop-i.i (meaning a.words.now).control.staged)) v.2); i_in_bounds = insert_count a.words.now a.e.index a.e.version I c.loop-i.words (take c.loop-i.i (meaning a.words.now).control.staged) v.2 c.loop-i.i (subst (λ (m : ℕ). c.loop-i.i < m) v.1 c.loop-i-test.true) }

pub loop-i-preserved : goal.loop-i-preserved
loop-i-preserved c =
    let a = c.args in
    let v = c.loop-i.invariant in
    (add-one-le c.loop-i-test.true, v.1, insert_turn a.words.now a.e.index a.e.version c.requires.insertable c.loop-i.words c.insert_one.new.words c.loop-i.i (subst (λ (m : ℕ). c.loop-i.i < m) v.1 c.loop-i-test.true) v.2 c.insert_one.ensures)

pub returns : goal.returns
returns c =
    let a = c.args in
    insert_all_law a.words.now a.e.index a.e.version c.requires.insertable c.loop-i.words c.loop-i.i (subst (λ (m : ℕ). m ≤ c.loop-i.i) c.loop-i.invariant.1 c.loop-i-test.false) c.loop-i.invariant.2
