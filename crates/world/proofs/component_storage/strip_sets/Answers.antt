use mathlib.Core.Path.{◌≡◌, ap, sym, ◌∙◌, subst}
use Prim.Native.Nat.{◌≤◌, ℕ, ◌<◌, zero-le}
use native.Mathlib.Numerals.{add-one-le}
use lib.ListN.{length, get_or}
use Rattle.model.specs.Store.{Store}
use Rattle.model.specs.Model.{entity}
use Rattle.memory.specs.Meaning.{meaning}
use Rattle.memory.proofs.Becomes.{kinds_count}
use Rattle.kinds.proofs.Slot.{known_small}
use Rattle.world.proofs.Removing.{gone_none, gone_shape, gone_turn, gone_all}
use Rattle.world.proofs.component_storage.strip_sets.Goals as goal

pub loop-slot-init : goal.loop-slot-init
loop-slot-init c =
    let a = c.args in
    (zero-le, c.word-m.ensures.is ∙ sym (kinds_count a.words.now), gone_none a.words.now (entity a.e.index a.e.version) (meaning a.words.now).kinds c.requires.arranged)

pub strip_slot-requires : goal.strip_slot-requires
strip_slot-requires c =
    let a = c.args in
    let l = c.loop-slot in
    let v = l.invariant in
    let k : length (meaning l.words).kinds ≡ length (meaning a.words.now).kinds = ap (λ (m : Store). length m.kinds) v.2.means in
    record { arranged = v.2.arranged; shape_is = c.requires.shape_is ∙ gone_shape a.words.now (entity a.e.index a.e.version) (meaning a.words.now).kinds l.words l.slot v.2; slot_in_bounds = subst (λ (m : ℕ). l.slot < m) (v.1 ∙ sym k) c.loop-slot-test.true }

pub loop-slot-preserved : goal.loop-slot-preserved
loop-slot-preserved c =
    let a = c.args in
    let l = c.loop-slot in
    let v = l.invariant in
    let t = c.loop-slot-test.true in
    let same = ap (λ (m : Store). get_or m.kinds l.slot 0) v.2.means in
    (add-one-le t, v.1, gone_turn a.words.now (entity a.e.index a.e.version) (meaning a.words.now).kinds l.words c.strip_slot.new.words l.slot (get_or (meaning l.words).kinds l.slot 0) (subst (λ (m : ℕ). l.slot < m) v.1 t) same v.2 c.strip_slot.ensures)

pub returns : goal.returns
returns c =
    let a = c.args in
    let l = c.loop-slot in
    let v = l.invariant in
    gone_all a.words.now (entity a.e.index a.e.version) (meaning a.words.now).kinds l.words l.slot (subst (λ (m : ℕ). m ≤ l.slot) v.1 c.loop-slot-test.false) c.requires.distinct (known_small a.words.now c.requires.arranged) v.2
