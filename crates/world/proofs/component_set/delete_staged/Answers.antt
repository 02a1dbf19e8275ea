use mathlib.Core.Path.{◌≡◌, ap, sym, ◌∙◌, subst}
use Prim.Native.Nat.{◌≤◌, ℕ, ◌<◌, zero-le}
use native.Mathlib.Numerals.{add-one-le}
use lib.ListN.{length, get_or, take, length-map}
use Rattle.model.specs.Model.{kind_of, entity}
use Rattle.model.specs.Store.{Store, staged_kinds}
use Rattle.memory.specs.Meaning.{meaning}
use Rattle.world.proofs.Removing.{each_gone, gone_none, gone_shape, gone_turn, gone_all, staged_kept, staged_small}
use Rattle.world.proofs.component_set.delete_staged.Goals as goal

pub loop-i-init : goal.loop-i-init
loop-i-init c =
    let a = c.args in
    (zero-le, c.len-n.ensures.is ∙ sym (length-map (meaning a.words.now).control.staged kind_of), gone_none a.words.now (entity a.e.index a.e.version) (staged_kinds (meaning a.words.now)) c.requires.staged.arranged)

pub remove_one-requires : goal.remove_one-requires
remove_one-requires c =
    let a = c.args in
    let v = c.loop-i.invariant in
    let w = c.loop-i.words in
    let n : length (meaning w).control.staged ≡ length (staged_kinds (meaning a.words.now)) = sym (length-map (meaning w).control.staged kind_of) ∙ ap (λ (m : Store). length (staged_kinds m)) v.2.means in
    record { staged = staged_kept a.words.now w (each_gone (entity a.e.index a.e.version) (take c.loop-i.i (staged_kinds (meaning a.words.now)))) c.requires.staged v.2; shape_is = c.requires.shape_is ∙ gone_shape a.words.now (entity a.e.index a.e.version) (staged_kinds (meaning a.words.now)) w c.loop-i.i v.2; i_in_bounds = subst (λ (m : ℕ). c.loop-i.i < m) (v.1 ∙ sym n) c.loop-i-test.true }

pub loop-i-preserved : goal.loop-i-preserved
loop-i-preserved c =
    let a = c.args in
    let v = c.loop-i.invariant in
    let w = c.loop-i.words in
    let i = c.loop-i.i in
    let same = ap (λ (m : Store). get_or (staged_kinds m) c.loop-i.i 0) v.2.means in
    (add-one-le c.loop-i-test.true, v.1, gone_turn a.words.now (entity a.e.index a.e.version) (staged_kinds (meaning a.words.now)) w c.remove_one.new.words i (get_or (staged_kinds (meaning w)) i 0) (subst (λ (m : ℕ). c.loop-i.i < m) v.1 c.loop-i-test.true) same v.2 c.remove_one.ensures.becomes)

pub returns : goal.returns
returns c =
    let a = c.args in
    let v = c.loop-i.invariant in
    gone_all a.words.now (entity a.e.index a.e.version) (staged_kinds (meaning a.words.now)) c.loop-i.words c.loop-i.i (subst (λ (m : ℕ). m ≤ c.loop-i.i) v.1 c.loop-i-test.false) c.requires.staged.once (staged_small a.words.now c.requires.staged) v.2
