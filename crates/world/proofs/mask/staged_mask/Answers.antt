use native.Mathlib.Numerals.{add-one-le}
use mathlib.Core.Path.{subst, ◌∙◌, sym}
use Prim.Native.Nat.{ℕ, ◌≤◌, zero-le, ◌<◌}
use lib.ListN.{length-map}
use Rattle.model.specs.Model.{kind_of}
use Rattle.model.specs.Store.{staged_kinds}
use Rattle.memory.specs.Meaning.{meaning}
use Rattle.group.proofs.InWords.{groups_few}
use Rattle.world.proofs.Masking.{mask_none, mask_turn, mask_all, no_kinds, more_kinds}
use Rattle.world.proofs.mask.staged_mask.Invariants.{at}
use Rattle.world.proofs.mask.staged_mask.Goals as goal

pub loop-i-init : goal.loop-i-init
loop-i-init c =
    let a = c.args in
    let w = a.words.now in
    (zero-le, c.len-n.ensures.is, mask_none (at w a.walk) (no_kinds a.walk (meaning w).storage.layout) (more_kinds a.walk (meaning w).storage.layout (groups_few w c.requires.staged.arranged)) (staged_kinds (meaning w)) c.empty-mask.result.0 c.empty-mask.ensures)

pub loop-i-preserved : goal.loop-i-preserved
loop-i-preserved c =
    let a = c.args in
    let w = a.words.now in
    let v = c.loop-i.invariant in (
      add-one-le c.loop-i-test.true,
      v.1,
      mask_turn (at w a.walk) (no_kinds a.walk (meaning w).storage.layout) (more_kinds a.walk (meaning w).storage.layout (groups_few w c.requires.staged.arranged)) (staged_kinds (meaning w)) c.loop-i.mask.0 c.mask_at-more.result.0 c.union-mask.result.0 c.loop-i.i
          (subst (λ (m : ℕ). c.loop-i.i < m) (v.1 ∙ sym (length-map (meaning w).control.staged kind_of)) c.loop-i-test.true) v.2 c.mask_at-more.ensures c.union-mask.ensures,
    )

pub returns : goal.returns
returns c =
    let a = c.args in
    let w = a.words.now in
    let v = c.loop-i.invariant in
    mask_all (at w a.walk) (no_kinds a.walk (meaning w).storage.layout) (more_kinds a.walk (meaning w).storage.layout (groups_few w c.requires.staged.arranged)) (staged_kinds (meaning w)) c.loop-i.mask.0 c.loop-i.i
    (subst (λ (m : ℕ). m ≤ c.loop-i.i) (v.1 ∙ sym (length-map (meaning w).control.staged kind_of)) c.loop-i-test.false) v.2
