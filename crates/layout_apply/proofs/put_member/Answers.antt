use mathlib.Core.Path.{ap, ◌∙◌}
use Prim.Native.Nat.{ℕ, ◌+◌}
use native.Mathlib.Omega.{arith}
use Rattle.layout_apply.specs.Heads.{with_own}
use Rattle.layout_apply.proofs.HeadLoops.{kind_small_law, slot_is, member_lent}
use Rattle.layout_apply.proofs.put_member.Goals as goal

pub word-slot-requires : goal.word-slot-requires
word-slot-requires c =
    omega (arith, c.requires.heads_ready.long, kind_small_law c.args.words.now c.requires.heads_ready c.args.p c.requires.kind_inside c.word-kind.result c.word-kind.ensures.is)

pub put_own-requires-clause-lent : goal.put_own-requires-clause-lent
put_own-requires-clause-lent c =
    let a = c.args in
    member_lent a.words.now c.requires.heads_ready a.p c.requires.kind_inside a.z c.word-kind.result c.word-slot.result c.requires.shape_is c.word-kind.ensures.is c.word-slot.ensures.is

pub returns : goal.returns
returns c =
    let a = c.args in
    c.put_own.ensures
    ∙ ap (λ (t : ℕ). with_own a.z t (a.g + 1) a.j a.words.now)
    (slot_is a.words.now c.requires.heads_ready a.p c.requires.kind_inside c.word-kind.result c.word-slot.result c.word-kind.ensures.is c.word-slot.ensures.is)
