use mathlib.Core.Path.{sym, ap, ◌∙◌}
use Prim.Native.Nat.{ℕ}
use native.Mathlib.Omega.{arith}
use lib.ListN.{get_or}
use Rattle.memory.proofs.Frames.{long}
use Rattle.control.proofs.lists.KindsInWords.len.Goals as goal

pub word-requires : goal.word-requires
word-requires g c =
    let kept = g.Self.KindsInWords.kept in
    omega (arith, c.LEN_AT.ensures, kept.before, kept.inside, long c.args.words.now c.requires)

pub returns-clause-is : goal.returns-clause-is
returns-clause-is g c =
    let w = c.args.words.now in
    c.word.ensures.is ∙ ap (λ (i : ℕ). get_or w i 0) c.LEN_AT.ensures ∙ sym (g.Self.KindsInWords.kept.counted w c.requires)

pub returns-clause-few : goal.returns-clause-few
returns-clause-few g c = rw (c.word.ensures.is, c.LEN_AT.ensures) (g.Self.KindsInWords.kept.few c.args.words.now c.requires)
