use mathlib.Core.Path.{ap, ap₂, sym, ◌∙◌}
use Prim.Native.Nat.{ℕ, ◌+◌}
use native.Mathlib.Omega.{arith}
use lib.ListN.{drop}
use lib.Seq.{get_or-drop}
use Rattle.words.specs.Offsets.{LAYOUT_ARITIES, LAYOUT_ENDS}
use Rattle.layout.specs.Group.{prior_of}
use Rattle.layout.proofs.group_metadata.read.Goals as goal

pub returns : goal.returns
returns c =
    let a = c.args in
    let w = a.words.now in
    let start = c.start_of-start.ensures in
    let first = c.start_of-first.ensures in
    let top = c.word-top.ensures in
    let arity = c.word-arity.ensures in
    let prior = c.prior_of-prior.ensures in
    record {
      start = start.is;
      new = ap₂ (λ (x y : ℕ). x + y) start.is (prior.is ∙ ap (λ (x : ℕ). prior_of (drop LAYOUT_ARITIES w) x a.g 0) first.is);
      end = ap₂ (λ (x y : ℕ). x + y) start.is (arity.is ∙ sym (get_or-drop LAYOUT_ARITIES w a.g 0));
      first = first.is;
      top = top.is ∙ sym (get_or-drop LAYOUT_ENDS w a.f 0);
      small = (omega (arith, start.small, prior.small), omega (arith, start.small, arity.small));
    }
