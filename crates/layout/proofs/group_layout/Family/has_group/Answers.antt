use mathlib.Core.Path.{◌≡◌, ◌∙◌, sym, ap}
use Prim.Native.Nat.{ℕ}
use mathlib.Core.List.{List, []}
use lib.ListN.{length, take, drop}
use Rattle.model.specs.Model.{is_group}
use Rattle.layout.specs.Layout.{start_of, groups_from}
use Rattle.layout.proofs.Propositions.{rising_of}
use Rattle.layout.proofs.Family.{turn, no_groups_law}
use native.Mathlib.Omega.{arith}
use borrow.Author.Rules.{rules}
use Rattle.layout.proofs.group_layout.Family.has_group.Goals as goal

pub loop-arity-init : goal.loop-arity-init
loop-arity-init c =
    let rising = rising_of _ _ c.args.self.now.rising in
    search (rules, rising)

pub starts_with-requires-clause-inside : goal.starts_with-requires-clause-inside
starts_with-requires-clause-inside c =
    let l = c.loop-arity in
    (turn c.args.staged.now c.args.self.now.kinds.now c.args.self.now.arities.now l.arity-index (omega arith) l.invariant.1).high

pub returns-then-starts_with : goal.returns-then-starts_with
returns-then-starts_with c =
    let a = c.args in
    let l = c.loop-arity in
    let t = turn a.staged.now a.self.now.kinds.now a.self.now.arities.now l.arity-index (omega arith) l.invariant.1 in
    sym (l.invariant.2 ∙ t.splits ∙ rw (sym c.starts_with.ensures ∙ c.if-starts_with.true))

pub loop-arity-preserved : goal.loop-arity-preserved
loop-arity-preserved c =
    let a = c.args in
    let l = c.loop-arity in
    let t = turn a.staged.now a.self.now.kinds.now a.self.now.arities.now l.arity-index (omega arith) l.invariant.1 in
    (omega arith, t.next, l.invariant.2 ∙ t.splits ∙ rw (sym c.starts_with.ensures ∙ c.if-starts_with.false))

pub returns : goal.returns
returns c =
    let a = c.args in
    let l = c.loop-arity in
    let done : l.arity-index ≡ length a.self.now.arities.now = omega arith in
    sym (l.invariant.2 ∙ ap (λ (d : List ℕ). is_group a.staged.now (take (start_of a.self.now.arities.now l.arity-index) a.self.now.kinds.now) (groups_from [] 0 a.self.now.kinds.now (start_of a.self.now.arities.now l.arity-index) d)) (ap (λ (j : ℕ). drop j a.self.now.arities.now) done) ∙ no_groups_law a.staged.now a.self.now.kinds.now a.self.now.arities.now (start_of a.self.now.arities.now l.arity-index))
