use mathlib.Core.Path.{◌≡◌, ◌∙◌, sym, ap}
use mathlib.Core.Bool.{Bool, true, false}
use lib.ListN.{length, get_or, take}
use lib.Seq.{length-take-le}
use Rattle.layout.proofs.Propositions.{rising_of}
use Rattle.layout.proofs.Family.{turn}
use Rattle.layout.proofs.Inserting.{place_at_law, place_end, place_held, place_holding, place_crossed}
use Rattle.model.specs.Model.{within}
use native.Mathlib.Omega.{arith}
use borrow.Author.Rules.{rules}
use Rattle.layout.proofs.group_layout.Family.place_of.Goals as goal

-- what a test came out as is so of what it tests
told : (r b v : Bool) → r ≡ b → r ≡ v → b ≡ v
told r b v e t = sym e ∙ t

pub loop-j-init : goal.loop-j-init
loop-j-init c =
    let rising = rising_of _ _ c.args.self.now.rising in
    search (rules, rising)

pub slice_bounds-group-end : goal.slice_bounds-group-end
slice_bounds-group-end c =
    let a = c.args in
    let l = c.loop-j in
    sym (length-take-le _ _ (turn a.staged.now a.self.now.kinds.now a.self.now.arities.now l.j (omega arith) l.invariant.1).high)

pub returns-then-all_among : goal.returns-then-all_among
returns-then-all_among c =
    let a = c.args in
    let l = c.loop-j in
    let group = take (get_or a.self.now.arities.now l.j 0) a.self.now.kinds.now in
    let holds : within a.staged.now group ≡ true = search (rules, told) in
    sym (l.invariant.2 ∙ place_holding a.staged.now a.self.now.kinds.now a.self.now.arities.now l.j (omega arith) l.invariant.1 (sym c.all_among.ensures ∙ c.if-not-all_among.true) holds)

pub returns-then-not-all_among : goal.returns-then-not-all_among
returns-then-not-all_among c =
    let a = c.args in
    let l = c.loop-j in
    let group = take (get_or a.self.now.arities.now l.j 0) a.self.now.kinds.now in
    let crosses : within a.staged.now group ≡ false = search (rules, told) in
    sym (l.invariant.2 ∙ place_crossed a.staged.now a.self.now.kinds.now a.self.now.arities.now l.j (omega arith) l.invariant.1 (sym c.all_among.ensures ∙ c.if-not-all_among.true) crosses)

pub loop-j-preserved : goal.loop-j-preserved
loop-j-preserved c =
    let a = c.args in
    let l = c.loop-j in
    (omega arith, (turn a.staged.now a.self.now.kinds.now a.self.now.arities.now l.j (omega arith) l.invariant.1).next, l.invariant.2 ∙ place_held a.staged.now a.self.now.kinds.now a.self.now.arities.now l.j (omega arith) l.invariant.1 (sym c.all_among.ensures ∙ c.if-not-all_among.false))

pub returns : goal.returns
returns c =
    let a = c.args in
    let l = c.loop-j in
    let done : l.j ≡ length a.self.now.arities.now = omega arith in
    sym (l.invariant.2 ∙ ap (place_at_law a.staged.now a.self.now.kinds.now a.self.now.arities.now) done ∙ place_end a.staged.now a.self.now.kinds.now a.self.now.arities.now)
