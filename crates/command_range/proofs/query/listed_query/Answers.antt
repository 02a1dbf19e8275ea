use mathlib.Core.Path.{◌≡◌, subst}
use mathlib.Core.List.{List}
use Prim.Native.Nat.{ℕ, ◌+◌, ◌<◌}
use native.Mathlib.Omega.{arith}
use lib.ListN.{length}
use Rattle.words.specs.Part.{between}
use Rattle.memory.proofs.Frames.{long}
use Rattle.command_range.specs.Query.{QueryOf}
use Rattle.command_range.proofs.Queries.{kind_known, all_listed, query_start, query_turn}
use Rattle.command_range.proofs.query.listed_query.Goals as goal

pub loop-at-init : goal.loop-at-init
loop-at-init g c = rw c.KINDS_AT-at.ensures (query_start c.args.words.now c.requires.arranged g.L.KindsInWords.KINDS_AT)

pub word-requires : goal.word-requires
word-requires g c = omega (arith, c.loop-at-test.true, c.KINDS_AT.ensures, c.len.ensures.few, g.L.KindsInWords.kept.inside, long c.args.words.now c.requires.arranged)

pub add_kind-found-requires-clause-kind_known : goal.add_kind-found-requires-clause-kind_known
add_kind-found-requires-clause-kind_known g c =
    let list = g.L.KindsInWords in
    kind_known c.args.words.now c.requires.arranged c.requires list.LEN_AT list.KINDS_AT list.kinds list.count list.kept c.len.result c.loop-at.at c.word.result c.len.ensures.is
    (omega (arith, c.loop-at.auto.at, c.KINDS_AT-at.ensures)) (omega (arith, c.loop-at-test.true, c.KINDS_AT.ensures)) c.word.ensures.is

pub loop-at-preserved : goal.loop-at-preserved
loop-at-preserved g c =
    let w = c.args.words.now in
    let l = c.loop-at in
    let below : l.at < length w = omega (arith, c.loop-at-test.true, c.KINDS_AT.ensures, c.len.ensures.few, g.L.KindsInWords.kept.inside, long w c.requires.arranged) in
    query_turn w c.requires.arranged g.L.KindsInWords.KINDS_AT l.at c.word.result l.found c.add_kind-found.result (omega (arith, l.auto.at, c.KINDS_AT-at.ensures)) below c.word.ensures.is l.invariant c.add_kind-found.ensures

pub returns : goal.returns
returns g c =
    let w = c.args.words.now in
    let l = c.loop-at in
    let list = g.L.KindsInWords in
    let e : l.at ≡ list.KINDS_AT + c.len.result = omega (arith, l.auto.at, l.auto.at-end, c.loop-at-test.false, c.KINDS_AT.ensures, c.KINDS_AT-at.ensures) in
    subst (λ (hs : List ℕ). QueryOf w hs l.found) (all_listed w c.requires.arranged list.LEN_AT list.KINDS_AT list.kinds list.count list.kept c.len.result c.len.ensures.is)
    (subst (λ (j : ℕ). QueryOf w (between list.KINDS_AT j w) l.found) e l.invariant)
