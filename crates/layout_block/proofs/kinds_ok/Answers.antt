use native.Mathlib.Omega.{arith}
use lib.ListN.{get_or}
use Rattle.model.proofs.ListLaws.{item_counts}
use Rattle.layout_block.proofs.Checking.{seen_none, seen_more, seen_before}
use Rattle.layout_block.proofs.kinds_ok.Goals as goal
use Rattle.layout_block.proofs.kinds_ok.Goals.{then-k-ge-MAX_KINDS-via-then-k-ge-MAX_KINDS, then-k-ge-MAX_KINDS-via-else-k-ge-MAX_KINDS+then-seen-k, then-k-ge-MAX_KINDS-via-else-k-ge-MAX_KINDS+else-seen-k+then-table-k-eq-UNREGISTERED}

pub loop-kind-init : goal.loop-kind-init
loop-kind-init c = seen_none _ _

pub returns-then-k-ge-MAX_KINDS : goal.returns-then-k-ge-MAX_KINDS
returns-then-k-ge-MAX_KINDS c s =
    let ks = c.args.kinds.now in
    let l = c.loop-kind in
    let k = get_or ks l.kind-index 0 in
    let there = item_counts ks l.kind-index (omega arith) in
    elim c.then-k-ge-MAX_KINDS.branch [
      | then-k-ge-MAX_KINDS-via-then-k-ge-MAX_KINDS w ↦ omega (arith, there, s.once.known k w.if-k-ge-MAX_KINDS.true)
      | then-k-ge-MAX_KINDS-via-else-k-ge-MAX_KINDS+then-seen-k w ↦ omega (arith, there, s.once.once k, seen_before _ _ w.if-seen-k.true (l.invariant.marks k w.if-k-ge-MAX_KINDS.false))
      | then-k-ge-MAX_KINDS-via-else-k-ge-MAX_KINDS+else-seen-k+then-table-k-eq-UNREGISTERED w ↦ s.registered k (omega (arith, there)) w.if-table-k-eq-UNREGISTERED.true
    ]

pub loop-kind-preserved : goal.loop-kind-preserved
loop-kind-preserved c = let l = c.loop-kind in seen_more c.args.table.now c.args.kinds.now l.seen l.kind-index (omega arith) c.if-k-ge-MAX_KINDS.false c.if-seen-k.false c.if-table-k-eq-UNREGISTERED.false l.invariant
