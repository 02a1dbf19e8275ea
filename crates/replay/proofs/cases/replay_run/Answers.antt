use Rattle.replay.proofs.Agreeing.{cut_stepped, gave_few, run_agrees}
use mathlib.Core.Path.{sym}
use lib.Seq.{length-take-le}
use native.Mathlib.Omega.{arith}
use Rattle.replay.proofs.cases.replay_run.Goals as goal

pub returns-then-file-at-lt4 : goal.returns-then-file-at-lt4
returns-then-file-at-lt4 c = cut_stepped _ _ _ _ _ c.cut.ensures

pub returns-then-file-tape : goal.returns-then-file-tape
returns-then-file-tape c = cut_stepped _ _ _ _ _ c.cut-then-file-tape.ensures

pub returns-then-out-room : goal.returns-then-out-room
returns-then-out-room c = cut_stepped _ _ _ _ _ c.cut-then-out-room.ensures

pub slice_bounds-run-end-3 : goal.slice_bounds-run-end-3
slice_bounds-run-end-3 c = sym (length-take-le c.short_at-room.result c.args.out.now (omega (arith, c.if-out-room.false)))

pub compare_run-requires : goal.compare_run-requires
compare_run-requires c = record { at_in_bounds = omega (arith, c.if-file-tape.false, c.if-file-at-lt4.false); written_in_bounds = gave_few _ _ _ _ _ _ c.run-ran.result c.run-ran.ensures }

pub returns : goal.returns
returns c =
    let a = c.args in
    run_agrees a.file.now a.words.now c.run-ran.new.words a.out.now c.run-ran.new.out a.at c.short_at-length.result c.short_at-room.result c.run-ran.result c.compare_run.result
    c.short_at-length.ensures.0 c.short_at-room.ensures.0 (omega (arith, c.if-out-room.false)) c.run-ran.ensures c.compare_run.ensures
