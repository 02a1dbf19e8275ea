use Rattle.std.proofs.Common.{◌≡◌, length}
use Rattle.flips.specs.Trial.{Keeps}
use Rattle.flips.proofs.feed.hold.Given as goal

abbrev pub invariant-loop-kind : goal.invariant-loop-kind
invariant-loop-kind l = Keeps l.initial.words l.words × (length l.words ≡ length l.initial.words)
