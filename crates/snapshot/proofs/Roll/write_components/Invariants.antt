use Prim.Native.Nat.{◌*◌}
use lib.ListN.{drop}
use Rattle.model.specs.Model.{entity}
use Rattle.memory.specs.Meaning.{meaning}
use Rattle.snapshot.proofs.Writing.{Writing}
use Rattle.snapshot.proofs.Listed.{kinds_bytes}
use Rattle.snapshot.proofs.Roll.write_components.Given as goal

abbrev pub invariant-loop-kind : goal.invariant-loop-kind
invariant-loop-kind l =
    Writing l.initial.out l.at (kinds_bytes (4 * l.self.shape.stride) (entity l.e.index l.e.version) (meaning l.self.words.now).storage.sets l.self.kinds.now) l.out l.next (kinds_bytes (4 * l.self.shape.stride) (entity l.e.index l.e.version) (meaning l.self.words.now).storage.sets (drop l.kind-index l.self.kinds.now))
