use mathlib.Core.Path.{◌≡◌}
use mathlib.Core.List.{List}
use Prim.Native.Nat.{ℕ, ◌+◌, ◌*◌, ◌≤◌}
use native.Mathlib.Omega.{arith}
use lib.ListN.{length, get_or, drop}
use Rattle.model.specs.Model.{set_of, entity}
use Rattle.model.specs.Snapshot.{value_at, components_of, component_bytes}
use Rattle.model.specs.Listed.{rising_kinds}
use Rattle.memory.specs.Meaning.{meaning}
use Rattle.memory.specs.Arranged.{Arranged}
use Rattle.memory.proofs.Becomes.{sets_wide}
use Rattle.snapshot.specs.Wrote.{one_bytes}
use Rattle.snapshot.proofs.Writing.{writing_turn, writing_end, writing_room}
use Rattle.snapshot.proofs.Known.{no_rows}
use Rattle.snapshot.proofs.Listed.{rising_in, kinds_bytes, bytes_turn, bytes_end, bytes_all}
use Rattle.snapshot.proofs.Roll.write_components.Goals as goal

-- what is to be written, kind by kind
all_listed : (w list : List ℕ) (v i n : ℕ) → Arranged w → list ≡ rising_kinds (meaning w).kinds
    → component_bytes v (components_of (entity i n) 0 (meaning w).storage.sets) ≡ kinds_bytes v (entity i n) (meaning w).storage.sets list
all_listed w list v i n A r = bytes_all v (entity i n) (meaning w).kinds (meaning w).storage.sets (sets_wide w) (no_rows w A) list r

pub write_one-next-requires-clause-kind_known : goal.write_one-next-requires-clause-kind_known
write_one-next-requires-clause-kind_known c =
    let a = c.args in
    rising_in (meaning a.self.now.words.now).kinds a.self.now.kinds.now c.args.self.now.rising c.loop-kind.kind-index (omega arith)

pub write_one-next-requires-clause-room : goal.write_one-next-requires-clause-room
write_one-next-requires-clause-room c =
    let a = c.args in
    let w = a.self.now.words.now in
    let v = 4 * a.self.now.shape.stride in
    let e = entity a.e.index a.e.version in
    let ss = (meaning w).storage.sets in
    let i = c.loop-kind.kind-index in
    let k = get_or a.self.now.kinds.now i 0 in
    let room : a.at + length (kinds_bytes v e ss a.self.now.kinds.now) ≤ length a.out.now = rw (all_listed w a.self.now.kinds.now v a.e.index a.e.version c.requires.arranged c.args.self.now.rising) at c.requires.room in
    writing_room (one_bytes v (value_at e (set_of ss k)) k) (kinds_bytes v e ss (drop (i + 1) a.self.now.kinds.now)) c.loop-kind.invariant (bytes_turn v e ss a.self.now.kinds.now i (omega arith)) room

pub loop-kind-preserved : goal.loop-kind-preserved
loop-kind-preserved c =
    let a = c.args in
    let v = 4 * a.self.now.shape.stride in
    let e = entity a.e.index a.e.version in
    let ss = (meaning a.self.now.words.now).storage.sets in
    let i = c.loop-kind.kind-index in
    let k = get_or a.self.now.kinds.now i 0 in
    writing_turn (one_bytes v (value_at e (set_of ss k)) k) (kinds_bytes v e ss (drop (i + 1) a.self.now.kinds.now)) c.loop-kind.invariant (bytes_turn v e ss a.self.now.kinds.now i (omega arith)) c.write_one-next.ensures

pub returns : goal.returns
returns c =
    let a = c.args in
    let w = a.self.now.words.now in
    let v = 4 * a.self.now.shape.stride in
    let e = entity a.e.index a.e.version in
    rw (all_listed w a.self.now.kinds.now v a.e.index a.e.version c.requires.arranged c.args.self.now.rising)
    (writing_end c.loop-kind.invariant (bytes_end v e (meaning w).storage.sets a.self.now.kinds.now c.loop-kind.kind-index (omega arith)))
