use Prim.Native.Nat.{◌≤◌}
use native.Mathlib.Omega.{arith}
use lib.ListN.{length}
use Rattle.model.specs.Numbers.{LIST_CAPACITY}
use Rattle.model.specs.Store.{staged_kinds}
use Rattle.memory.specs.Meaning.{meaning}
use Rattle.command_group.proofs.Staged.{staged_set, staged_width}
use Rattle.command_group.proofs.add_staged.Goals as goal

pub add_group-requires : goal.add_group-requires
add_group-requires c =
    let s = meaning c.args.words.now in
    let few : length (staged_kinds s) ≤ LIST_CAPACITY = omega (arith, staged_width s, c.requires.means.staged.few) in
    (c.draft-draft.ensures.formed, rw (c.as_slice.ensures, c.staged_kinds.ensures) (staged_set s c.requires.means), rw (c.as_slice.ensures, c.staged_kinds.ensures) few)
