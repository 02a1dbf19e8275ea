-- A change of the entity part, as a change of the whole words. Assumes nothing.
use mathlib.Core.Path.{◌≡◌}
use mathlib.Core.List.{List}
use Prim.Native.Nat.{ℕ, ◌+◌, ◌*◌, ◌-◌, ◌≤◌}
use native.Mathlib.Omega.{arith}
use lib.ListN.{length}
use Rattle.model.specs.Numbers.{ENTITY_LEN}
use Rattle.words.specs.Offsets.{ENTITIES}
use Rattle.model.specs.Model.{Entities}
use Rattle.words.proofs.Part.{patch, patch_front, patch_rest, patch_between, patch_length}
use Rattle.entity.specs.Change.{EntitiesChanged, EntityChange}
use Rattle.entity.specs.Meaning.{entity_part}

-- the part, changed where it lies
pub changed_in : (n : ℕ) (f : Entities → Entities) (w ys : List ℕ) → ENTITIES + ENTITY_LEN * n ≤ length w → EntitiesChanged n f (entity_part n w) ys → EntityChange n f w (patch ENTITIES (ENTITIES + ENTITY_LEN * n) w ys)
changed_in n f w ys g c =
    let e = ENTITIES + ENTITY_LEN * n in
    let h : ENTITIES ≤ e = omega arith in
    let l : length ys ≡ e - ENTITIES = omega (arith, c.sound.sized.size) in
    let m : entity_part n (patch ENTITIES e w ys) ≡ ys = patch_between ENTITIES e w ys h g l in
    record {
      sound = rw m c.sound;
      size = patch_length ENTITIES e w ys h g l;
      becomes = rw m c.becomes;
      front = patch_front ENTITIES e w ys h g l;
      rest = patch_rest ENTITIES e w ys h g l;
    }

-- the words have a sound entity part still
