-- The two widths of a value: shared facts, each said once for both. Assumes nothing.
use mathlib.Core.Path.{◌≡◌, refl}
use mathlib.Core.Logic.{◌≢◌, inl, inr}
use Prim.Native.Nat.{ℕ, ◌+◌, ◌*◌, ◌≤◌}
use native.Mathlib.Nat.{mul-le-mul}
use native.Mathlib.Omega.{arith}
use Rattle.model.specs.Numbers.{LIST_CAPACITY, LONG_VALUE_BYTES, MAX_ENTITIES, MAX_KINDS, VALUE_BYTES, column_len, row_len, stride_of}
use Rattle.model.specs.Sound.{EightOrSixteen}

-- there is no third
pub neither : (v : ℕ) → v ≢ VALUE_BYTES → v ≢ LONG_VALUE_BYTES → EightOrSixteen v → ⊥
neither v a b (inl e) = a e
neither v a b (inr e) = b e

-- a value has as many bytes as an entity, or more
pub width_least : (v : ℕ) → EightOrSixteen v → VALUE_BYTES ≤ v
width_least v (inl e) = omega arith
width_least v (inr e) = omega arith

-- what is not of sixteen bytes is of eight
pub short : (v : ℕ) → v ≢ LONG_VALUE_BYTES → EightOrSixteen v → v ≡ VALUE_BYTES
short v ne (inl e) = e
short v ne (inr e) = absurd (ne e)

pub width_most : (v : ℕ) → EightOrSixteen v → v ≤ LONG_VALUE_BYTES
width_most v (inl e) = omega arith
width_most v (inr e) = omega arith

-- it is of whole words
pub width_words : (v : ℕ) → EightOrSixteen v → 4 * stride_of v ≡ v
width_words v (inl e) = rw e refl
width_words v (inr e) = rw e refl

-- one byte and a value's for each staged component
pub held_fit : (v n : ℕ) → v ≤ LONG_VALUE_BYTES → n ≤ LIST_CAPACITY → (1 + v) * n ≤ (1 + LONG_VALUE_BYTES) * LIST_CAPACITY
held_fit v n hv hn = let l : 1 + v ≤ 1 + LONG_VALUE_BYTES = omega arith in mul-le-mul l hn

-- rows and columns fit
pub rows_fit : (n v : ℕ) → n ≤ MAX_ENTITIES → v ≤ LONG_VALUE_BYTES → row_len v * n ≤ 32768
rows_fit n v hn hv = let d : row_len v ≤ 8 = omega arith in mul-le-mul d hn

pub columns_fit : (n k v : ℕ) → n ≤ MAX_ENTITIES → k ≤ MAX_KINDS → v ≤ LONG_VALUE_BYTES → k * column_len n v ≤ MAX_KINDS * 32776
columns_fit n k v hn hk hv = let m : column_len n v ≤ 32776 = omega (arith, rows_fit n v hn hv) in mul-le-mul hk m
