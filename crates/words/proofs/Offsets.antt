-- Where things stand in a column, and where the columns start. Products of two variables are met here and nowhere else: values_len and column_start stay
-- shut, with their laws. Assumes nothing.
use mathlib.Core.Path.{◌≡◌, refl, ap}
use mathlib.Core.Logic.{inl, inr}
use Prim.Native.Nat.{ℕ, suc, ◌+◌, ◌*◌, ◌≤◌, ◌<◌}
use native.Mathlib.Nat.{add-mul, mul-le-mul_right, mul-le-mul_left, mul-le-mul, suc-mul, mul-suc, zero-mul}
use native.Mathlib.Omega.{arith}
use Rattle.model.specs.Numbers.{COLUMN_HEAD, ENTITY_LEN, HEADER_LEN, LINKS_LEN, MAX_ENTITIES, MAX_KINDS, row_len, stride_of}
use Rattle.model.specs.Store.{words_needed}
use Rattle.model.specs.Sound.{EightOrSixteen}
use Rattle.words.specs.declared.Shape.{Shape}
use Rattle.words.specs.Offsets.{ENTITIES}
use Rattle.words.specs.Shape.{TwoOrFour, Shaped, shape, values_len, column_len, column_start}

-- ---- values

-- an earlier value ends before a later one starts
pub values_len_apart : (d i j : ℕ) → i < j → values_len d i + d ≤ values_len d j
unfolding values_len
values_len_apart d i j h = let q : d * suc i ≤ d * j = mul-le-mul_left d h in omega (arith, mul-suc d i)

pub values_len_mono : (d i j : ℕ) → i ≤ j → values_len d i ≤ values_len d j
unfolding values_len
values_len_mono d i j h = mul-le-mul_left d h

-- they fit; as the code multiplies, and shut
pub words_fit : (z : Shape) (i : ℕ) → Shaped z → i ≤ z.capacity → z.stride * i ≤ 16384
words_fit z i s h = let k : i ≤ 4096 = omega (arith, s.small) in mul-le-mul s.words.most k

pub values_len_fits : (z : Shape) (i : ℕ) → Shaped z → i ≤ z.capacity → values_len z.stride i ≤ 16384
unfolding values_len
values_len_fits z i s h = words_fit z i s h

-- as a product
pub values_len_is : (d i : ℕ) → values_len d i ≡ d * i
unfolding values_len
values_len_is d i = refl

-- eight bytes are two words, sixteen are four
pub two_or_four : (v : ℕ) → EightOrSixteen v → TwoOrFour (stride_of v)
two_or_four v (inl e) = rw e (record { least = omega arith; most = omega arith; even = omega arith })
two_or_four v (inr e) = rw e (record { least = omega arith; most = omega arith; even = omega arith })

-- what a store's columns may be made for
pub shaped_of : (n v : ℕ) → n ≤ MAX_ENTITIES → EightOrSixteen v → Shaped (shape n v)
shaped_of n v h e = record { small = h; words = two_or_four v e }

-- ---- columns

-- an earlier column ends before a later one starts
pub column_start_apart : (z : Shape) (i j : ℕ) → i < j → column_start z i + column_len z ≤ column_start z j
unfolding column_start
column_start_apart z i j h = let q : suc i * column_len z ≤ j * column_len z = mul-le-mul_right (column_len z) h in omega (arith, suc-mul i (column_len z))

-- a column_start fits
pub column_start_fits : (z : Shape) (k : ℕ) → Shaped z → k ≤ MAX_KINDS → column_start z k ≤ 4300000
unfolding column_start
column_start_fits z k s hk =
    let v = values_len_fits z z.capacity s (omega arith) in
    let m : column_len z ≤ 32776 = omega (arith, s.small) in
    omega (arith, s.small, mul-le-mul hk m)

pub column_start_mono : (z : Shape) (i j : ℕ) → i ≤ j → column_start z i ≤ column_start z j
unfolding column_start
column_start_mono z i j h = omega (arith, mul-le-mul_right (column_len z) h)

-- the first column follows the header and the entity part
pub column_start_first : (z : Shape) → column_start z 0 ≡ ENTITIES + ENTITY_LEN * z.capacity
unfolding column_start
column_start_first z = omega (arith, zero-mul (column_len z))

-- the words that a store needs: 01's sum, with the words of a row
pub column_start_needed : (n k v : ℕ) → column_start (shape n v) k ≡ words_needed n k v
unfolding column_start words_needed values_len
column_start_needed n k v =
    let e : column_len (shape n v) ≡ COLUMN_HEAD + row_len v * n = omega (arith, add-mul LINKS_LEN (stride_of v) n) in
    ap (λ (m : ℕ). HEADER_LEN + ENTITY_LEN * n + k * m) e
