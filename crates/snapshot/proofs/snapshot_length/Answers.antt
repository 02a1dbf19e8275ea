use mathlib.Core.Path.{◌≡◌, ap, ◌∙◌}
use Prim.Native.Nat.{ℕ, ◌+◌, ◌*◌, ◌≤◌}
use native.Mathlib.Omega.{arith}
use native.Mathlib.Nat.{mul-le-mul}
use Rattle.model.specs.Numbers.{LONG_VALUE_BYTES, MAX_ENTITIES, MAX_KINDS}
use Rattle.memory.specs.Meaning.{meaning}
use Rattle.snapshot.specs.Rising.{rows_in}
use Rattle.snapshot.proofs.Known.{capacity_most, live_most, bytes_most, bytes_mean}
use Rattle.snapshot.proofs.Sizes.{snapshot_size}
use Rattle.snapshot.proofs.snapshot_length.Goals as goal

pub overflow_mul-result : goal.overflow_mul-result
overflow_mul-result c =
    let few : (c.live_len-live.result ≤ MAX_ENTITIES) × (c.word-width.result ≤ LONG_VALUE_BYTES) = (
    let w = c.args.words.now in
    (omega (arith, c.live_len-live.ensures, live_most w c.requires.arranged, capacity_most w c.requires.arranged), omega (arith, c.word-width.ensures.is, bytes_most w c.requires.arranged))) in
    omega (arith, few)

pub overflow_add-result : goal.overflow_add-result
overflow_add-result c =
    let few : (c.live_len-live.result ≤ MAX_ENTITIES) × (c.word-width.result ≤ LONG_VALUE_BYTES) = (
    let w = c.args.words.now in
    (omega (arith, c.live_len-live.ensures, live_most w c.requires.arranged, capacity_most w c.requires.arranged), omega (arith, c.word-width.ensures.is, bytes_most w c.requires.arranged))) in
    omega (arith, few)

pub overflow_add-result-3 : goal.overflow_add-result-3
overflow_add-result-3 c =
    let few : (c.live_len-live.result ≤ MAX_ENTITIES) × (c.word-width.result ≤ LONG_VALUE_BYTES) = (
    let w = c.args.words.now in
    (omega (arith, c.live_len-live.ensures, live_most w c.requires.arranged, capacity_most w c.requires.arranged), omega (arith, c.word-width.ensures.is, bytes_most w c.requires.arranged))) in
    let few_bytes : (1 + c.word-width.result) * c.count_components.result ≤ (1 + LONG_VALUE_BYTES) * (MAX_ENTITIES * MAX_KINDS) = let h : 1 + c.word-width.result ≤ 1 + LONG_VALUE_BYTES = omega (arith, (few).1) in mul-le-mul h c.count_components.ensures.few in
    omega (arith, few, few_bytes)

pub returns : goal.returns
returns c =
    let w = c.args.words.now in
    let n = rows_in (meaning w).storage.sets in
    let v = (meaning w).settings.value_bytes in
    let parts : (1 + c.word-width.result) * c.count_components.result ≡ (1 + v) * n =
    ap (λ (m : ℕ). (1 + m) * c.count_components.result) (c.word-width.ensures.is ∙ bytes_mean w c.requires.arranged) ∙ ap (λ (m : ℕ). (1 + v) * m) c.count_components.ensures.is in
    omega (arith, snapshot_size (meaning w) c.requires.means, c.live_len-live.ensures, parts)
