use mathlib.Core.Path.{◌≡◌, ap, ◌∙◌}
use Prim.Native.Nat.{ℕ, ◌-◌}
use native.Mathlib.Omega.{arith}
use Rattle.memory.specs.Meaning.{meaning}
use Rattle.group.specs.Flat.{located, ungroup_at}
use Rattle.group.proofs.Stepping.{swaps, place_small, still_below, moves, counts}
use Rattle.group.proofs.ungroup_components.Goals as goal

pub overflow_sub-swap_index : goal.overflow_sub-swap_index
overflow_sub-swap_index c = c.requires.le_group_len

pub set_count-requires : goal.set_count-requires
set_count-requires c =
    let last : c.args.group_len - 1 ≡ (located (meaning c.args.words.now).storage.layout c.args.g).count - 1 = ap (λ (n : ℕ). n - 1) c.requires.stands.counted in
    record { arranged = c.requires.arranged; g_bound = c.requires.stands.below; count_bound = omega (arith, place_small c.requires.arranged c.requires.stands c.requires.swappable, last) }

pub shape_of-words-then-place-swap_index : goal.shape_of-words-then-place-swap_index
shape_of-words-then-place-swap_index c = c.set_count.auto.words

pub returns-then-place-swap_index : goal.returns-then-place-swap_index
unfolding ungroup_at
returns-then-place-swap_index c =
    let last : c.args.group_len - 1 ≡ (located (meaning c.args.words.now).storage.layout c.args.g).count - 1 = ap (λ (n : ℕ). n - 1) c.requires.stands.counted in
    let there : c.args.place ≡ (located (meaning c.args.words.now).storage.layout c.args.g).count - 1 = omega (arith, c.if-place-swap_index.true, last) in
    counts c.requires.arranged c.requires.stands c.requires.swappable (λ k i. c.requires.stands_at k i ∙ there) last c.set_count.ensures

pub swap_kinds-requires : goal.swap_kinds-requires
swap_kinds-requires c =
    let last : c.args.group_len - 1 ≡ (located (meaning c.args.words.now).storage.layout c.args.g).count - 1 = ap (λ (n : ℕ). n - 1) c.requires.stands.counted in
    record { arranged = c.requires.arranged; lookups = c.requires.shape_is; places_known = c.requires.stands.metadata.listed; swappable = swaps c.requires.arranged c.requires.stands c.requires.swappable last }

pub set_count-requires-2 : goal.set_count-requires-2
set_count-requires-2 c =
    let last : c.args.group_len - 1 ≡ (located (meaning c.args.words.now).storage.layout c.args.g).count - 1 = ap (λ (n : ℕ). n - 1) c.requires.stands.counted in
    let B = c.swap_kinds.ensures in
    record { arranged = B.arranged; g_bound = still_below c.requires.arranged c.requires.stands c.requires.swappable last B; count_bound = omega (arith, place_small c.requires.arranged c.requires.stands c.requires.swappable, last) }

pub shape_of-words : goal.shape_of-words
shape_of-words c = c.set_count-2.auto.words ∙ c.swap_kinds.auto.words

pub returns : goal.returns
unfolding ungroup_at
returns c =
    let last : c.args.group_len - 1 ≡ (located (meaning c.args.words.now).storage.layout c.args.g).count - 1 = ap (λ (n : ℕ). n - 1) c.requires.stands.counted in
    moves c.requires.arranged c.requires.stands c.requires.swappable last c.swap_kinds.ensures last c.set_count-2.ensures
