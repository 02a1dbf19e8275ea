use mathlib.Core.Path.{◌≡◌, refl, ap}
use Prim.Native.Nat.{ℕ, ◌+◌, ◌*◌, ◌-◌}
use native.Mathlib.Omega.{arith}
use Rattle.columns.proofs.Columns.{Inside, size_of, known_of, inside_of, rows_part}
use Rattle.columns.proofs.rows.Goals as goal

pub row_start-first-requires : goal.row_start-first-requires
row_start-first-requires c =
    let a = c.args in
    let C = known_of a.words.now a.values a.kind a.start a.end c.requires.arranged c.requires.accepted in
    record { arranged = c.requires.arranged; kind_known = C.known; place_in_bounds = omega (arith, C.order, C.inside) }

pub item_words-requires : goal.item_words-requires
item_words-requires c = c.requires.arranged

pub overflow_sub-last : goal.overflow_sub-last
overflow_sub-last c =
    let inside : Inside c.args.words.now c.args.values c.args.kind c.args.start c.args.end (size_of c.args.words.now c.args.values c.args.start c.args.end) = inside_of c.args.words.now c.args.values c.args.kind c.args.start c.args.end c.requires.arranged c.requires.accepted in
    omega (arith, inside.order)

pub overflow_mul-last : goal.overflow_mul-last
overflow_mul-last c =
    let inside : Inside c.args.words.now c.args.values c.args.kind c.args.start c.args.end (size_of c.args.words.now c.args.values c.args.start c.args.end) = inside_of c.args.words.now c.args.values c.args.kind c.args.start c.args.end c.requires.arranged c.requires.accepted in
    let size_is : c.item_words.result * (c.args.end - c.args.start) ≡ size_of c.args.words.now c.args.values c.args.start c.args.end = let a = c.args in ap (λ (n : ℕ). n * (a.end - a.start)) c.item_words.ensures in
    omega (arith, inside.few, size_is)

pub overflow_add-last : goal.overflow_add-last
overflow_add-last c =
    let inside : Inside c.args.words.now c.args.values c.args.kind c.args.start c.args.end (size_of c.args.words.now c.args.values c.args.start c.args.end) = inside_of c.args.words.now c.args.values c.args.kind c.args.start c.args.end c.requires.arranged c.requires.accepted in
    let size_is : c.item_words.result * (c.args.end - c.args.start) ≡ size_of c.args.words.now c.args.values c.args.start c.args.end = let a = c.args in ap (λ (n : ℕ). n * (a.end - a.start)) c.item_words.ensures in
    omega (arith, inside.few, size_is, c.row_start-first.ensures.small)

pub slice_bounds-result-end : goal.slice_bounds-result-end
slice_bounds-result-end c =
    let inside : Inside c.args.words.now c.args.values c.args.kind c.args.start c.args.end (size_of c.args.words.now c.args.values c.args.start c.args.end) = inside_of c.args.words.now c.args.values c.args.kind c.args.start c.args.end c.requires.arranged c.requires.accepted in
    let size_is : c.item_words.result * (c.args.end - c.args.start) ≡ size_of c.args.words.now c.args.values c.args.start c.args.end = let a = c.args in ap (λ (n : ℕ). n * (a.end - a.start)) c.item_words.ensures in
    omega (arith, inside.within, size_is, c.row_start-first.ensures.is)

pub returns : goal.returns
returns c =
    let size_is : c.item_words.result * (c.args.end - c.args.start) ≡ size_of c.args.words.now c.args.values c.args.start c.args.end = let a = c.args in ap (λ (n : ℕ). n * (a.end - a.start)) c.item_words.ensures in
    let a = c.args in
    let first = c.row_start-first.result in
    rows_part a.words _ a.values a.kind a.start a.end first _ c.requires.arranged c.requires.accepted (λ j. omega (arith, c.type_inv.words j)) c.row_start-first.ensures.is (ap (λ (n : ℕ). first + n) size_is) refl refl refl
