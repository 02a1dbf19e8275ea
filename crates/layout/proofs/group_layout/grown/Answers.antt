use mathlib.Core.List.{List}
use mathlib.Core.Path.{◌≡◌, ◌∙◌, ap}
use Prim.Native.Nat.{ℕ}
use lib.ListN.{get_or}
use Rattle.words.specs.Part.{between}
use Rattle.layout.specs.ByValue.{arrays_of, ArraysSized}
use Rattle.layout.specs.Layout.{kinds_at, start_of}
use Rattle.layout.specs.Grow.{merged_kinds}
use Rattle.layout.specs.declared.group_layout.Layout.{Layout}
use Rattle.layout.proofs.Arrays.{bounds}
use Rattle.layout.proofs.Adding.{own_length, all_most, onto_places, onto_done}
use native.Mathlib.Omega.{arith}
use borrow.Author.Rules.{rules}
use Rattle.layout.proofs.group_layout.grown.Goals as goal

-- the part that starts where start_of says is the family's kinds
part_kinds : (l : Layout) (f k : ℕ) → k ≡ start_of l.kind_ends f → between k (get_or l.kind_ends f 0) l.kinds ≡ kinds_at (arrays_of l) f
part_kinds l f k e = ap (λ (i : ℕ). between i (get_or l.kind_ends f 0) l.kinds) e

pub slice_bounds-merged-end : goal.slice_bounds-merged-end
slice_bounds-merged-end c =
    let z : ArraysSized (arrays_of c.args.l) = search rules in
    omega (arith, bounds (arrays_of c.args.l) c.requires.group.formed.good z c.args.f c.requires.inside)

pub merged-all-requires : goal.merged-all-requires
merged-all-requires c =
    let z : ArraysSized (arrays_of c.args.l) = search rules in
    let l = c.args.l in
    let f = c.args.f in
    let hs = c.args.staged.now in
    let e = part_kinds c.args.l c.args.f _ c.start_of-kind_start.ensures in (
      rw e (omega (arith, own_length l f c.args.at hs c.requires z, (c.requires.group.formed.good.family f c.requires.inside).most)),
      omega (arith, c.requires.group.most),
      rw e (omega (arith, all_most l f c.args.at hs c.requires z)),
    )

pub filled-requires : goal.filled-requires
filled-requires c =
    let z : ArraysSized (arrays_of c.args.l) = search rules in
    let hs = c.args.staged.now in
    let same = c.as_slice.ensures ∙ c.merged-all.ensures ∙ ap (λ (ks : List ℕ). merged_kinds ks hs) (part_kinds c.args.l c.args.f _ c.start_of-kind_start.ensures) in
    rw same (onto_places c.args.l c.args.f c.args.at hs c.requires z)

pub returns : goal.returns
returns c =
    let z : ArraysSized (arrays_of c.args.l) = search rules in
    let hs = c.args.staged.now in
    let same = c.as_slice.ensures ∙ c.merged-all.ensures ∙ ap (λ (ks : List ℕ). merged_kinds ks hs) (part_kinds c.args.l c.args.f _ c.start_of-kind_start.ensures) in
    onto_done c.args.l c.args.f c.args.at hs c.requires z c.filled.result (rw same at c.filled.ensures)
