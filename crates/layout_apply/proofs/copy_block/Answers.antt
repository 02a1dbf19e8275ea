use mathlib.Core.Path.{◌∙◌, sym}
use native.Mathlib.Omega.{arith}
use lib.ListN.{length, drop, length-drop}
use lib.Seq.{length-take-le}
use Prim.Native.Nat.{◌-◌}
use Rattle.words.specs.Offsets.{BLOCK_LEN, DRAFT}
use Rattle.layout_apply.proofs.Words.{copied_block}
use Rattle.layout_apply.proofs.copy_block.Goals as goal

pub slice_bounds-copy_from_slice-end-2 : goal.slice_bounds-copy_from_slice-end-2
slice_bounds-copy_from_slice-end-2 c = sym (length-take-le _ _ (omega (arith, c.requires, c.split_at_mut-before.ensures.back_len)))

pub copy_from_slice-requires : goal.copy_from_slice-requires
copy_from_slice-requires c =
    let parts = c.split_at_mut-before in
    let before = parts.result.0.now in
    length-take-le BLOCK_LEN parts.result.1.now (omega (arith, c.requires, parts.ensures.back_len))
    ∙ sym (length-take-le (length before - DRAFT) (drop DRAFT before) (omega (arith, length-drop DRAFT before)) ∙ omega (arith, parts.ensures.front_len))

pub returns : goal.returns
returns c =
    let parts = c.split_at_mut-before in
    copied_block c.args.words.now _ _ _ c.requires parts.ensures.front parts.ensures.back c.copy_from_slice.ensures.after
