use mathlib.Core.Path.{◌∙◌, sym}
use Rattle.words.proofs.Decides.{granted, decides_on}
use Rattle.std.proofs.lemmas.Bool.{not_from_true}
use Rattle.layout_block.proofs.Checking.{block_sound, block_kinds}
use Rattle.layout_block.proofs.block_ok.Goals as goal

pub returns-then-start_of-groups : goal.returns-then-start_of-groups
returns-then-start_of-groups c =
    let a = c.args in
    let width = c.start_of-width in
    let formed = granted c.families_ok.result c.families_ok.ensures (not_from_true _ c.if-not-families_ok.false) in
    let counted = sym c.start_of.ensures.is ∙ c.if-start_of-groups.true in
    decides_on c.kinds_ok.result
    (block_sound a.block.now a.table.now a.families a.groups width.result c.requires.0 c.if-families-gt-MAX_GROUP_COUNT.false formed counted width.ensures.is, block_kinds a.block.now a.table.now a.families a.groups width.result width.ensures.is)
    c.kinds_ok.ensures
