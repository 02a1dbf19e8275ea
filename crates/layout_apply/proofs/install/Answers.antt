use mathlib.Core.Path.{sym, ◌∙◌}
use Rattle.layout_apply.proofs.InForce.{ready₁, clear_asks, cleared, heads₂, ready₂, upto₂, heads_set}
use Rattle.layout_apply.proofs.HeadSteps.{shape_same}
use Rattle.layout_apply.proofs.install.Goals as goal

pub clear_heads-requires : goal.clear_heads-requires
clear_heads-requires c =
    clear_asks c.args.words.now c.prepare.new.words c.requires.arranged c.requires.store_sound c.prepare.ensures c.shape_of-z.result c.word-m.result c.shape_of-z.ensures.is c.word-m.ensures.is

pub put_heads-requires : goal.put_heads-requires
put_heads-requires c =
    let w₀ = c.args.words.now in
    let w₁ = c.prepare.new.words in
    let w₂ = c.clear_heads.new.words in
    let C = cleared w₀ w₁ c.requires.arranged c.requires.store_sound c.prepare.ensures c.shape_of-z.result c.word-m.result c.shape_of-z.ensures.is c.word-m.ensures.is w₂ c.clear_heads.ensures in
    let R = ready₁ w₀ w₁ c.requires.arranged c.requires.store_sound c.prepare.ensures in record { heads_ready = ready₂ w₀ w₁ c.requires.arranged c.requires.store_sound c.prepare.ensures w₂ C; shape_is = c.shape_of-z.ensures.is ∙ sym (shape_same w₁ w₂ R (heads₂ w₀ w₁ c.requires.arranged c.requires.store_sound c.prepare.ensures w₂ C)); upto = upto₂ w₀ w₁ c.requires.arranged c.requires.store_sound c.prepare.ensures w₂ C }

pub returns : goal.returns
returns c =
    let w₀ = c.args.words.now in
    let w₁ = c.prepare.new.words in
    let w₂ = c.clear_heads.new.words in
    heads_set w₀ w₁ c.requires.arranged c.requires.store_sound c.prepare.ensures w₂ c.put_heads.new.words
    (cleared w₀ w₁ c.requires.arranged c.requires.store_sound c.prepare.ensures c.shape_of-z.result c.word-m.result c.shape_of-z.ensures.is c.word-m.ensures.is w₂ c.clear_heads.ensures)
    c.put_heads.ensures
