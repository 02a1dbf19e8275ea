use mathlib.Core.Path.{sym, ◌∙◌}
use mathlib.Core.Bool.{false≢true}
use Rattle.words.proofs.Decides.{decides_on, yes_of}
use Rattle.memory.specs.Header.{capacity_of, kind_capacity_of, value_bytes_of}
use Rattle.entity.specs.Meaning as entity
use Rattle.entity.specs.Meaning.{entity_part}
use Rattle.sound_columns.specs.Table.{TableOk}
use Rattle.soundness.proofs.Whole.{size_entities, parts_left}
use Rattle.soundness.proofs.has_parts.Goals.{then-is_table, else-is_table}
use Rattle.soundness.proofs.has_parts.Goals as goal

pub is_sound_in-requires : goal.is_sound_in-requires
is_sound_in-requires c =
    let w = c.args.words.now in
    rw c.shape_of-z.ensures.is (c.requires.limits.most, size_entities (capacity_of w) (kind_capacity_of w) (value_bytes_of w) w c.requires)

pub are_columns-requires-clause-sound_in : goal.are_columns-requires-clause-sound_in
are_columns-requires-clause-sound_in c =
    let w = c.args.words.now in
    let n = c.shape_of-z.result.capacity in
    let entities : entity.EntityPartSound n (entity_part n w) = elim c.if-is_table.branch [
      | then-is_table t ↦ yes_of t.is_sound_in.result t.is_sound_in.ensures (sym t.value-is ∙ c.if-is_sound_in.true)
      | else-is_table t ↦ absurd (false≢true (sym t.if-is_table.false ∙ sym t.value-is ∙ c.if-is_sound_in.true))
    ] in
    record { fits = rw c.shape_of-z.ensures.is (size_entities (capacity_of w) (kind_capacity_of w) (value_bytes_of w) w c.requires); sound = entities }

pub returns-then-is_sound_in : goal.returns-then-is_sound_in
returns-then-is_sound_in c =
    let w = c.args.words.now in
    let z = c.shape_of-z.result in
    let table : TableOk z (kind_capacity_of w) w = elim c.if-is_table.branch [
      | then-is_table t ↦ yes_of c.is_table.result c.is_table.ensures t.if-is_table.true
      | else-is_table t ↦ absurd (false≢true (sym t.if-is_table.false ∙ sym t.value-is ∙ c.if-is_sound_in.true))
    ] in
    let entities : entity.EntityPartSound z.capacity (entity_part z.capacity w) = elim c.if-is_table.branch [
      | then-is_table t ↦ yes_of t.is_sound_in.result t.is_sound_in.ensures (sym t.value-is ∙ c.if-is_sound_in.true)
      | else-is_table t ↦ absurd (false≢true (sym t.if-is_table.false ∙ sym t.value-is ∙ c.if-is_sound_in.true))
    ] in
    decides_on _ (parts_left z w _ c.shape_of-z.ensures.is table entities) c.are_columns.ensures
