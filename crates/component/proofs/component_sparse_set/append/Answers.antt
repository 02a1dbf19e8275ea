use native.Mathlib.Omega.{arith}
use lib.ListN.{length-set}
use Rattle.component.proofs.Meaning.{absent_room}
use Rattle.component.proofs.Moves.{appended}
use borrow.Author.Rules.{rules}
use Rattle.component.proofs.component_sparse_set.append.Goals as goal

pub put_entity-requires : goal.put_entity-requires
put_entity-requires c =
    let a = c.args in
    (search rules, absent_room a.z a.part.now c.requires.column_sound a.e.index c.requires.issued.0 c.requires.absent)

pub put_lookup-requires : goal.put_lookup-requires
put_lookup-requires c =
    let a = c.args in
    (search rules, c.requires.issued.0, absent_room a.z a.part.now c.requires.column_sound a.e.index c.requires.issued.0 c.requires.absent)

pub put_value-requires : goal.put_value-requires
put_value-requires c =
    let a = c.args in
    (record { size = simp length-set (omega (arith, c.requires.column_sound.size, c.put_lookup.auto.part, c.put_entity.auto.part)); shaped = c.requires.column_sound.shaped }, absent_room a.z a.part.now c.requires.column_sound a.e.index c.requires.issued.0 c.requires.absent)

pub returns : goal.returns
returns c =
    let a = c.args in
    let p = c.requires.issued in
    appended a.z a.part.now c.requires.column_sound a.e.index a.e.version _ p.0 p.1 c.requires.absent c.put_value.new.part
    (rw (c.put_lookup.ensures, c.put_entity.ensures) at c.put_value.ensures)
