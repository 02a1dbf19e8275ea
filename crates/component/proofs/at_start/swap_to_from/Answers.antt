use Rattle.model.specs.Model.{swap_to, entity}
use Rattle.component.proofs.Parts.{part_is, only_at}
use Rattle.component.proofs.at_start.swap_to_from.Goals as goal

pub swap_to-requires : goal.swap_to-requires
swap_to-requires c =
    let a = c.args in
    let L = c.requires.from in
    rw (part_is a.z L.slot a.base c.column_len.result a.words.now L.starts c.column_len.ensures.is) record { column_sound = L.lent.sound; holds = c.requires.holds; place_in_bounds = c.requires.room }

pub returns : goal.returns
returns c =
    let a = c.args in
    λ s q l. only_at a.z s a.base c.column_len.result (swap_to (entity a.e.index a.e.version) a.place) a.words.now c.swap_to.new.part q c.column_len.ensures.is l c.swap_to.ensures
