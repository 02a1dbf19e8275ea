use Rattle.component.proofs.slots.swap_to_in.Goals as goal

pub swap_to_from-requires : goal.swap_to_from-requires
swap_to_from-requires c =
    record {
      from = record { slot = c.args.slot; starts = c.column_start.ensures.is; lent = c.requires.lent };
      holds = c.requires.holds;
      room = c.requires.place_in_bounds;
    }

pub returns : goal.returns
returns c = c.swap_to_from.ensures c.args.slot c.column_start.ensures.is c.requires.lent
