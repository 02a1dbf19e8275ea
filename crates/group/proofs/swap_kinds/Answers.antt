use Rattle.group.proofs.Swapping.{swap_start, swap_there, swap_asks, swap_turn, swap_so_far, swap_same, swap_done}
use Rattle.group.proofs.swap_kinds.Goals as goal

pub loop-place-init : goal.loop-place-init
loop-place-init g c = swap_start c.requires.arranged c.requires.places_known c.requires.swappable

pub swap-requires : goal.swap-requires
swap-requires g c =
    let i = c.loop-place in
    let asks = swap_asks c.requires.arranged c.requires.places_known c.requires.swappable i.invariant c.loop-place-test.true in
    record {
      arranged = i.invariant.so_far.arranged;
      lookups = g.met.L.Lookups.kept c.args.lookups c.args.words.now i.words c.requires.arranged (swap_so_far c.requires.arranged c.requires.places_known c.requires.swappable i.invariant) (swap_same c.requires.arranged c.requires.places_known c.requires.swappable i.invariant) c.requires.lookups;
      place_in_bounds = swap_there c.requires.arranged c.requires.places_known c.requires.swappable i.invariant c.loop-place-test.true;
      holds = asks.0;
      room = asks.1;
    }

pub loop-place-preserved : goal.loop-place-preserved
loop-place-preserved g c = swap_turn c.requires.arranged c.requires.places_known c.requires.swappable c.loop-place.invariant c.loop-place-test.true c.swap.ensures

pub shape_of-words : goal.shape_of-words
shape_of-words g c = c.loop-place.invariant.so_far.size

pub returns : goal.returns
returns g c = swap_done c.requires.arranged c.requires.places_known c.requires.swappable c.loop-place.invariant c.loop-place-test.false
