use Rattle.std.proofs.Common.{◌≡◌, rules}
use Rattle.flips.proofs.Counting.{tried_sound}
use Rattle.flips.proofs.trial.try_commands.Goals as goal

pub returns : goal.returns
returns c =
    let zeros : c.default.result ≡ record { refused = 0; sound = 0; served = 0; stayed = 0 } = search rules in
    rw (zeros, c.from.ensures, c.from-2.ensures)
    (tried_sound _ _ c.serves-served.result c.is_sound-stayed.result c.requires c.serves-served.ensures c.is_sound-stayed.ensures)
