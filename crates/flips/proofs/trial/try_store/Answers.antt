use Rattle.std.proofs.Common.{◌≡◌, rules}
use Rattle.words.proofs.Decides.{yes_of, no_of}
use Rattle.flips.proofs.Counting.{tried_refused}
use Rattle.flips.proofs.trial.try_store.Goals as goal

pub try_commands-requires : goal.try_commands-requires
try_commands-requires c = yes_of c.is_sound.result c.is_sound.ensures c.if-is_sound.true

pub returns : goal.returns
returns c =
    let zeros : c.default.result ≡ record { refused = 0; sound = 0; served = 0; stayed = 0 } = search rules in
    rw zeros (tried_refused _ (no_of c.is_sound.result c.is_sound.ensures c.if-is_sound.false))
