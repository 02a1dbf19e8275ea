use Rattle.columns.specs.Refused.{refusal_number}
use Rattle.store.proofs.Handing.{sound_number}
use Rattle.store.proofs.held.column_number.Goals as goal

pub refusal-requires : goal.refusal-requires
refusal-requires c = c.requires.arranged

pub returns : goal.returns
returns c =
    let a = c.args in
    sound_number a.words.now a.kind a.start a.end (refusal_number c.refusal.result) c.requires c.refusal.ensures
