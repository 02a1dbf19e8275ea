use Rattle.sound_groups.proofs.CountLaws.{located, new_moved}
use Rattle.sound_groups.proofs.heads.new_ok.Goals as goal

pub span_ok-requires-clause-kinds_at : goal.span_ok-requires-clause-kinds_at
span_ok-requires-clause-kinds_at c = let a = c.args in (located a.z a.words.now a.families a.f a.g _ c.requires.force c.requires.g_bound.0 c.requires.g_bound.1 c.read-metadata.ensures).new

pub returns : goal.returns
returns c =
    let a = c.args in
    let l = located a.z a.words.now a.families a.f a.g _ c.requires.force c.requires.g_bound.0 c.requires.g_bound.1 c.read-metadata.ensures in
    new_moved a.z a.words.now a.g a.f _ l.read c.span_ok.result c.span_ok.ensures
