use Rattle.sound_groups.proofs.CountLaws.{in_family}
use Rattle.sound_groups.proofs.heads.family_ok.Goals as goal

pub returns : goal.returns
returns c = let a = c.args in in_family a.words.now a.f a.g a.families _ c.requires.2 c.requires.1 c.if-families-f.false c.start_of-start.ensures.is c.contains.result c.contains.ensures.value
