use Rattle.std.proofs.Common.{◌∙◌, rules, tests}
use Rattle.std.proofs.lemmas.Iterator.{YieldsList-from_slice}
use Rattle.std.proofs.lemmas.Iterator.Search.{all_from_yields_List}
use Rattle.model.specs.Model.{mem}
use Rattle.model.proofs.Members.{all_is_all_of}
use Rattle.layout.proofs.group_layout.all_among.Goals as goal

pub returns : goal.returns
returns c = all_from_yields_List (λ k. mem k c.args.js.now) _ _ _ c.all.ensures.ran (YieldsList-from_slice c.args.ks.now cc) (λ x b q k. search (rules, tests)) ∙ all_is_all_of (λ k. mem k c.args.js.now) c.args.ks.now
