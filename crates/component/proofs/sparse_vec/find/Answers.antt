use Rattle.component.proofs.Places.{finds_beyond, finds_unissued}
use Rattle.component.proofs.sparse_vec.find.Goals.{then-z-e-via-then-z-e, then-z-e-via-else-z-e+then-e-eq0}
use Rattle.component.proofs.sparse_vec.find.Goals as goal

pub returns-then-z-e : goal.returns-then-z-e
returns-then-z-e c =
    let a = c.args in
    elim c.then-z-e.branch [
      | then-z-e-via-then-z-e w ↦ finds_beyond a.z a.part.now c.requires a.e.index a.e.version w.if-z-e.true
      | then-z-e-via-else-z-e+then-e-eq0 w ↦ finds_unissued a.z a.part.now c.requires a.e.index a.e.version w.if-e-eq0.true
    ]
