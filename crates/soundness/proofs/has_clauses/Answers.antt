use Rattle.words.specs.Decides.{Decides}
use Rattle.words.specs.Shape.{shape_of}
use Rattle.words.proofs.Decides.{yes_of, decides_on, decides_less, decides_both, decides_neither}
use Rattle.soundness.specs.Parts.{Ground, ListsOk, LayoutOk}
use Rattle.soundness.proofs.Whole.{counts_left}
use Rattle.soundness.proofs.has_clauses.Goals.{then-has_ground, else-has_ground, then-has_lists, else-has_lists}
use Rattle.soundness.proofs.has_clauses.Goals as goal

pub returns-then-has_layout : goal.returns-then-has_layout
returns-then-has_layout c =
    let w = c.args.words.now in
    let lists : Decides c.if-has_ground.value (Ground w × ListsOk w) =
    elim c.if-has_ground.branch [
      | then-has_ground t ↦ decides_both (Ground w) (ListsOk w) c.has_ground.result c.has_ground.ensures t.if-has_ground.true t.has_lists.result t.has_lists.ensures t.value-is
      | else-has_ground t ↦ decides_neither (Ground w) (ListsOk w) c.has_ground.result c.has_ground.ensures t.if-has_ground.false t.value-is
    ] in
    let layout : Decides c.if-has_lists.value ((Ground w × ListsOk w) × LayoutOk (shape_of w) w) =
    elim c.if-has_lists.branch [
      | then-has_lists t ↦ decides_both (Ground w × ListsOk w) (LayoutOk (shape_of w) w) c.if-has_ground.value lists t.if-has_lists.true t.has_layout.result t.has_layout.ensures t.value-is
      | else-has_lists t ↦ decides_neither (Ground w × ListsOk w) (LayoutOk (shape_of w) w) c.if-has_ground.value lists t.if-has_lists.false t.value-is
    ] in
    decides_on _ (counts_left w (yes_of c.if-has_lists.value layout c.if-has_layout.true)) c.has_counts.ensures

pub returns-else-has_layout : goal.returns-else-has_layout
returns-else-has_layout c =
    let w = c.args.words.now in
    let lists : Decides c.if-has_ground.value (Ground w × ListsOk w) =
    elim c.if-has_ground.branch [
      | then-has_ground t ↦ decides_both (Ground w) (ListsOk w) c.has_ground.result c.has_ground.ensures t.if-has_ground.true t.has_lists.result t.has_lists.ensures t.value-is
      | else-has_ground t ↦ decides_neither (Ground w) (ListsOk w) c.has_ground.result c.has_ground.ensures t.if-has_ground.false t.value-is
    ] in
    let layout : Decides c.if-has_lists.value ((Ground w × ListsOk w) × LayoutOk (shape_of w) w) =
    elim c.if-has_lists.branch [
      | then-has_lists t ↦ decides_both (Ground w × ListsOk w) (LayoutOk (shape_of w) w) c.if-has_ground.value lists t.if-has_lists.true t.has_layout.result t.has_layout.ensures t.value-is
      | else-has_lists t ↦ decides_neither (Ground w × ListsOk w) (LayoutOk (shape_of w) w) c.if-has_ground.value lists t.if-has_lists.false t.value-is
    ] in
    decides_less _ _ c.if-has_lists.value layout c.if-has_layout.false (λ k. ((k.ground, k.lists), k.layout))
