use mathlib.Core.Path.{sym}
use Rattle.group_info.proofs.Answers.{range_law}
use Rattle.group_info.proofs.group_range.Goals as goal

pub returns-in-Empty : goal.returns-in-Empty
returns-in-Empty c = range_law _ _ c.args.include c.args.exclude _ (rw c.in-Empty.is c.included_range.ensures)

pub returns-in-One : goal.returns-in-One
returns-in-One c = range_law _ _ c.args.include c.args.exclude _ (rw c.in-One.is (rw (sym c.group_info.ensures) c.excluded_range.ensures))

pub returns-in-Many : goal.returns-in-Many
returns-in-Many c = range_law _ _ c.args.include c.args.exclude _ (rw c.in-Many.is (rw (sym c.group_info-in-Many.ensures) c.excluded_range-in-Many.ensures))
