-- GROUP as one function, which the code of a layout follows; that it says what the table of refusals and the accepted GROUP say is proved (group_does). Working vocabulary. Assumes nothing.
use Rattle.std.specs.Prelude.{cond, List, ℕ, leb, ltb, length}
use Rattle.model.specs.Numbers.{CLASH, MANY, MAX_GROUP_ARITY, MAX_GROUP_COUNT, WIDE}
use Rattle.model.specs.Model.{Family, groups_of, adds_nothing, joins, with_group}

-- "1 added or 0 nothing added", or a refusal
pub data Added : Type 0 where
  nothing : Added
  added : List Family → Added
  refused : ℕ → Added

-- the rule whole, in the table's order: 13 WIDE, 14 CLASH, 15 MANY
unfoldable pub add_group : List ℕ → List Family → Added
add_group ks fs =
    let room = cond (leb MAX_GROUP_COUNT (groups_of fs)) (refused MANY) (added (with_group ks fs)) in
    let fits = cond (joins ks fs) room (refused CLASH) in
    let new = cond (adds_nothing ks fs) nothing fits in
    cond (ltb MAX_GROUP_ARITY (length ks)) (refused WIDE) new
