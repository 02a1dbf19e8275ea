-- The header's words, by name (docs/WORDS.md). Assumes nothing.
use Rattle.std.specs.Prelude.{Bool, List, ℕ, ◌+◌, ◌*◌, eqb, get_or, take, drop}
use Rattle.words.specs.Offsets.{CALLER, CAPACITY, DRAFT_FAMILIES, DRAFT_GROUPS, EXCLUDED_KINDS, EXCLUDED_LEN, GROUP_COUNTS, GROUP_FAMILIES, KIND_CAPACITY, LAYOUT_FAMILIES, LAYOUT_GROUPS, NEWER, REFUSALS, REGISTERED, RULE, STAGED_KINDS, STAGED_LEN, STAGED_VALUE_LEN, STAGED_VALUES, TABLE, VALUE_WIDTH}
use Rattle.words.specs.Shape.{shape_of}
use Rattle.values.specs.Values.{digits}

-- capacity N (entities) and K (kinds), and how many kinds are registered
abbrev pub capacity_of : List ℕ → ℕ
capacity_of w = get_or w CAPACITY 0

abbrev pub kind_capacity_of : List ℕ → ℕ
kind_capacity_of w = get_or w KIND_CAPACITY 0

abbrev pub registered_of : List ℕ → ℕ
registered_of w = get_or w REGISTERED 0

-- the lengths of the staged and the excluded list
abbrev pub staged_len : List ℕ → ℕ
staged_len w = get_or w STAGED_LEN 0

abbrev pub excluded_len : List ℕ → ℕ
excluded_len w = get_or w EXCLUDED_LEN 0

-- the families and groups of the draft and of the layout in force
abbrev pub draft_families : List ℕ → ℕ
draft_families w = get_or w DRAFT_FAMILIES 0

abbrev pub draft_groups : List ℕ → ℕ
draft_groups w = get_or w DRAFT_GROUPS 0

abbrev pub layout_families : List ℕ → ℕ
layout_families w = get_or w LAYOUT_FAMILIES 0

abbrev pub layout_groups : List ℕ → ℕ
layout_groups w = get_or w LAYOUT_GROUPS 0

-- the caller, and the refusal count of caller c
abbrev pub caller_of : List ℕ → ℕ
caller_of w = get_or w CALLER 0

abbrev pub refusals_at : List ℕ → ℕ → ℕ
refusals_at w c = get_or w (REFUSALS + c) 0

-- the rule's word, and whether it is the newer rule's
abbrev pub rule_of : List ℕ → ℕ
rule_of w = get_or w RULE 0

abbrev pub newer_of : List ℕ → Bool
newer_of w = eqb (rule_of w) NEWER

-- the bytes of a value
abbrev pub value_bytes_of : List ℕ → ℕ
value_bytes_of w = get_or w VALUE_WIDTH 0

-- the slot of kind k's column, 255 where the kind is not registered
abbrev pub slot_of : List ℕ → ℕ → ℕ
slot_of w k = get_or w (TABLE + k) 0

abbrev pub staged_kind_at : List ℕ → ℕ → ℕ
staged_kind_at w i = get_or w (STAGED_KINDS + i) 0

abbrev pub staged_value_at : List ℕ → ℕ → ℕ
staged_value_at w i = digits (take (shape_of w).stride (drop (STAGED_VALUES + STAGED_VALUE_LEN * i) w))

abbrev pub excluded_at : List ℕ → ℕ → ℕ
excluded_at w i = get_or w (EXCLUDED_KINDS + i) 0

-- the family and the count of group g of the layout in force
abbrev pub group_family_at : List ℕ → ℕ → ℕ
group_family_at w g = get_or w (GROUP_FAMILIES + g) 0

abbrev pub count_at : List ℕ → ℕ → ℕ
count_at w g = get_or w (GROUP_COUNTS + g) 0
