-- The whole store, and numbers in bytes. Assumes nothing.
use Rattle.std.specs.Prelude.{Bool, false, cond, List, [], ◌∷◌, map, ℕ, zero, suc, ◌+◌, ◌*◌, ◌/◌, ◌%◌, ◌<◌, ltb, get_or, replicate, set}
use Rattle.model.specs.Numbers.{CALLERS, ENTITY_LEN, HEADER_LEN, MAX_KINDS, MAX_REFUSALS, VALUE_BYTES, column_len}
use Rattle.model.specs.Model.{SparseSet, Family, Component, Storage, Entities, no_entities, mem, set_of, kind_of}

-- ---- bytes: "numbers in bytes are little-endian"

-- the n bytes of x, lowest first
abbrev pub bytes_of : ℕ → ℕ → List ℕ
bytes_of zero x = []
bytes_of (suc n) x = x % 256 ∷ bytes_of n (x / 256)

-- the number that the bytes are, lowest first
abbrev pub number : List ℕ → ℕ
number [] = 0
number (b ∷ bs) = b + 256 * number bs

-- the numbers of a list are bytes, as those of a tape
abbrev pub Bytes : List ℕ → Type 0
Bytes [] = Unit {0}
Bytes (b ∷ bs) = (b < 256) × Bytes bs

-- ---- the store

-- what is counted: "a tally of refused commands". 02, No. 7: "Command 10 .. sets the caller for what follows"; "Each caller has a tally of its own": the
-- refusals of callers 0 to 15, in this order
pub record Counts : Type 0 where
  pub caller : ℕ
  pub refusals : List ℕ

-- 02, No. 7: "a store from start .. has caller 0 and every tally 0"
abbrev pub no_counts : Counts
no_counts = record { caller = 0; refusals = replicate CALLERS 0 }

-- "It also holds a hand (up to 16 distinct kinds with values), a bar (up to 16 distinct kinds), a draft layout and a tally of refused commands"
pub record Control : Type 0 where
  pub staged : List Component
  pub excluded : List ℕ
  pub draft : List Family
  pub counts : Counts

-- "A store .. has capacity N (cards) and K (kinds)": what a start is told, and nothing changes. 02, No. 13: "A store is started with part width 8 or 16":
-- the bytes of a value. No. 8: "A store may be started under the newer rule, told by a bool and fixed for its life": true is the newer, false the older
pub record Settings : Type 0 where
  pub capacity : ℕ
  pub kind_capacity : ℕ
  pub value_bytes : ℕ
  pub newer : Bool

-- N, K, the bytes of a value and the rule, as a start is told them
abbrev pub told : ℕ → ℕ → ℕ → Bool → Settings
told n k v newer = record { capacity = n; kind_capacity = k; value_bytes = v; newer = newer }

-- 01's start is told N and K: "eight bytes"; "Stores under the older rule keep 01's reading"
abbrev pub older : ℕ → ℕ → Settings
older n k = told n k VALUE_BYTES false

-- kinds are those registered, in the order of their registration
pub record Store : Type 0 where
  pub settings : Settings
  pub kinds : List ℕ
  pub entities : Entities
  pub storage : Storage
  pub control : Control

-- "an empty store: N and K as told, no kind registered, no number issued, no groups, empty hand, bar and draft, tally 0"; the bytes of a value and the
-- rule as told
unfoldable pub empty_with : Settings → Store
empty_with c =
    record {
      settings = c;
      kinds = [];
      entities = no_entities;
      storage = record { sets = replicate MAX_KINDS []; layout = [] };
      control = record { staged = []; excluded = []; draft = []; counts = no_counts };
    }

-- of N entities and K kinds, by 01's start
abbrev pub empty : ℕ → ℕ → Store
empty n k = empty_with (older n k)

-- a store "needs 1,024 + 16 × N + K × (8 + 6 × N) words", "K × (8 + 8 × N) at width 16": v is the bytes of a value (needed_8, needed_16 in Wide)
unfoldable pub words_needed : ℕ → ℕ → ℕ → ℕ
words_needed n k v = HEADER_LEN + ENTITY_LEN * n + k * column_len n v

-- the hand's kinds, in its order
abbrev pub staged_kinds : Store → List ℕ
staged_kinds s = map kind_of s.control.staged

-- the kind is registered
abbrev pub is_kind : ℕ → Store → Bool
is_kind k s = mem k s.kinds

-- ---- the control with one field replaced

abbrev pub with_staged : Control → List Component → Control
with_staged d h = record { staged = h; excluded = d.excluded; draft = d.draft; counts = d.counts }

abbrev pub with_excluded : Control → List ℕ → Control
with_excluded d b = record { staged = d.staged; excluded = b; draft = d.draft; counts = d.counts }

abbrev pub with_draft : Control → List Family → Control
with_draft d f = record { staged = d.staged; excluded = d.excluded; draft = f; counts = d.counts }

abbrev pub with_counts : Control → Counts → Control
with_counts d c = record { staged = d.staged; excluded = d.excluded; draft = d.draft; counts = c }

abbrev pub empty_staged : Control → Control
empty_staged d = with_staged d []

abbrev pub empty_both : Control → Control
empty_both d = with_excluded (with_staged d []) []

-- ---- refusals by their caller

-- how many are counted against caller c
abbrev pub refusals_by : ℕ → Control → ℕ
refusals_by c d = get_or d.counts.refusals c 0

-- and against the caller that is set: "TALLY answers the current one"
abbrev pub own_refusals : Control → ℕ
own_refusals d = refusals_by d.counts.caller d

-- "a tally of refused commands that stays at 4,294,967,295": one more
abbrev pub one_more : ℕ → ℕ
one_more n = cond (ltb n MAX_REFUSALS) (suc n) n

-- a refusal more of the caller that is set: "no caller's refusals alter another's"
abbrev pub counted : Control → Control
counted d = with_counts d (record { caller = d.counts.caller; refusals = set d.counts.refusals d.counts.caller (one_more (own_refusals d)) })

-- "sets the caller for what follows"
abbrev pub with_caller : Control → ℕ → Control
with_caller d c = with_counts d (record { caller = c; refusals = d.counts.refusals })

-- ---- the store with one field replaced

abbrev pub with_kinds : Store → List ℕ → Store
with_kinds s ks = record { settings = s.settings; kinds = ks; entities = s.entities; storage = s.storage; control = s.control }

abbrev pub with_entities : Store → Entities → Store
with_entities s c = record { settings = s.settings; kinds = s.kinds; entities = c; storage = s.storage; control = s.control }

abbrev pub with_storage : Store → Storage → Store
with_storage s p = record { settings = s.settings; kinds = s.kinds; entities = s.entities; storage = p; control = s.control }

abbrev pub with_control : Store → Control → Store
with_control s d = record { settings = s.settings; kinds = s.kinds; entities = s.entities; storage = s.storage; control = d }

abbrev pub with_all : Store → Entities → Storage → Control → Store
with_all s c p d = with_control (with_storage (with_entities s c) p) d

-- the storage has become f of what it was
abbrev pub on_storage : (Storage → Storage) → Store → Store
on_storage f s = with_storage s (f s.storage)

-- ---- the storage with one part replaced

abbrev pub with_layout : Storage → List Family → Storage
with_layout p fs = record { sets = p.sets; layout = fs }

-- kind k's sparse set has become f of what it was
abbrev pub on_set : ℕ → (SparseSet → SparseSet) → Storage → Storage
on_set k f p = record { sets = set p.sets k (f (set_of p.sets k)); layout = p.layout }
