-- "hand, bar, draft and layout of registered kinds, such as commands can build": what it is that a tape leaves them, and the tape that builds them.
-- Assumes nothing.
use Rattle.std.specs.Prelude.{◌≡◌, List, [], ◌∷◌, ◌++◌, map, ℕ, suc, ◌≤◌, replicate}
use Rattle.model.specs.Numbers.{LAST_KIND}
use Rattle.model.specs.Model.{Family, Component, zero_count}
use Rattle.model.specs.Store.{Counts, Settings, Store, Bytes, empty_with, with_control, with_storage, with_kinds, with_layout}
use Rattle.model.specs.Commands.{Command, REG, HOLD, GROUP, APPLY, BAR, SETCALLER}
use Rattle.model.specs.Run.{run}
use Rattle.model.specs.Sound.{KindsSound, StagedSound, ExcludedSound, CountsSound}
use Rattle.model.specs.Theorems.{DraftSound}
use Rattle.tapes.specs.Tapes.{tape_of, room_for}

-- ---- what is built

-- the registered kinds in their order, the layout in force, draft, hand, bar, and the caller with all tallies
pub record Build : Type 0 where
  pub kinds : List ℕ
  pub layout : List Family
  pub draft : List Family
  pub staged : List Component
  pub excluded : List ℕ
  pub counts : Counts

-- the empty store with these in it: no number is issued
abbrev pub built_store : Settings → Build → Store
built_store c b =
    let s = empty_with c in
    with_control (with_storage (with_kinds s b.kinds) (with_layout s.storage b.layout))
    (record { staged = b.staged; excluded = b.excluded; draft = b.draft; counts = b.counts })

-- the clauses of a sound store, for k kinds and values of v bytes. No entity is live, so that the groups of the layout in force count nothing, as those of a
-- draft.
pub record BuildSound (k v : ℕ) (b : Build) : Type 0 where
  pub kinds : KindsSound k b.kinds
  pub layout : DraftSound b.kinds b.layout
  pub draft : DraftSound b.kinds b.draft
  pub staged : StagedSound v b.kinds b.staged
  pub excluded : ExcludedSound b.kinds b.excluded
  pub counts : CountsSound b.counts

-- a store's own, but for the counts of its groups
abbrev pub build_of : Store → Build
build_of s =
    record {
      kinds = s.kinds;
      layout = map (map zero_count) s.storage.layout;
      draft = s.control.draft;
      staged = s.control.staged;
      excluded = s.control.excluded;
      counts = s.control.counts;
    }

-- ---- what a tape leaves

-- every run of it from the empty store that has the room, or more, goes to the tape's end and leaves s
pub record TapeLeaves (c : Settings) (tape : List ℕ) (room : ℕ) (s : Store) : Type 0 where
  pub bytes : Bytes tape
  pub stop : (r : ℕ) → room ≤ r → (run tape r (empty_with c)).stop ≡ 0
  pub store : (r : ℕ) → room ≤ r → (run tape r (empty_with c)).store ≡ s

-- some tape leaves s
pub record LeftBy (c : Settings) (s : Store) : Type 0 where
  pub tape : List ℕ
  pub room : ℕ
  pub leaves : TapeLeaves c tape room s

-- ---- the tape that builds

-- a command that is refused by KIND: "above 127"
abbrev pub refused_command : Command
refused_command = REG (suc LAST_KIND)

-- 02, No. 7: each caller in turn, from caller c on, and after it as many refused commands as are to be counted against it
abbrev pub caller_commands : ℕ → List ℕ → List Command
caller_commands c [] = []
caller_commands c (n ∷ ns) = SETCALLER c ∷ (replicate n refused_command ++ caller_commands (suc c) ns)

-- and then the caller that is to be set
abbrev pub count_commands : Counts → List Command
count_commands n = caller_commands 0 n.refusals ++ (SETCALLER n.caller ∷ [])

-- into the hand, in its order
abbrev pub hold_commands : List Component → List Command
hold_commands [] = []
hold_commands (p ∷ ps) = HOLD p.kind p.value ∷ hold_commands ps

-- a kind as it is held for a GROUP
abbrev pub valueless : ℕ → Component
valueless k = record { kind = k; value = 0 }

-- a family's groups, smallest first: for each a HOLD of all its kinds, then GROUP; acc are the kinds of the group before
abbrev pub group_commands : List ℕ → Family → List Command
group_commands acc [] = []
group_commands acc (r ∷ rs) = hold_commands (map valueless (acc ++ r.new_kinds)) ++ (GROUP ∷ group_commands (acc ++ r.new_kinds) rs)

-- and so each family
abbrev pub family_commands : List Family → List Command
family_commands [] = []
family_commands (f ∷ fs) = group_commands [] f ++ family_commands fs

-- the tallies and the caller, the kinds, the layout as a draft that is applied, the draft, the hand, the bar
abbrev pub build_commands : Build → List Command
build_commands b = count_commands b.counts ++ (map REG b.kinds ++ (family_commands b.layout ++ (APPLY ∷ (family_commands b.draft ++ (hold_commands b.staged ++ map BAR b.excluded)))))

-- for a store whose values are of v bytes
abbrev pub build_tape : ℕ → Build → List ℕ
build_tape v b = tape_of v (build_commands b)

-- the room that its answers take
abbrev pub build_room : Settings → Build → ℕ
build_room c b = room_for (build_commands b) (empty_with c)
