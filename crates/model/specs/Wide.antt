-- Values of sixteen bytes (02, No. 13), by examples: words needed, HOLD, TAKE, CUT, roll and column at width 16; and two stores of different widths that
-- write the same roll, which proofs/Wide.antt shows. All computed. Assumes nothing.
use Rattle.std.specs.Prelude.{◌≡◌, refl, true, false, List, [], ◌∷◌, ◌++◌, ℕ, zero, suc, ◌+◌, ◌*◌}
use Rattle.model.specs.Numbers.{HOLD_BYTE, KILL_BYTE, LONG_VALUE_BYTES, NEW_BYTE, TAKE_BYTE, VALUE_BYTES}
use Rattle.model.specs.Model.{group_components, group_family, group_touched, ungroup, ungroup_family, ungroup_components, insert_components, remove, create, destroy}
use Rattle.model.specs.Store.{Store, told, empty_with, bytes_of, words_needed}
use Rattle.model.specs.Commands.{accepted}
use Rattle.model.specs.Refusals.{lines_of}
use Rattle.model.specs.Run.{run, run_for, step, does}
use Rattle.model.specs.Snapshot.{snapshot}
use Rattle.model.specs.Entries.{column_refusal, column}
use Rattle.model.specs.Examples.{ANSWER_ROOM, reg, after_tape}

-- ---- "1,024 + 16 × N + K × (8 + 6 × N) words", "1,024 + 16 × N + K × (8 + 8 × N) at width 16"

pub needed_8 : (n k : ℕ) → words_needed n k VALUE_BYTES ≡ 1024 + 16 * n + k * (8 + 6 * n)
unfolding words_needed
needed_8 n k = refl

pub needed_16 : (n k : ℕ) → words_needed n k LONG_VALUE_BYTES ≡ 1024 + 16 * n + k * (8 + 8 * n)
unfolding words_needed
needed_16 n k = refl

-- ---- a store of "N 64, K 8" at width 16, with one entity that holds kind 1

-- the value's bytes, lowest first
abbrev pub sixteen : List ℕ
sixteen = 1 ∷ 2 ∷ 3 ∷ 4 ∷ 5 ∷ 6 ∷ 7 ∷ 8 ∷ 9 ∷ 10 ∷ 11 ∷ 12 ∷ 13 ∷ 14 ∷ 15 ∷ 16 ∷ []

abbrev pub wide_hold : ℕ → List ℕ → List ℕ
wide_hold k bytes = HOLD_BYTE ∷ k ∷ bytes

unfoldable pub wide_store : Store
unfolding run run_for step does accepted lines_of empty_with insert_components group_touched group_family group_components create
wide_store = after_tape (reg 1 ++ wide_hold 1 sixteen ++ (NEW_BYTE ∷ [])) (empty_with (told 64 8 LONG_VALUE_BYTES false))

-- HOLD and TAKE: "1 byte held, value 8", which is 16 here
pub wide_take : (run (wide_hold 1 (bytes_of 16 0) ++ (TAKE_BYTE ∷ bytes_of 4 0 ++ bytes_of 4 1)) ANSWER_ROOM wide_store).bytes ≡ 0 ∷ 0 ∷ 1 ∷ sixteen
unfolding wide_store ungroup ungroup_family ungroup_components remove
wide_take = refl

-- a HOLD of nine operand bytes is CUT there, and so is one of sixteen
pub wide_cut : (run (wide_hold 1 (bytes_of 8 0)) ANSWER_ROOM wide_store).stop ≡ 5
unfolding wide_store
wide_cut = refl

pub wide_cut_one : (run (wide_hold 1 (bytes_of 15 0)) ANSWER_ROOM wide_store).stop ≡ 5
unfolding wide_store
wide_cut_one = refl

-- "kind 1, value 8", which is 16 here
pub wide_snapshot : snapshot wide_store ≡ (1 ∷ 0 ∷ 0 ∷ 0 ∷ []) ++ (0 ∷ 0 ∷ 0 ∷ 0 ∷ 1 ∷ 0 ∷ 0 ∷ 0 ∷ 1 ∷ 1 ∷ sixteen)
unfolding snapshot wide_store
wide_snapshot = refl

-- "value columns (four words)", lowest first
pub wide_column : column true 1 0 1 wide_store ≡ 67305985 ∷ 134678021 ∷ 202050057 ∷ 269422093 ∷ []
unfolding column column_refusal wide_store
wide_column = refl

-- ---- "A roll's bytes don't tell its width": two stores, reached by commands, of which one is of width 8 and one of width 16

-- REG of the kinds from k on, n of them
abbrev pub regs : ℕ → ℕ → List ℕ
regs zero k = []
regs (suc n) k = reg k ++ regs n (suc k)

-- HOLD of the kinds from k on, with these values of v bytes
abbrev pub holds : ℕ → ℕ → List ℕ → List ℕ
holds v k [] = []
holds v k (x ∷ xs) = (HOLD_BYTE ∷ k ∷ bytes_of v x) ++ holds v (suc k) xs

-- NEW n times, with an empty hand
abbrev pub bare_news : ℕ → List ℕ
bare_news zero = []
bare_news (suc n) = NEW_BYTE ∷ bare_news n

-- KILL of the n entities from index i on, at version 1
abbrev pub kills_from : ℕ → ℕ → List ℕ
kills_from zero i = []
kills_from (suc n) i = (KILL_BYTE ∷ bytes_of 4 i ++ bytes_of 4 1) ++ kills_from n (suc i)

-- entity 0 with one component, entity 1 with sixteen
unfoldable pub store_of_eight : Store
unfolding run run_for step does accepted lines_of empty_with insert_components group_touched group_family group_components create
store_of_eight =
    after_tape
    (regs 16 0 ++ holds 8 0 (0 ∷ []) ++ (NEW_BYTE ∷ [])
    ++ holds 8 0 (2251799813750784 ∷ 0 ∷ 281474976710656 ∷ 0 ∷ 2199023255552 ∷ 0 ∷ 12884901888 ∷ 0 ∷ 67108864 ∷ 0 ∷ 327680 ∷ 0 ∷ 1536 ∷ 0 ∷ 7 ∷ 0 ∷ [])
    ++ (NEW_BYTE ∷ []))
    (empty_with (told 64 16 VALUE_BYTES false))

-- entity 0 with one component, entity 16 with eight
unfoldable pub store_of_sixteen : Store
unfolding run run_for step does accepted lines_of empty_with insert_components group_touched group_family group_components create destroy remove ungroup
store_of_sixteen =
    after_tape
    (regs 8 0 ++ holds 16 0 (79228162532711081667253501952 ∷ []) ++ (NEW_BYTE ∷ []) ++ bare_news 15
    ++ holds 16 0 (9444732965739290427393 ∷ 4835703278458516698825472 ∷ 1856910058928070412349014016 ∷ 633825300114114700748469043200 ∷ 202824096036516704239511167565824 ∷ 62307562302417931542378050578546688 ∷ 18609191940988822220656958018622062592 ∷ 1080863910568919040 ∷ [])
    ++ (NEW_BYTE ∷ []) ++ kills_from 15 1)
    (empty_with (told 64 16 LONG_VALUE_BYTES false))

-- the same 175 bytes: live count, entity 0; from byte 30 on they are read as another entity
unfoldable pub snapshot_of_both : List ℕ
snapshot_of_both =
    (2 ∷ 0 ∷ 0 ∷ 0 ∷ 0 ∷ 0 ∷ 0 ∷ 0 ∷ 1 ∷ 0 ∷ 0 ∷ 0 ∷ 1 ∷ [])
    ++ (0 ∷ 0 ∷ 0 ∷ 0 ∷ 0 ∷ 0 ∷ 0 ∷ 0 ∷ 0 ∷ 1 ∷ 0 ∷ 0 ∷ 0 ∷ 1 ∷ 0 ∷ 0 ∷ 0 ∷ 16 ∷ [])
    ++ (0 ∷ 0 ∷ 0 ∷ 1 ∷ 0 ∷ 0 ∷ 0 ∷ 8 ∷ 0 ∷ 1 ∷ 0 ∷ 0 ∷ 0 ∷ 0 ∷ 0 ∷ 0 ∷ 0 ∷ 0 ∷ 2 ∷ 0 ∷ 0 ∷ 0 ∷ 0 ∷ 0 ∷ 0 ∷ 1 ∷ 0 ∷ 3 ∷ 0 ∷ 0 ∷ 0 ∷ 0 ∷ 0 ∷ 0 ∷ 0 ∷ 0 ∷ [])
    ++ (4 ∷ 0 ∷ 0 ∷ 0 ∷ 0 ∷ 0 ∷ 2 ∷ 0 ∷ 0 ∷ 5 ∷ 0 ∷ 0 ∷ 0 ∷ 0 ∷ 0 ∷ 0 ∷ 0 ∷ 0 ∷ 6 ∷ 0 ∷ 0 ∷ 0 ∷ 0 ∷ 3 ∷ 0 ∷ 0 ∷ 0 ∷ 7 ∷ 0 ∷ 0 ∷ 0 ∷ 0 ∷ 0 ∷ 0 ∷ 0 ∷ 0 ∷ [])
    ++ (8 ∷ 0 ∷ 0 ∷ 0 ∷ 4 ∷ 0 ∷ 0 ∷ 0 ∷ 0 ∷ 9 ∷ 0 ∷ 0 ∷ 0 ∷ 0 ∷ 0 ∷ 0 ∷ 0 ∷ 0 ∷ 10 ∷ 0 ∷ 0 ∷ 5 ∷ 0 ∷ 0 ∷ 0 ∷ 0 ∷ 0 ∷ 11 ∷ 0 ∷ 0 ∷ 0 ∷ 0 ∷ 0 ∷ 0 ∷ 0 ∷ 0 ∷ [])
    ++ (12 ∷ 0 ∷ 6 ∷ 0 ∷ 0 ∷ 0 ∷ 0 ∷ 0 ∷ 0 ∷ 13 ∷ 0 ∷ 0 ∷ 0 ∷ 0 ∷ 0 ∷ 0 ∷ 0 ∷ 0 ∷ 14 ∷ 7 ∷ 0 ∷ 0 ∷ 0 ∷ 0 ∷ 0 ∷ 0 ∷ 0 ∷ 15 ∷ 0 ∷ 0 ∷ 0 ∷ 0 ∷ 0 ∷ 0 ∷ 0 ∷ 0 ∷ [])
