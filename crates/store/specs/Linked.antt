-- What *column* promises in the two forms that it has for C, to which no part of a slice can be handed: as a place and as a copy. Assumes nothing.
use Rattle.std.specs.Prelude.{◌≡◌, Bool, List, [], ◌∷◌, ◌++◌, map, ℕ, ◌*◌, ◌-◌, ◌≤◌, ltb, length, take, drop}
use Rattle.model.specs.Numbers.{NOROOM}
use Rattle.model.specs.Store.{Store}
use Rattle.model.specs.Refusals.{Line, line, NoneHolds, Part, column_lines}
use Rattle.model.specs.Entries.{item_words, column, Emitted, emitted}
use Rattle.words.specs.Decides.{Decides}
use Rattle.memory.specs.Meaning.{meaning}
use Rattle.memory.specs.Arranged.{Sound}
use Rattle.store.specs.declared.Reply.{Reply}
use Rattle.store.specs.Entries.{column_refused, column_words, part_place, EmitsOver}

-- ---- column as a place

-- r is where the part that column hands back stands among the words w: 0, the front, where it is refused
pub record ColumnPlaced (w : List ℕ) (values : Bool) (k a e r : ℕ) : Type 0 where
  pub sound : Bool
  pub decides : Decides sound (Sound w)
  pub place : r ≡ part_place (column_refused sound k a e (meaning w)) values w k a
  pub words : column_words sound values k a e (meaning w) ≡ take (length (column_words sound values k a e (meaning w))) (drop r w)

-- ---- column as a copy

-- what a copy is told: column's operands and store, entities or values, and how many words there is room for
pub record CopyTold : Type 0 where
  pub part : Part
  pub values : Bool
  pub room : ℕ

abbrev pub copy_told : Bool → ℕ → ℕ → ℕ → ℕ → Store → CopyTold
copy_told values k a e room s = record { part = record { kind = k; start = a; end = e; store = s }; values = values; room = room }

-- the words that column hands back
abbrev pub to_copy : CopyTold → List ℕ
to_copy c = column c.values c.part.kind c.part.start c.part.end c.part.store

-- a line of column
abbrev pub of_part : Line Part → Line CopyTold
of_part l = line l.number (λ c. l.holds c.part)

-- as for a roll: fewer free words than the part takes
abbrev pub room_line : Line CopyTold
room_line = line NOROOM (λ c. ltb c.room (length (to_copy c)))

-- 01's table has 6 before 7 and 16; the part of a refused column is empty, so that 6 never holds beside them (copy_order in proofs/Exported.antt)
abbrev pub copy_lines : List (Line CopyTold)
copy_lines = map of_part column_lines ++ (room_line ∷ [])

-- the words that column hands back, or a refusal
abbrev pub copied : CopyTold → Emitted
copied c = emitted copy_lines c (to_copy c)

-- the column of the words w, copied into the words o, which it leaves as o'
abbrev pub ColumnCopied : List ℕ → List ℕ → List ℕ → Bool → ℕ → ℕ → ℕ → Reply → Type 0
ColumnCopied w o o' values k a e r = EmitsOver w o o' r.number r.written (copied (copy_told values k a e (length o) (meaning w)))

-- what an accepted copy did: column accepts its operands, two words a row had room, they are column's words, and "the bytes past those written .. stay"
pub record CopyWrote (w o o' : List ℕ) (values : Bool) (k a e : ℕ) (r : Reply) : Type 0 where
  pub sound : Sound w
  pub accepted : NoneHolds column_lines (record { kind = k; start = a; end = e; store = meaning w })
  pub count : r.written ≡ item_words (meaning w).settings.value_bytes values * (e - a)
  pub room : r.written ≤ length o
  pub words : take r.written o' ≡ column values k a e (meaning w)
  pub past : drop r.written o' ≡ drop r.written o
