-- What the steps of a start leave. Assumes nothing.
use Rattle.std.specs.Prelude.{◌≡◌, List, ℕ, ◌+◌, ◌<◌, length, get_or, drop}
use Rattle.model.specs.Store.{Settings, empty_with}
use Rattle.words.specs.Offsets.{TABLE, UNREGISTERED}
use Rattle.words.specs.Shape.{column_start, shape}
use Rattle.memory.specs.Arranged.{Arranged}
use Rattle.memory.specs.Meaning.{meaning}

-- zeros up to end, and the words from there on as they were
pub record Cleared (w : List ℕ) (end : ℕ) (w' : List ℕ) : Type 0 where
  pub size : length w' ≡ length w
  pub zero : (i : ℕ) → i < end → get_or w' i 0 ≡ 0
  pub rest : drop end w' ≡ drop end w

-- the first n kinds of the table unregistered, and the other words as they were
pub record TableCleared (w : List ℕ) (n : ℕ) (w' : List ℕ) : Type 0 where
  pub size : length w' ≡ length w
  pub free : (k : ℕ) → k < n → get_or w' (TABLE + k) 0 ≡ UNREGISTERED
  pub low : (i : ℕ) → i < TABLE → get_or w' i 0 ≡ get_or w i 0
  pub rest : drop (TABLE + n) w' ≡ drop (TABLE + n) w

-- 01: "whatever the words held, makes an empty store"; the words past the needed ones are as they were
pub record Made (c : Settings) (w w' : List ℕ) : Type 0 where
  pub arranged : Arranged w'
  pub means : meaning w' ≡ empty_with c
  pub size : length w' ≡ length w
  pub past : drop (column_start (shape c.capacity c.value_bytes) c.kind_capacity) w' ≡ drop (column_start (shape c.capacity c.value_bytes) c.kind_capacity) w
