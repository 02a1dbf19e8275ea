-- The model's start by its tests, as the code makes them. Assumes nothing.
use mathlib.Core.Path.{◌≡◌, refl, subst}
use mathlib.Core.List.{List}
use Prim.Native.Nat.{ℕ, ◌≤◌, ◌<◌}
use native.Mathlib.Omega.{arith}
use borrow.Author.Tests.{lt-ltb, le-ltb}
use lib.ListN.{length, drop}
use Rattle.model.specs.Store.{Settings, empty_with, words_needed}
use Rattle.model.specs.Refusals.{outsize, start_lines}
use Rattle.model.specs.Entries.{refuses_start, makes, start_told, start_with}
use Rattle.model.specs.Sound.{Limits}
use Rattle.model.proofs.BoolLaws.{bool_cases}
use Rattle.model.proofs.Operations.{empty_sound}
use Rattle.model.proofs.Lines.{first_exact, first_number}
use Rattle.model.proofs.Entries.{start_exact, within_limits, limits_within}
use Rattle.words.proofs.Offsets.{column_start_needed}
use Rattle.memory.specs.Arranged.{Sound}
use Rattle.memory.specs.Fresh.{Made}
use Rattle.store.specs.Entries.{StartsWith}

module _ (c : Settings) where
  abbrev n : ℕ
  n = c.capacity

  abbrev k : ℕ
  k = c.kind_capacity

  abbrev v : ℕ
  v = c.value_bytes

  pub start_size : (words : ℕ) → (Limits n k v → ⊥) → start_with c words ≡ refuses_start 1
  unfolding start_with
  start_size words h = bool_cases (outsize n k v) (λ t. rw t) (λ t. absurd (h (within_limits n k v t)))

  pub start_short : (words : ℕ) → Limits n k v → words < words_needed n k v → start_with c words ≡ refuses_start 2
  unfolding start_with
  start_short words l h = rw (limits_within n k v l, lt-ltb words (words_needed n k v) h)

  pub start_empty : (words : ℕ) → Limits n k v → words_needed n k v ≤ words → start_with c words ≡ makes (empty_with c)
  unfolding start_with
  start_empty words l h = rw (limits_within n k v l, le-ltb words (words_needed n k v) h)

  -- its refusals are 1 and 2
  pub start_number_law : (words m : ℕ) → start_with c words ≡ refuses_start m → (1 ≤ m) × (m ≤ 2)
  start_number_law words m e = first_number start_lines (start_told c words) 1 2 m (omega arith) ((first_exact start_lines (start_told c words) m).1 ((start_exact c words m).0 e))

  -- ---- what the entry promises, from what its branches show

  pub refused_start : (m : ℕ) (w : List ℕ) → start_with c (length w) ≡ refuses_start m → StartsWith c w w m
  refused_start m w e =
      record {
        number = rw e;
        leaves = rw e refl;
        size = refl;
        past = refl;
      }

  pub made_start : (w w' : List ℕ) → Limits n k v → words_needed n k v ≤ length w → Made c w w' → StartsWith c w w' 0
  made_start w w' l h m =
      let e : start_with c (length w) ≡ makes (empty_with c) = start_empty (length w) l h in
      let sound : Sound w' = record { arranged = m.arranged; means = rw m.means (empty_sound c l) } in
      record {
        number = rw e;
        leaves = rw e (sound, m.means);
        size = m.size;
        past = subst (λ (e : ℕ). drop e w' ≡ drop e w) (column_start_needed n k v) m.past;
      }
