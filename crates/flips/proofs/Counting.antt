-- Counts of tried stores, added up. Assumes nothing.
use Rattle.std.proofs.Common.{ℕ, ◌+◌, ◌≤◌, Bool, true, false, List, refl, arith}
use mir.Val.{bool_byte}
use Rattle.words.specs.Decides.{Decides}
use Rattle.memory.specs.Arranged.{Sound}
use Rattle.flips.specs.declared.trial.Counts.{Counts}
use Rattle.flips.specs.Trial.{Keeps, Most, Tried, Summed}

-- no store yet
pub most_none : (m : ℕ) → Most (record { refused = 0; sound = 0; served = 0; stayed = 0 }) m
most_none m = record { refused = omega arith; sound = omega arith; served = omega arith; stayed = refl }

pub most_more : (m n : ℕ) (c : Counts) → Most c m → m ≤ n → Most c n
most_more m n c h le =
    record { refused = omega (arith, h.refused); sound = omega (arith, h.sound); served = omega (arith, h.served); stayed = h.stayed }

pub most_added : (m n : ℕ) (a b c : Counts) → Most a m → Most b n → Summed a b c → Most c (m + n)
most_added m n a b c h k e =
    record {
      refused = omega (arith, e.refused, h.refused, k.refused);
      sound = omega (arith, e.sound, h.sound, k.sound);
      served = omega (arith, e.served, h.served, k.served);
      stayed = omega (arith, e.stayed, e.sound, h.stayed, k.stayed);
    }

-- a store that is not sound
pub tried_refused : (w : List ℕ) → (Sound w → ⊥) → Tried w (record { refused = 1; sound = 0; served = 0; stayed = 0 })
tried_refused w d =
    record {
      most = record { refused = omega arith; sound = omega arith; served = omega arith; stayed = refl };
      one = refl;
      refused = λ e. d;
      sound = λ e. absurd (omega arith);
    }

-- a sound one, whose words are w' after the commands
pub tried_sound : (w w' : List ℕ) (served stayed : Bool) → Sound w → Keeps w w' → Decides stayed (Sound w')
    → Tried w (record { refused = 0; sound = 1; served = bool_byte served; stayed = bool_byte stayed })
tried_sound w w' served true S k d =
    record {
      most = record { refused = omega arith; sound = omega arith; served = few served; stayed = refl };
      one = refl;
      refused = λ e. absurd (omega arith);
      sound = λ e. S;
    }
  where
    few : (b : Bool) → bool_byte b ≤ 1
    few true = omega arith
    few false = omega arith
tried_sound w w' served false S k d = absurd (d (k S))
