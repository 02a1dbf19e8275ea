-- A part of zeros holds no entity. Assumes nothing.
use mathlib.Core.Path.{◌≡◌, ◌∙◌}
use mathlib.Core.List.{List}
use Prim.Native.Nat.{ℕ, ◌+◌, ◌*◌, ◌<◌}
use native.Mathlib.Omega.{arith}
use lib.ListN.{length, get_or}
use Rattle.model.specs.Numbers.{ENTITY_LEN}
use Rattle.model.specs.Model.{no_entities}
use Rattle.words.specs.Offsets.{LIVE_LIST}
use Rattle.words.proofs.Tables.{table_none}
use Rattle.entity.specs.Meaning.{EntityPartSized, entities_of, len_of, issued_of, head_of, recycled_len, held_of, queue_slot}
use Rattle.entity.specs.Change.{EntitiesChanged}
use Rattle.entity.proofs.Kept.{entities_path}

-- the first i words are zeros
abbrev pub ZerosTo : List ℕ → ℕ → Type 0
ZerosTo w i = (k : ℕ) → k < i → get_or w k 0 ≡ 0

pub zeros_changed : (n : ℕ) (w₀ w : List ℕ) → EntityPartSized n w₀ → length w ≡ length w₀ → ZerosTo w (length w) → EntitiesChanged n (λ s. no_entities) w₀ w
unfolding entities_of
zeros_changed n w₀ w d l z =
    let size : length w ≡ ENTITY_LEN * n = l ∙ d.size in
    let some = d.some in
    let e₀ : len_of w ≡ 0 = z 0 (omega arith) in
    let e₁ : issued_of w ≡ 0 = z 1 (omega arith) in
    let e₂ : head_of w ≡ 0 = z 2 (omega arith) in
    let e₃ : recycled_len w ≡ 0 = z 3 (omega arith) in
    let held : (x : ℕ) → x < n → held_of n w x ≡ 0 = λ x h. z (LIVE_LIST + 2 * n + 2 * x + 1) (omega arith) in
    let slot : (x : ℕ) → x < n → queue_slot n w x ≡ 0 = λ x h. z (LIVE_LIST + 6 * n + x) (omega arith) in
    record {
      sound =
          record {
            sized = record { size = size; some = some; small = d.small };
            few = omega arith;
            linked =
                record {
                  room = omega arith;
                  tied = λ i h. absurd (omega arith);
                  inside = λ x h b. absurd (omega (arith, held x h));
                  back = λ x h b. absurd (omega (arith, held x h));
                };
            known = λ i h. absurd (omega arith);
            queue =
                record {
                  start = omega arith;
                  few = omega arith;
                  waits = λ j h. absurd (omega arith);
                  listed = λ x h b. absurd (omega (arith, slot x h));
                };
          };
      size = l;
      becomes = entities_path (table_none (len_of w) _ e₀) (table_none (recycled_len w) _ e₃) e₁;
    }
