-- Soundness put together from its parts. Assumes nothing.
use mathlib.Core.List.{List}
use mathlib.Core.Logic.{◌↔◌}
use Prim.Native.Nat.{ℕ}
use Rattle.words.specs.Decides.{Each}
use Rattle.words.proofs.Links.{held_linked, linked_held}
use Rattle.entity.specs.Meaning.{EntityPartSized, EntityPartSound, len_of, issued_of, head_of, recycled_len, live_index_at, live_version_at, place_of, held_of, queue_index, queue_version, queue_slot}
use Rattle.entity.proofs.QueueLaws.{queue_filled, filled_queue}
use Rattle.sound_entities.specs.Checks.{CountsFit, LiveOk, WaitsOk, IndexesOk}

module _ (n : ℕ) (w : List ℕ) where
  pub counts_of_law : EntityPartSound n w → CountsFit n w
  counts_of_law s = record { issued = s.few; live = s.linked.room; head = s.queue.start; recycled = s.queue.few }

  pub live_of : EntityPartSound n w → Each (len_of w) (LiveOk n w)
  live_of s i h = record { tied = s.linked.tied i h; known = s.known i h }

  pub indexes_of : EntityPartSound n w → IndexesOk n w
  indexes_of s =
      record {
        live = linked_held n (len_of w) (live_index_at w) (live_version_at w) (place_of n w) (held_of n w) s.linked;
        waiting = queue_filled n (issued_of w) (head_of w) (recycled_len w) (queue_index n w) (queue_version n w) (queue_slot n w) (held_of n w) s.queue s.few;
      }

  pub sound_of : EntityPartSized n w → CountsFit n w → Each (len_of w) (LiveOk n w) → Each (recycled_len w) (WaitsOk n w) → IndexesOk n w → EntityPartSound n w
  sound_of z c l r x =
      record {
        sized = z;
        few = c.issued;
        linked = held_linked n (len_of w) (live_index_at w) (live_version_at w) (place_of n w) (held_of n w) (λ i h. (l i h).tied) c.live x.live;
        known = λ i h. (l i h).known;
        queue =
            filled_queue n (issued_of w) (head_of w) (recycled_len w) (queue_index n w) (queue_version n w) (queue_slot n w) (held_of n w) c.head c.recycled r c.issued x.waiting;
      }

  -- where all else is found, the last check decides
  pub last_of : EntityPartSized n w → CountsFit n w → Each (len_of w) (LiveOk n w) → Each (recycled_len w) (WaitsOk n w) → IndexesOk n w ↔ EntityPartSound n w
  last_of z c l r = (λ x. sound_of z c l r x, indexes_of)
