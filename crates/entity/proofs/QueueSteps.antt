-- The words after a number has joined the queue, after the longest waiting one has left it, and after the next index is issued.
-- Assumes nothing.
use mathlib.Core.Path.{◌≡◌, sym, ap, ◌∙◌}
use mathlib.Core.Logic.{◌≢◌}
use mathlib.Core.List.{List, [], ◌∷◌}
use Prim.Native.Nat.{ℕ, ◌+◌, ◌*◌, ◌-◌, ◌≤◌, ◌<◌}
use native.Mathlib.Omega.{arith}
use native.Mathlib.Numerals.{add-one}
use lib.ListN.{get_or, drop, length-drop}
use lib.Seq.{get_or-drop}
use Rattle.model.proofs.BoolLaws.{zero_of}
use Rattle.model.specs.Model.{no_entity, entity}
use Rattle.words.specs.Offsets.{ISSUED, LIVE_LIST, QUEUE_HEAD, RECYCLED_LEN}
use Rattle.words.specs.Table.{table}
use Rattle.words.proofs.Tables.{is_table, length_table, get_d_table, table_snoc}
use Rattle.words.specs.Stores.{stores}
use Rattle.words.proofs.Stores.{miss, hit, length_stores}
use Rattle.entity.specs.Queue.{wrapped, Waits}
use Rattle.entity.specs.Meaning.{EntityPartSound, entities_of, waiting_at, issued_of, head_of, recycled_len, place_of, held_of, queue_index, queue_version, queue_slot}
use Rattle.entity.specs.Change.{Idle, EntitiesChanged, queued, unqueued, numbered}
use Rattle.entity.proofs.QueueLaws.{wrapped_below, wrapped_start, wrapped_next, wrapped_apart, listed_below, queue_has_room, queue_pushed, queue_popped}
use Rattle.entity.proofs.Kept.{entity_path, entities_path, kept_live, kept_queue}

-- ---- a number joins the queue

abbrev pub push_stores : ℕ → ℕ → ℕ → List ℕ → List (ℕ × ℕ)
push_stores n x v w =
    (LIVE_LIST + 4 * n + 2 * wrapped n (head_of w + recycled_len w), x)
    ∷ (LIVE_LIST + 4 * n + 2 * wrapped n (head_of w + recycled_len w) + 1, v)
    ∷ (LIVE_LIST + 6 * n + x, wrapped n (head_of w + recycled_len w) + 1)
    ∷ (RECYCLED_LEN, recycled_len w + 1)
    ∷ []

module _ (n : ℕ) (w : List ℕ) (s : EntityPartSound n w) (x v : ℕ) (d : Idle n w x) (hv : 1 ≤ v) where
  pub queue_room : recycled_len w < n
  queue_room =
      queue_has_room n (issued_of w) (head_of w) (recycled_len w) (queue_index n w) (queue_version n w) (queue_slot n w) (held_of n w) s.queue
      x d.below s.few d.unlisted

  pub queued_changed : EntitiesChanged n (queued (entity x v)) w (stores w (push_stores n x v w))
  unfolding entities_of
  queued_changed =
      let ss = push_stores n x v w in
      let w' = stores w ss in
      let R = s.queue in
      let h = head_of w in
      let c = recycled_len w in
      let q = wrapped n (h + c) in
      let room : c < n = queue_room in
      let hq : q < n = wrapped_below n h R.start c (omega arith) in
      let hx : x < n = omega (arith, d.below, s.few) in
      let size = s.sized.size in
      let some = s.sized.some in
      let e₁ : issued_of w' ≡ issued_of w = miss w ss _ (omega arith) in
      let e₂ : head_of w' ≡ h = miss w ss _ (omega arith) in
      let e₃ : recycled_len w' ≡ c + 1 = hit w ss 3 _ _ (omega arith) (omega arith) in
      let iq : queue_index n w' q ≡ x = hit w ss 0 _ _ (omega arith) (omega arith) in
      let vq : queue_version n w' q ≡ v = hit w ss 1 _ _ (omega arith) (omega arith) in
      let io : (p : ℕ) → p < n → p ≢ q → queue_index n w' p ≡ queue_index n w p = λ p hp ne. miss w ss _ (omega arith) in
      let vo : (p : ℕ) → p < n → p ≢ q → queue_version n w' p ≡ queue_version n w p = λ p hp ne. miss w ss _ (omega arith) in
      let ho : (y : ℕ) → y < n → held_of n w' y ≡ held_of n w y = λ y hy. miss w ss _ (omega arith) in
      let kept =
      kept_live n w w' s (miss w ss _ (omega arith)) (omega arith)
      (λ i hi. miss w ss _ (omega arith))
      (λ i hi. miss w ss _ (omega arith))
      (λ y hy. miss w ss _ (omega arith))
      ho in
      record {
        sound =
            record {
              sized = record { size = length_stores w ss ∙ size; some = some; small = s.sized.small };
              few = rw e₁ s.few;
              linked = kept.linked;
              known = kept.known;
              queue =
                  rw (e₂, e₃)
                  (queue_pushed n (issued_of w) h c (queue_index n w) (queue_version n w) (queue_slot n w) (held_of n w) R
                  (issued_of w') (queue_index n w') (queue_version n w') (queue_slot n w') (held_of n w') (omega arith) s.few
                  x v d.below hv d.free d.unlisted iq io vq vo
                  (hit w ss 2 _ _ (omega arith) (omega arith))
                  (λ y hy ne. miss w ss _ (omega arith))
                  ho);
            };
        size = length_stores w ss;
        becomes =
            entities_path kept.live
            (rw e₃
            (table_snoc no_entity (entity x v) c (waiting_at n w) (waiting_at n w')
            (rw e₂ (entity_path iq vq))
            (λ j hj.
            let p = wrapped n (h + j) in
            let hp : p < n = wrapped_below n h R.start j (omega arith) in
            let ne : p ≢ q = wrapped_apart n h R.start j c (omega arith) room (omega arith) in
            rw e₂ (entity_path (io p hp ne) (vo p hp ne)))))
            e₁;
      }

-- ---- the longest waiting number leaves it

abbrev pub pop_stores : ℕ → List ℕ → List (ℕ × ℕ)
pop_stores n w =
    (QUEUE_HEAD, wrapped n (head_of w + 1))
    ∷ (RECYCLED_LEN, recycled_len w - 1)
    ∷ (LIVE_LIST + 6 * n + queue_index n w (head_of w), 0)
    ∷ []

module _ (n : ℕ) (w : List ℕ) (s : EntityPartSound n w) (hc : 1 ≤ recycled_len w) where
  abbrev h : ℕ
  h = head_of w

  abbrev c : ℕ
  c = recycled_len w

  -- it is the model's first
  pub front_first : entity (queue_index n w (head_of w)) (queue_version n w (head_of w)) ≡ get_or (entities_of n w).recycled 0 no_entity
  unfolding entities_of
  front_first =
      let e = wrapped_start n (head_of w) s.queue.start in
      sym (get_d_table (recycled_len w) (waiting_at n w) 0 no_entity hc
      ∙ entity_path (ap (queue_index n w) e) (ap (queue_version n w) e))

  front_waits : Waits (issued_of w) (queue_index n w) (queue_version n w) (queue_slot n w) (held_of n w) (head_of w)
  front_waits = rw (wrapped_start n (head_of w) s.queue.start) at (s.queue.waits 0 hc)

  pub front_below : queue_index n w (head_of w) < issued_of w
  front_below = front_waits.below

  pub front_positive : 1 ≤ queue_version n w (head_of w)
  front_positive = front_waits.positive

  pub unqueued_idle : Idle n (stores w (pop_stores n w)) (queue_index n w (head_of w))
  unqueued_idle =
      let ss = pop_stores n w in
      let t = front_waits in
      let few = s.few in
      let size = s.sized.size in
      let some = s.sized.some in
      let b = t.below in
      record {
        below = rw (miss w ss ISSUED (omega arith)) t.below;
        free = miss w ss _ (omega arith) ∙ t.free;
        unlisted = hit w ss 2 _ _ (omega arith) (omega arith);
      }

  pub unqueued_changed : EntitiesChanged n unqueued w (stores w (pop_stores n w))
  unfolding entities_of
  unqueued_changed =
      let ss = pop_stores n w in
      let w' = stores w ss in
      let R = s.queue in
      let x = queue_index n w h in
      let hx : x < n = omega (arith, front_below, s.few) in
      let few = R.few in
      let size = s.sized.size in
      let some = s.sized.some in
      let e₁ : issued_of w' ≡ issued_of w = miss w ss _ (omega arith) in
      let e₂ : head_of w' ≡ wrapped n (h + 1) = hit w ss 0 _ _ (omega arith) (omega arith) in
      let e₃ : recycled_len w' ≡ c - 1 = hit w ss 1 _ _ (omega arith) (omega arith) in
      let io : (p : ℕ) → p < n → queue_index n w' p ≡ queue_index n w p = λ p hp. miss w ss _ (omega arith) in
      let vo : (p : ℕ) → p < n → queue_version n w' p ≡ queue_version n w p = λ p hp. miss w ss _ (omega arith) in
      let ho : (y : ℕ) → y < n → held_of n w' y ≡ held_of n w y = λ y hy. miss w ss _ (omega arith) in
      let kept =
      kept_live n w w' s (miss w ss _ (omega arith)) (omega arith)
      (λ i hi. miss w ss _ (omega arith))
      (λ i hi. miss w ss _ (omega arith))
      (λ y hy. miss w ss _ (omega arith))
      ho in
      let moved : (j : ℕ) → j < c - 1 → waiting_at n w' j ≡ waiting_at n w (1 + j) =
      λ j hj.
      let e : wrapped n (head_of w' + j) ≡ wrapped n (h + (1 + j)) =
      ap (λ (k : ℕ). wrapped n (k + j)) e₂ ∙ wrapped_next n h R.start j (omega arith) ∙ ap (λ (k : ℕ). wrapped n (h + k)) (omega arith) in
      let b : wrapped n (h + (1 + j)) < n = wrapped_below n h R.start (1 + j) (omega arith) in
      entity_path (ap (queue_index n w') e ∙ io _ b) (ap (queue_version n w') e ∙ vo _ b) in
      let rs = table c (waiting_at n w) in
      record {
        sound =
            record {
              sized = record { size = length_stores w ss ∙ size; some = some; small = s.sized.small };
              few = rw e₁ s.few;
              linked = kept.linked;
              known = kept.known;
              queue =
                  rw (e₂, e₃)
                  (queue_popped n (issued_of w) h c (queue_index n w) (queue_version n w) (queue_slot n w) (held_of n w) R
                  (issued_of w') (queue_index n w') (queue_version n w') (queue_slot n w') (held_of n w') (omega arith) s.few hc io vo
                  (hit w ss 2 _ _ (omega arith) (omega arith))
                  (λ y hy ne. miss w ss _ (omega arith))
                  ho);
            };
        size = length_stores w ss;
        becomes =
            entities_path kept.live
            (rw e₃
            (is_table no_entity (c - 1) (waiting_at n w') (drop 1 rs)
            (length-drop 1 rs ∙ ap (λ (m : ℕ). m - 1) (length_table c (waiting_at n w)))
            (λ j hj. moved j hj ∙ sym (get_d_table c (waiting_at n w) (1 + j) no_entity (omega arith)) ∙ sym (get_or-drop 1 rs j no_entity))))
            e₁;
      }

-- ---- the next index is issued

abbrev pub number_stores : List ℕ → List (ℕ × ℕ)
number_stores w = (ISSUED, issued_of w + 1) ∷ []

module _ (n : ℕ) (w : List ℕ) (s : EntityPartSound n w) (hn : issued_of w < n) where
  pub numbered_idle : Idle n (stores w (number_stores w)) (issued_of w)
  numbered_idle =
      let ss = number_stores w in
      let x = issued_of w in
      let L = s.linked in
      let size = s.sized.size in
      let some = s.sized.some in
      record {
        below = rw (hit w ss 0 ISSUED (x + 1) (omega arith) (omega arith)) (omega arith);
        free =
            miss w ss _ (omega arith)
            ∙ zero_of (λ hh. let b = L.back x hn hh in omega (arith, s.known (place_of n w x) (L.inside x hn hh)));
        unlisted =
            miss w ss _ (omega arith)
            ∙ zero_of (λ hb. omega (arith, listed_below n x (head_of w) (recycled_len w) (queue_index n w) (queue_version n w) (queue_slot n w) (held_of n w) s.queue x hn hb));
      }

  pub numbered_changed : EntitiesChanged n numbered w (stores w (number_stores w))
  unfolding entities_of
  numbered_changed =
      let ss = number_stores w in
      let w' = stores w ss in
      let size = s.sized.size in
      let some = s.sized.some in
      let e₁ : issued_of w' ≡ issued_of w + 1 = hit w ss 0 _ _ (omega arith) (omega arith) in
      let live =
      kept_live n w w' s (miss w ss _ (omega arith)) (omega arith)
      (λ i hi. miss w ss _ (omega arith))
      (λ i hi. miss w ss _ (omega arith))
      (λ y hy. miss w ss _ (omega arith))
      (λ y hy. miss w ss _ (omega arith)) in
      let kept =
      kept_queue n w w' s (miss w ss _ (omega arith)) (miss w ss _ (omega arith)) (omega arith)
      (λ p hp. miss w ss _ (omega arith))
      (λ p hp. miss w ss _ (omega arith))
      (λ y hy. miss w ss _ (omega arith))
      (λ y hy b. miss w ss _ (omega arith)) in
      record {
        sound =
            record {
              sized = record { size = length_stores w ss ∙ size; some = some; small = s.sized.small };
              few = omega arith;
              linked = live.linked;
              known = live.known;
              queue = kept.queue;
            };
        size = length_stores w ss;
        becomes = entities_path live.live kept.recycled (e₁ ∙ add-one (issued_of w));
      }
