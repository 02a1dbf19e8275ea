-- What a change of the queue leaves of the live list, and a change of the live list of the queue. Assumes nothing.
use mathlib.Core.Path.{◌≡◌}
use mathlib.Core.List.{List}
use Prim.Native.Nat.{ℕ, ◌≤◌, ◌<◌}
use native.Mathlib.Omega.{arith}
use Rattle.model.proofs.BoolLaws.{zero_of}
use Rattle.model.specs.Model.{Entity, Entities, no_entity}
use Rattle.words.specs.Table.{table}
use Rattle.words.proofs.Tables.{table_same}
use Rattle.words.specs.Links.{Linked}
use Rattle.words.proofs.Links.{linked_same}
use Rattle.entity.specs.Queue.{Queue}
use Rattle.entity.specs.Meaning.{EntityPartSound, entity_at, waiting_at, len_of, issued_of, head_of, recycled_len, live_index_at, live_version_at, place_of, held_of, queue_index, queue_version, queue_slot}
use Rattle.entity.proofs.QueueLaws.{wrapped_below, listed_free, queue_same}

pub entity_path : {a b : Entity} → a.index ≡ b.index → a.version ≡ b.version → a ≡ b
entity_path x v = λ i. record { index = x i; version = v i }

pub entities_path : {s t : Entities} → s.live ≡ t.live → s.recycled ≡ t.recycled → s.issued ≡ t.issued → s ≡ t
entities_path l r n = λ i. record { live = l i; recycled = r i; issued = n i }

module _ (n : ℕ) (w w' : List ℕ) (s : EntityPartSound n w) where
  pub record KeptLive : Type 0 where
    pub linked : Linked n (len_of w') (live_index_at w') (live_version_at w') (place_of n w') (held_of n w')
    pub known : (i : ℕ) → i < len_of w' → live_index_at w' i < issued_of w'
    pub live : table (len_of w') (entity_at w') ≡ table (len_of w) (entity_at w)

  pub kept_live : len_of w' ≡ len_of w → issued_of w ≤ issued_of w'
      → ((i : ℕ) → i < n → live_index_at w' i ≡ live_index_at w i) → ((i : ℕ) → i < n → live_version_at w' i ≡ live_version_at w i)
      → ((x : ℕ) → x < n → place_of n w' x ≡ place_of n w x) → ((x : ℕ) → x < n → held_of n w' x ≡ held_of n w x)
      → KeptLive
  kept_live e le ei ev ep eh =
      let k = len_of w in
      let r = s.linked.room in
      let ei' : (i : ℕ) → i < k → live_index_at w' i ≡ live_index_at w i = λ i hi. ei i (omega arith) in
      let ev' : (i : ℕ) → i < k → live_version_at w' i ≡ live_version_at w i = λ i hi. ev i (omega arith) in
      record {
        linked =
            rw e
            (linked_same n k (live_index_at w) (live_version_at w) (place_of n w) (held_of n w) s.linked
            (live_index_at w') (live_version_at w') (place_of n w') (held_of n w') ei' ev' ep eh);
        known = λ i hi. let h : i < k = omega arith in omega (arith, ei' i h, s.known i h);
        live = rw e (table_same no_entity k (entity_at w) (entity_at w') (λ i hi. entity_path (ei' i hi) (ev' i hi)));
      }

  pub record KeptQueue : Type 0 where
    pub queue : Queue n (issued_of w') (head_of w') (recycled_len w') (queue_index n w') (queue_version n w') (queue_slot n w') (held_of n w')
    pub recycled : table (recycled_len w') (waiting_at n w') ≡ table (recycled_len w) (waiting_at n w)

  pub kept_queue : head_of w' ≡ head_of w → recycled_len w' ≡ recycled_len w → issued_of w ≤ issued_of w'
      → ((p : ℕ) → p < n → queue_index n w' p ≡ queue_index n w p) → ((p : ℕ) → p < n → queue_version n w' p ≡ queue_version n w p)
      → ((x : ℕ) → x < n → queue_slot n w' x ≡ queue_slot n w x) → ((x : ℕ) → x < n → 1 ≤ queue_slot n w x → held_of n w' x ≡ held_of n w x)
      → KeptQueue
  kept_queue eh ec le ei ev eb hh =
      let R = s.queue in
      record {
        queue =
            rw (eh, ec)
            (queue_same n (issued_of w) (head_of w) (recycled_len w) (queue_index n w) (queue_version n w) (queue_slot n w) (held_of n w) R
            (issued_of w') (queue_index n w') (queue_version n w') (queue_slot n w') (held_of n w') le s.few ei ev eb hh);
        recycled =
            rw ec
            (table_same no_entity (recycled_len w) (waiting_at n w) (waiting_at n w')
            (λ j hj.
            let b = wrapped_below n (head_of w) R.start j (omega (arith, R.few)) in
            rw eh (entity_path (ei _ b) (ev _ b))));
      }

-- a live index does not wait
pub live_unlisted : (n : ℕ) (w : List ℕ) → EntityPartSound n w → (x : ℕ) → x < n → 1 ≤ held_of n w x → queue_slot n w x ≡ 0
live_unlisted n w s x hx hh =
    let free : 1 ≤ queue_slot n w x → held_of n w x ≡ 0 =
    listed_free n (issued_of w) (head_of w) (recycled_len w) (queue_index n w) (queue_version n w) (queue_slot n w) (held_of n w) s.queue x hx in
    let no : 1 ≤ queue_slot n w x → ⊥ = λ b. omega (arith, free b) in
    zero_of no
