-- A sound part's entities are numbered as the model has it: no index live or recycled twice, all of them issued, versions from 1 on.
-- Assumes nothing.
use mathlib.Core.Path.{◌≡◌, sym, ap, ◌∙◌}
use mathlib.Core.Logic.{◌≢◌}
use mathlib.Core.List.{List, [], ◌∷◌, map}
use Prim.Native.Nat.{ℕ, suc, ◌+◌, ◌*◌, ◌≤◌, ◌<◌}
use native.Mathlib.Omega.{arith}
use native.Mathlib.Decide.{dec_le}
use borrow.Author.Tests.{eqb-true}
use lib.Dec.{eqb}
use lib.ListN.{length, get_or, length-map, get_or-map}
use Rattle.model.specs.Lists.{one, place}
use Rattle.model.proofs.ListLaws.{count_place, get_d_place}
use Rattle.model.specs.Model.{Entity, no_entity, same_entity, last_version}
use Rattle.model.proofs.SparseSets.{entity_eq}
use Rattle.model.proofs.Groups.{plc}
use Rattle.model.proofs.BoolLaws.{bool_cases}
use Rattle.model.proofs.Numbers.{EntitiesOk}
use Rattle.model.specs.Sound.{cnt, num, index_of}
use Rattle.words.specs.Offsets.{LIVE_LIST}
use Rattle.words.proofs.Links.{apart}
use Rattle.entity.specs.Queue.{wrapped}
use Rattle.entity.specs.Meaning.{EntityPartSound, entities_of, len_of, issued_of, head_of, recycled_len, live_index_at, live_version_at, place_of, held_of, queue_index, queue_version, queue_slot}
use Rattle.entity.proofs.QueueLaws.{queue_apart}
use Rattle.entity.proofs.Lookups.{length_live, get_d_live, length_recycled, get_d_recycled, issued_is}

-- an index that the list counts is that of a place
num_found : (x : ℕ) (l : List Entity) → 1 ≤ num x l → (i : ℕ) × (i < length l) × ((get_or l i no_entity).index ≡ x)
num_found x l h =
    let ks = map index_of l in
    let p = count_place eqb x ks h in (
      place eqb x ks,
      omega (arith, length-map l index_of),
      sym (get_or-map index_of l (place eqb x ks) no_entity) ∙ get_d_place eqb eqb-true x 0 ks p,
    )

cnt_found : (e : Entity) (l : List Entity) → 1 ≤ cnt e l → (i : ℕ) × (i < length l) × (get_or l i no_entity ≡ e)
cnt_found e l h = let p = count_place same_entity e l h in (plc e l, p, get_d_place same_entity entity_eq e no_entity l p)

-- where no two places have one index, none is counted twice
num_once : (x : ℕ) (l : List Entity) → ((i j : ℕ) → i < length l → j < length l → i ≢ j → (get_or l i no_entity).index ≢ (get_or l j no_entity).index) → num x l ≤ 1
num_once x [] f = omega arith
num_once x (y ∷ l) f =
    let ih = num_once x l (λ i j hi hj ne. f (suc i) (suc j) (omega arith) (omega arith) (omega arith)) in
    bool_cases (eqb x y.index)
    (λ t.
    let none : 1 ≤ num x l → ⊥ =
    λ h. let q = num_found x l h in f 0 (suc q.0) (omega arith) (omega (arith, q.1)) (omega arith) (sym (eqb-true x y.index t) ∙ sym q.2) in
    let no : ¬ (1 ≤ num x l) = none in
    omega (arith, ap one t))
    (λ t. omega (arith, ap one t))

module _ (n : ℕ) (w : List ℕ) (s : EntityPartSound n w) where
  live_place : (x : ℕ) → 1 ≤ num x (entities_of n w).live → (i : ℕ) × (i < len_of w) × (live_index_at w i ≡ x)
  live_place x h =
      let q = num_found x (entities_of n w).live h in
      let b : q.0 < len_of w = omega (arith, q.1, length_live n w) in
      (q.0, b, sym (ap index_of (get_d_live n w q.0 b)) ∙ q.2)

  recycled_place : (x : ℕ) → 1 ≤ num x (entities_of n w).recycled → (j : ℕ) × (j < recycled_len w) × (queue_index n w (wrapped n (head_of w + j)) ≡ x)
  recycled_place x h =
      let q = num_found x (entities_of n w).recycled h in
      let b : q.0 < recycled_len w = omega (arith, q.1, length_recycled n w) in
      (q.0, b, sym (ap index_of (get_d_recycled n w q.0 b)) ∙ q.2)

  -- no index is live and recycled
  not_both : (x : ℕ) → 1 ≤ num x (entities_of n w).live → 1 ≤ num x (entities_of n w).recycled → ⊥
  not_both x h r =
      let i = live_place x h in
      let j = recycled_place x r in
      let t = s.linked.tied i.0 i.1 in
      let u = s.queue.waits j.0 j.1 in
      let a = ap (held_of n w) i.2 in
      let b = ap (held_of n w) j.2 in
      omega (arith, t.agreed, t.issued, u.free)

  live_once : (x : ℕ) → num x (entities_of n w).live ≤ 1
  live_once x =
      num_once x (entities_of n w).live
      (λ i j hi hj ne e.
      let bi : i < len_of w = omega (arith, length_live n w) in
      let bj : j < len_of w = omega (arith, length_live n w) in
      apart n (len_of w) (live_index_at w) (live_version_at w) (place_of n w) (held_of n w) s.linked i j bi bj ne
      (sym (ap index_of (get_d_live n w i bi)) ∙ e ∙ ap index_of (get_d_live n w j bj)))

  recycled_once : (x : ℕ) → num x (entities_of n w).recycled ≤ 1
  recycled_once x =
      num_once x (entities_of n w).recycled
      (λ i j hi hj ne e.
      let bi : i < recycled_len w = omega (arith, length_recycled n w) in
      let bj : j < recycled_len w = omega (arith, length_recycled n w) in
      queue_apart n (issued_of w) (head_of w) (recycled_len w) (queue_index n w) (queue_version n w) (queue_slot n w) (held_of n w) s.queue i j bi bj ne
      (sym (ap index_of (get_d_recycled n w i bi)) ∙ e ∙ ap index_of (get_d_recycled n w j bj)))

  -- a version of the live list or of the queue is that of a place
  versions : (P : ℕ → Type 0) → ((i : ℕ) → i < len_of w → P (live_version_at w i)) → ((j : ℕ) → j < recycled_len w → P (queue_version n w (wrapped n (head_of w + j))))
      → (x : Entity) → 1 ≤ cnt x (entities_of n w).live + cnt x (entities_of n w).recycled → P x.version
  versions P f g x h =
      elim (dec_le 1 (cnt x (entities_of n w).live)) [
        | yes l ↦
            let q = cnt_found x (entities_of n w).live l in
            let b : q.0 < len_of w = omega (arith, q.1, length_live n w) in
            rw (ap (λ (e : Entity). e.version) (sym (get_d_live n w q.0 b) ∙ q.2)) at (f q.0 b)
        | no l ↦
            let q = cnt_found x (entities_of n w).recycled (omega arith) in
            let b : q.0 < recycled_len w = omega (arith, q.1, length_recycled n w) in
            rw (ap (λ (e : Entity). e.version) (sym (get_d_recycled n w q.0 b) ∙ q.2)) at (g q.0 b)
      ]

  -- the words of a part are of 32 bits
  pub entities_ok : ((i : ℕ) → get_or w i 0 < 4294967296) → EntitiesOk (entities_of n w)
  entities_ok bits =
      record {
        few = omega arith;
        single =
            λ x.
            elim (dec_le 1 (num x (entities_of n w).live)) [
              | yes l ↦ let no : ¬ (1 ≤ num x (entities_of n w).recycled) = not_both x l in omega (arith, live_once x)
              | no l ↦ omega (arith, recycled_once x)
            ];
        below =
            λ x h.
            rw (issued_is n w)
            (elim (dec_le 1 (num x (entities_of n w).live)) [
              | yes l ↦ let q = live_place x l in omega (arith, q.2, s.known q.0 q.1)
              | no l ↦ let q = recycled_place x (omega arith) in omega (arith, q.2, (s.queue.waits q.0 q.1).below)
            ]);
        positive = versions (λ v. 1 ≤ v) (λ i hi. (s.linked.tied i hi).issued) (λ j hj. (s.queue.waits j hj).positive);
        small = versions (λ v. v ≤ last_version) (λ i hi. omega (arith, bits (LIVE_LIST + 2 * i + 1))) (λ j hj. omega (arith, bits (LIVE_LIST + 4 * n + 2 * wrapped n (head_of w + j) + 1)));
      }
