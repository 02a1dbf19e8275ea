-- How long the snapshot of a sound store is: four bytes, nine for each live entity, and for each row of a sparse set one and those of a value. Assumes
-- nothing.
use mathlib.Core.Path.{◌≡◌, refl, ap, sym, ◌∙◌}
use mathlib.Core.Logic.{◌≢◌}
use mathlib.Core.Bool.{Bool, true, false, cond}
use mathlib.Core.Option.{some, none}
use mathlib.Core.List.{List, [], ◌∷◌, ◌++◌, append-nil}
use Prim.Native.Nat.{ℕ, zero, suc, ◌+◌, ◌*◌, ◌≤◌, ◌<◌}
use native.Mathlib.Omega.{arith}
use borrow.Author.Tests.{eq-eqb, ne_eqb}
use lib.ListN.{length, get_or, length-append, length-map}
use Rattle.model.specs.Lists.{one}
use Rattle.model.proofs.ListLaws.{count_length}
use Rattle.model.specs.Model.{Entity, SparseSet, same_entity, entity_of, no_row, at, held, set_of}
use Rattle.model.specs.Store.{Store}
use Rattle.model.specs.Snapshot.{Entry, add_component, components_of, live_version, entry_of, entries, entry_bytes, flat, snapshot}
use Rattle.model.specs.Sound.{cnt, key, holders, StoreSound}
use Rattle.model.proofs.SparseSets.{entity_eq, entity_same}
use Rattle.model.proofs.BoolLaws.{bool_cases, by-eq}
use Rattle.model.proofs.Walk.{held_count, lacks_count}
use Rattle.model.proofs.Numbers.{cnt_num}
use Rattle.model.proofs.Invariant.{holders_count}
use Rattle.model.proofs.Listing.{LiveOk}
use Rattle.model.proofs.Snapshots.{listed}
use Rattle.snapshot.specs.Rising.{rows_in}
use Rattle.snapshot.proofs.Parts.{entry_length, flat_append, snapshot_length}

-- ---- sums over entities

abbrev sum : (Entity → ℕ) → List Entity → ℕ
sum f [] = 0
sum f (e ∷ es) = f e + sum f es

sum_add : (f g h : Entity → ℕ) (l : List Entity) → ((e : Entity) → f e ≡ g e + h e) → sum f l ≡ sum g l + sum h l
sum_add f g h [] q = refl
sum_add f g h (e ∷ es) q = omega (arith, q e, sum_add f g h es q)

sum_each : (n : ℕ) (f : Entity → ℕ) (l : List Entity) → sum (λ e. 9 + n * f e) l ≡ 9 * length l + n * sum f l
sum_each n f [] = omega arith
sum_each n f (e ∷ es) = omega (arith, sum_each n f es)

sum_zero : (l : List Entity) → sum (λ e. 0) l ≡ 0
sum_zero [] = refl
sum_zero (e ∷ es) = omega (arith, sum_zero es)

-- ---- the indexes of a snapshot are those of the live list

module _ (v : ℕ) (ss : List SparseSet) where
  abbrev weight : Entity → ℕ
  weight e = 9 + (1 + v) * length (components_of e 0 ss)

  abbrev size : ℕ → ℕ → List Entity → ℕ
  size i n l = length (flat v (entries i n l ss))

  size_turn : (m i : ℕ) (us : List Entry) → length (flat v (entry_of m i ss ++ us)) ≡ length (flat v (entry_of m i ss)) + length (flat v us)
  size_turn m i us = ap (λ (b : List ℕ). length b) (flat_append v (entry_of m i ss) us) ∙ length-append (flat v (entry_of m i ss)) (flat v us)

  one_size : (i m : ℕ) → 1 ≤ m → length (flat v (entry_of m i ss)) ≡ weight (record { index = i; version = m })
  one_size i zero h = absurd (omega arith)
  one_size i (suc m) h =
      let t : Entry = record { entity = record { index = i; version = suc m }; components = components_of (record { index = i; version = suc m }) 0 ss } in
      ap (λ (b : List ℕ). length b) (append-nil (entry_bytes v t)) ∙ entry_length v t

  module _ (e : Entity) (l : List Entity) where
    apart : (n i : ℕ) → e.index < i → size i n (e ∷ l) ≡ size i n l
    apart zero i h = refl
    apart (suc n) i h =
        rw (ne_eqb i e.index (omega arith))
        (size_turn (live_version i l) i (entries (suc i) n (e ∷ l) ss) ∙ ap (λ (m : ℕ). length (flat v (entry_of (live_version i l) i ss)) + m) (apart n (suc i) (omega arith)) ∙ sym (size_turn (live_version i l) i (entries (suc i) n l ss)))

    joins : (n i : ℕ) → i ≤ e.index → e.index < i + n → 1 ≤ e.version → live_version e.index l ≡ 0 → size i n (e ∷ l) ≡ weight e + size i n l
    joins zero i lo hi p z = absurd (omega arith)
    joins (suc n) i lo hi p z = by-eq i e.index here (λ q. further q (λ a b. joins n (suc i) a b p z))
      where
        here : i ≡ e.index → size i (suc n) (e ∷ l) ≡ weight e + size i (suc n) l
        here q =
            rw (eq-eqb i e.index q, q, z)
            (size_turn e.version e.index (entries (suc e.index) n (e ∷ l) ss) ∙ ap (λ (m : ℕ). m + size (suc e.index) n (e ∷ l)) (one_size e.index e.version p) ∙ ap (λ (m : ℕ). weight e + m) (apart n (suc e.index) (omega arith)))

        further : i ≢ e.index → (suc i ≤ e.index → e.index < suc i + n → size (suc i) n (e ∷ l) ≡ weight e + size (suc i) n l) → size i (suc n) (e ∷ l) ≡ weight e + size i (suc n) l
        further q f =
            let r = f (omega (arith, q)) (omega arith) in
            rw (ne_eqb i e.index q) (omega (arith, size_turn (live_version i l) i (entries (suc i) n (e ∷ l) ss), size_turn (live_version i l) i (entries (suc i) n l ss), r))

  live_size : (n : ℕ) (l : List Entity) → LiveOk l → ((k : ℕ) → n ≤ k → live_version k l ≡ 0) → size 0 n l ≡ sum weight l
  live_size n [] ok z = nothing n 0
    where
      nothing : (n i : ℕ) → size i n [] ≡ 0
      nothing zero i = refl
      nothing (suc n) i = nothing n (suc i)
  live_size n (e ∷ es) ok z =
      joins e es n 0 (omega arith) inside ok.0 ok.1 ∙ ap (λ (m : ℕ). weight e + m) (live_size n es ok.2 rest)
    where
      inside : e.index < 0 + n
      inside = let no : ¬ (n ≤ e.index) = λ h. omega (arith, ok.0, rw (eq-eqb e.index e.index refl) at (z e.index h)) in omega arith

      rest : (k : ℕ) → n ≤ k → live_version k es ≡ 0
      rest k h = by-eq k e.index (λ q. rw q ok.1) (λ q. rw (ne_eqb k e.index q) at (z k h))

-- ---- the components of all live entities are the rows of all sparse sets

module _ (l : List Entity) where
  components_sum : (ss : List SparseSet) (k : ℕ) → ((j : ℕ) → sum (λ e. one (held e (set_of ss j))) l ≡ length (set_of ss j)) → sum (λ e. length (components_of e k ss)) l ≡ rows_in ss
  components_sum [] k h = sum_zero l
  components_sum (c ∷ cs) k h =
      omega (arith, sum_add (λ e. length (components_of e k (c ∷ cs))) (λ e. one (held e c)) (λ e. length (components_of e (suc k) cs)) l each, h 0, components_sum cs (suc k) (λ j. h (suc j)))
    where
      each : (e : Entity) → length (components_of e k (c ∷ cs)) ≡ one (held e c) + length (components_of e (suc k) cs)
      each e = go (held e c)
        where
          go : (b : Bool) → length (add_component (cond b (some (get_or c (at e c) no_row).value) none) k (components_of e (suc k) cs)) ≡ one b + length (components_of e (suc k) cs)
          go true = omega arith
          go false = omega arith

  holders_sum : (ss : List SparseSet) (k : ℕ) → length (holders (k ∷ []) ss l) ≡ sum (λ e. one (held e (set_of ss k))) l
  holders_sum ss k = go l
    where
      go : (es : List Entity) → length (holders (k ∷ []) ss es) ≡ sum (λ e. one (held e (set_of ss k))) es
      go [] = refl
      go (e ∷ es) = bool_cases (held e (set_of ss k)) (λ t. rw t (omega (arith, go es))) (λ t. rw t (omega (arith, go es)))

module _ (s : Store) (S : StoreSound s) where
  -- the live entities that hold a kind are those of its sparse set
  holders_rows : (k : ℕ) → length (holders (k ∷ []) s.storage.sets s.entities.live) ≡ length (set_of s.storage.sets k)
  holders_rows k =
      count_length same_entity entity_eq entity_same (holders (k ∷ []) s.storage.sets s.entities.live) (key s.storage.sets k) each
      ∙ length-map (set_of s.storage.sets k) entity_of
    where
      each : (x : Entity) → cnt x (holders (k ∷ []) s.storage.sets s.entities.live) ≡ cnt x (key s.storage.sets k)
      each x =
          let c = holders_count (k ∷ []) s.storage.sets s.entities.live x in
          bool_cases (held x (set_of s.storage.sets k))
          (λ t.
          let m = held_count x s.storage.sets k t in
          let q : cnt x (holders (k ∷ []) s.storage.sets s.entities.live) ≡ cnt x s.entities.live = c ∙ rw t in
          omega (arith, q, m, S.sets.once x k, S.sets.alive x k m, cnt_num x s.entities.live, S.entities.single x.index))
          (λ t. c ∙ rw t (sym (lacks_count x s.storage.sets k t)))

  pub snapshot_size : length (snapshot s) ≡ 4 + 9 * length s.entities.live + (1 + s.settings.value_bytes) * rows_in s.storage.sets
  snapshot_size =
      let v = s.settings.value_bytes in
      let ss = s.storage.sets in
      let l = s.entities.live in
      let L = listed s S in
      omega (
        arith,
        snapshot_length s v refl,
        live_size v ss s.entities.issued l L.live L.issued,
        sum_each (1 + v) (λ e. length (components_of e 0 ss)) l,
        ap (λ (n : ℕ). (1 + v) * n) (components_sum l ss 0 (λ j. sym (holders_sum l ss j) ∙ holders_rows j)),
      )

-- ---- counting kind by kind
