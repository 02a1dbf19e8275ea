-- Two stores write equal snapshots exactly if the same entities are live with the same components. Assumes nothing.
use mathlib.Core.Path.{◌≡◌, refl, ap, ap₂, sym, ◌∙◌, subst}
use mathlib.Core.Logic.{◌↔◌}
use mathlib.Core.Bool.{Bool, true, false, cond, ◌&&◌, and-false}
use mathlib.Core.Option.{Option, some, none}
use mathlib.Core.List.{List, [], ◌∷◌, ◌++◌, head-eq_of_cons-eq, nil≢cons, cons≢nil}
use Prim.Native.Nat.{ℕ, zero, suc, ◌+◌, ◌^◌, ◌≤◌, ◌<◌}
use native.Mathlib.Omega.{arith}
use native.Mathlib.Nat.{add-zero, add-suc, suc-add, zero-add, add_comm}
use borrow.Author.Tests.{eqb-true, eq-eqb, ne_eqb, lt-ltb, ltb-true}
use native.Mathlib.Decide.{ℕ_discrete, dec_lt}
use lib.Dec.{eqb, ltb, eqb-suc-zero}
use lib.ListN.{length, get_or}
use Rattle.model.specs.Numbers.{MAX_KINDS}
use Rattle.model.specs.Lists.{count_of, one}
use Rattle.model.proofs.ListLaws.{count_length}
use Rattle.model.specs.Model.{same_entity, Entity, SparseSet, Component, set_of}
use Rattle.model.specs.Store.{Store, bytes_of}
use Rattle.model.specs.Snapshot.{Same, Entry, value_at, add_component, components_of, live_version, entry_of, entries, flat, listing, snapshot, SameWidth}
use Rattle.model.proofs.SparseSets.{entity_eq, entity_same}
use Rattle.model.proofs.Encoding.{bytes_of_inj}
use Rattle.model.proofs.EntryBytes.{FitEntries, flat_inj}

abbrev entity_at : ℕ → ℕ → Entity
entity_at i v = record { index = i; version = v }

-- ---- a list of entries, looked up by index

abbrev entry_in : ℕ → List Entry → List Entry
entry_in i [] = []
entry_in i (t ∷ ts) = cond (eqb i t.entity.index) (t ∷ []) (entry_in i ts)

below : (i j n : ℕ) (live : List Entity) (sets : List SparseSet) → i < j → entry_in i (entries j n live sets) ≡ []
below i j zero live sets h = refl
below i j (suc n) live sets h = go (live_version j live) (below i (suc j) n live sets (omega arith))
  where
    go : (v : ℕ) → entry_in i (entries (suc j) n live sets) ≡ [] → entry_in i (entry_of v j sets ++ entries (suc j) n live sets) ≡ []
    go zero r = r
    go (suc v) r = rw (ne_eqb i j (omega arith)) r

found_at : (m j n : ℕ) (live : List Entity) (sets : List SparseSet) → m < n → entry_in (j + m) (entries j n live sets) ≡ entry_of (live_version (j + m) live) (j + m) sets
found_at m j zero live sets h = absurd (omega arith)
found_at zero j (suc n) live sets h = rw add-zero (go (live_version j live))
  where
    go : (v : ℕ) → entry_in j (entry_of v j sets ++ entries (suc j) n live sets) ≡ entry_of v j sets
    go zero = below j (suc j) n live sets (omega arith)
    go (suc v) = rw (eq-eqb j j refl)
found_at (suc m) j (suc n) live sets h = rw (add-suc, ← suc-add) (go (live_version j live) (found_at m (suc j) n live sets (omega arith)))
  where
    go : (v : ℕ) → entry_in (suc j + m) (entries (suc j) n live sets) ≡ entry_of (live_version (suc j + m) live) (suc j + m) sets → entry_in (suc j + m) (entry_of v j sets ++ entries (suc j) n live sets) ≡ entry_of (live_version (suc j + m) live) (suc j + m) sets
    go zero r = r
    go (suc v) r = rw (ne_eqb (suc j + m) j (omega arith)) r

-- past the last live index nothing is listed
entries_more : (a b i : ℕ) (live : List Entity) (sets : List SparseSet) → ((k : ℕ) → i + a ≤ k → live_version k live ≡ 0) → entries i (a + b) live sets ≡ entries i a live sets
entries_more zero b i live sets z = rw zero-add (go b i (λ k h. z k (omega arith)))
  where
    go : (b i : ℕ) → ((k : ℕ) → i ≤ k → live_version k live ≡ 0) → entries i b live sets ≡ []
    go zero i z = refl
    go (suc b) i z = rw (z i (omega arith)) (go b (suc i) (λ k h. z k (omega arith)))
entries_more (suc a) b i live sets z =
    rw suc-add (ap (λ (r : List Entry). entry_of (live_version i live) i sets ++ r) (entries_more a b (suc i) live sets (λ k h. z k (omega arith))))

-- ---- an entity's components, looked up by kind

abbrev val_in : ℕ → List Component → Option ℕ
val_in k [] = none
val_in k (p ∷ ps) = cond (eqb k p.kind) (some p.value) (val_in k ps)

val_below : (e : Entity) (k j : ℕ) (sets : List SparseSet) → k < j → val_in k (components_of e j sets) ≡ none
val_below e k j [] h = refl
val_below e k j (c ∷ cs) h = go (value_at e c) (val_below e k (suc j) cs (omega arith))
  where
    go : (o : Option ℕ) → val_in k (components_of e (suc j) cs) ≡ none → val_in k (add_component o j (components_of e (suc j) cs)) ≡ none
    go none r = r
    go (some v) r = rw (ne_eqb k j (omega arith)) r

val_at : (e : Entity) (n j : ℕ) (sets : List SparseSet) → val_in (j + n) (components_of e j sets) ≡ value_at e (get_or sets n [])
val_at e n j [] = refl
val_at e zero j (c ∷ cs) = rw add-zero (go (value_at e c))
  where
    go : (o : Option ℕ) → val_in j (add_component o j (components_of e (suc j) cs)) ≡ o
    go none = val_below e j (suc j) cs (omega arith)
    go (some v) = rw (eq-eqb j j refl)
val_at e (suc n) j (c ∷ cs) = rw (add-suc, ← suc-add) (go (value_at e c) (val_at e n (suc j) cs))
  where
    go : (o : Option ℕ) → val_in (suc j + n) (components_of e (suc j) cs) ≡ value_at e (get_or cs n []) → val_in (suc j + n) (add_component o j (components_of e (suc j) cs)) ≡ value_at e (get_or cs n [])
    go none r = r
    go (some v) r = rw (ne_eqb (suc j + n) j (omega arith)) r

components_values : (e : Entity) (cs ds : List SparseSet) → components_of e 0 cs ≡ components_of e 0 ds → (k : ℕ) → value_at e (get_or cs k []) ≡ value_at e (get_or ds k [])
components_values e cs ds p k = sym (val_at e k 0 cs) ∙ ap (val_in (0 + k)) p ∙ val_at e k 0 ds

values_components : (e : Entity) (j : ℕ) (cs ds : List SparseSet) → length cs ≡ length ds → ((k : ℕ) → value_at e (get_or cs k []) ≡ value_at e (get_or ds k [])) → components_of e j cs ≡ components_of e j ds
values_components e j [] [] l h = refl
values_components e j [] (d ∷ ds) l h = absurd (omega arith)
values_components e j (c ∷ cs) [] l h = absurd (omega arith)
values_components e j (c ∷ cs) (d ∷ ds) l h =
    ap₂ (λ (o : Option ℕ) (ps : List Component). add_component o j ps) (h 0) (values_components e (suc j) cs ds (omega arith) (λ k. h (suc k)))

-- ---- the two together

entry_of_law : (v w i : ℕ) (cs ds : List SparseSet) → entry_of v i cs ≡ entry_of w i ds → (v ≡ w) × (1 ≤ v → components_of (entity_at i v) 0 cs ≡ components_of (entity_at i v) 0 ds)
entry_of_law zero zero i cs ds p = (refl, λ h. absurd (omega arith))
entry_of_law zero (suc w) i cs ds p = absurd (nil≢cons p)
entry_of_law (suc v) zero i cs ds p = absurd (cons≢nil p)
entry_of_law (suc v) (suc w) i cs ds p =
    let q = head-eq_of_cons-eq p in
    let e : suc v ≡ suc w = ap (λ (t : Entry). t.entity.version) q in
    (e, λ h. ap (λ (t : Entry). t.components) q ∙ rw e)

-- ---- the live list, looked up by index

-- versions of 1 or more, and no index twice
abbrev pub LiveOk : List Entity → Type 0
LiveOk [] = Unit {0}
LiveOk (e ∷ es) = (1 ≤ e.version) × (live_version e.index es ≡ 0) × LiveOk es

abbrev pub is_version : Entity → ℕ → ℕ
is_version x v = one (ltb 0 x.version && eqb x.version v)

pub version_zero : (x : Entity) → is_version x 0 ≡ 0
version_zero x = go x.version
  where
    go : (n : ℕ) → one (ltb 0 n && eqb n 0) ≡ 0
    go zero = refl
    go (suc n) = rw (eqb-suc-zero n, and-false (ltb 0 (suc n)))

version_of : (x : Entity) (v : ℕ) → 1 ≤ is_version x v → (x.version ≡ v) × (1 ≤ v)
version_of x v h = go (ltb 0 x.version) (eqb x.version v) refl refl h
  where
    go : (a b : Bool) → ltb 0 x.version ≡ a → eqb x.version v ≡ b → 1 ≤ one (a && b) → (x.version ≡ v) × (1 ≤ v)
    go true true d e h = (eqb-true x.version v e, omega (arith, eqb-true x.version v e, ltb-true 0 x.version d))
    go true false d e h = absurd (omega arith)
    go false b d e h = absurd (omega arith)

is_version_law : (i v : ℕ) → 1 ≤ v → 1 ≤ is_version (entity_at i v) v
is_version_law i v h = rw (lt-ltb 0 v h, eq-eqb v v refl) (omega arith)

pub live_count : (live : List Entity) → LiveOk live → (x : Entity) → count_of same_entity x live ≡ is_version x (live_version x.index live)
live_count [] ok x = sym (version_zero x)
live_count (e ∷ es) ok x = go (ℕ_discrete x.index e.index) (live_count es ok.2 x)
  where
    go : Dec (x.index ≡ e.index) → count_of same_entity x es ≡ is_version x (live_version x.index es) → count_of same_entity x (e ∷ es) ≡ is_version x (live_version x.index (e ∷ es))
    go (yes p) r =
        let z : live_version x.index es ≡ 0 = rw p ok.1 in
        let c : count_of same_entity x es ≡ 0 = r ∙ ap (is_version x) z ∙ version_zero x in
        rw (eq-eqb x.index e.index p, c, add-zero) (last (eqb x.version e.version) refl)
      where
        last : (b : Bool) → eqb x.version e.version ≡ b → one b ≡ one (ltb 0 x.version && b)
        last true q = let v : 0 < x.version = omega (arith, ok.0, eqb-true x.version e.version q) in rw (lt-ltb 0 x.version v)
        last false q = rw (and-false (ltb 0 x.version))
    go (no p) r = rw (ne_eqb x.index e.index p) (zero-add _ ∙ r)

-- at each index the same version is live, 0 for none; and that entity has the same value, or none, at each kind
record SameAt (s t : Store) : Type 0 where
  pub versions : (i : ℕ) → live_version i s.entities.live ≡ live_version i t.entities.live
  pub values : (i k : ℕ) → 1 ≤ live_version i s.entities.live → value_at (entity_at i (live_version i s.entities.live)) (set_of s.storage.sets k) ≡ value_at (entity_at i (live_version i s.entities.live)) (set_of t.storage.sets k)

-- what the law asks of a store; a sound one has it
pub record Listable (s : Store) : Type 0 where
  pub live : LiveOk s.entities.live
  pub issued : (k : ℕ) → s.entities.issued ≤ k → live_version k s.entities.live ≡ 0
  pub fit : FitEntries s.settings.value_bytes (listing s)
  pub few : length s.entities.live < 256 ^ 4
  pub columns : length s.storage.sets ≡ MAX_KINDS

module _ (s t : Store) (one_width : SameWidth s t) (ls : Listable s) (lt : Listable t) where
  bound : ℕ
  bound = s.entities.issued + t.entities.issued

  wide_s : entries 0 bound s.entities.live s.storage.sets ≡ listing s
  unfolding bound
  wide_s = entries_more s.entities.issued t.entities.issued 0 s.entities.live s.storage.sets (λ k h. ls.issued k (omega arith))

  wide_t : entries 0 bound t.entities.live t.storage.sets ≡ listing t
  unfolding bound
  wide_t = rw (add_comm s.entities.issued t.entities.issued) (entries_more t.entities.issued s.entities.issued 0 t.entities.live t.storage.sets (λ k h. lt.issued k (omega arith)))

  at_index : listing s ≡ listing t → (i : ℕ) → entry_of (live_version i s.entities.live) i s.storage.sets ≡ entry_of (live_version i t.entities.live) i t.storage.sets
  unfolding bound
  at_index e i = go (dec_lt i bound)
    where
      go : Dec (i < bound) → entry_of (live_version i s.entities.live) i s.storage.sets ≡ entry_of (live_version i t.entities.live) i t.storage.sets
      go (yes h) =
          let a = rw zero-add at (found_at i 0 bound s.entities.live s.storage.sets h) in
          let b = rw zero-add at (found_at i 0 bound t.entities.live t.storage.sets h) in
          sym a ∙ ap (entry_in i) (wide_s ∙ e ∙ sym wide_t) ∙ b
      go (no h) = rw (ls.issued i (omega arith), lt.issued i (omega arith))

  snapshot_same_at : snapshot s ≡ snapshot t → SameAt s t
  unfolding snapshot
  snapshot_same_at e =
      let v = s.settings.value_bytes in
      let f : FitEntries v (listing t) = subst (λ (n : ℕ). FitEntries n (listing t)) one_width lt.fit in
      let e' : bytes_of 4 (length s.entities.live) ++ flat v (listing s) ≡ bytes_of 4 (length t.entities.live) ++ flat v (listing t) =
      e ∙ ap (λ (n : ℕ). bytes_of 4 (length t.entities.live) ++ flat n (listing t)) one_width in
      let h = bytes_of_inj 4 (length s.entities.live) (length t.entities.live) (flat v (listing s)) (flat v (listing t)) ls.few lt.few e' in
      let l = flat_inj v (listing s) (listing t) ls.fit f h.1 in
      record {
        versions = λ i. (entry_of_law (live_version i s.entities.live) (live_version i t.entities.live) i s.storage.sets t.storage.sets (at_index l i)).0;
        values = λ i k a. components_values (entity_at i (live_version i s.entities.live)) s.storage.sets t.storage.sets ((entry_of_law (live_version i s.entities.live) (live_version i t.entities.live) i s.storage.sets t.storage.sets (at_index l i)).1 a) k;
      }

  same_of_at : SameAt s t → Same s t
  same_of_at h =
      record {
        live = λ x. live_count s.entities.live ls.live x ∙ ap (is_version x) (h.versions x.index) ∙ sym (live_count t.entities.live lt.live x);
        values = λ x a k.
            let v = version_of x (live_version x.index s.entities.live) (omega (arith, a, live_count s.entities.live ls.live x)) in
            subst (λ (y : Entity). value_at y (set_of s.storage.sets k) ≡ value_at y (set_of t.storage.sets k)) (λ i. record { index = x.index; version = sym v.0 i }) (h.values x.index k v.1);
      }

  pub snapshot_same : snapshot s ≡ snapshot t → Same s t
  snapshot_same e = same_of_at (snapshot_same_at e)

  -- ---- and back

  one_way : (a b : List Entity) → LiveOk a → LiveOk b → ((x : Entity) → count_of same_entity x a ≡ count_of same_entity x b) → (i : ℕ) → 1 ≤ live_version i a → live_version i a ≡ live_version i b
  one_way a b oka okb h i v =
      let x : Entity = entity_at i (live_version i a) in
      (version_of x (live_version i b) (omega (arith, is_version_law i (live_version i a) v, live_count a oka x, live_count b okb x, h x))).0

  both_ways : (a b : List Entity) → LiveOk a → LiveOk b → ((x : Entity) → count_of same_entity x a ≡ count_of same_entity x b) → (i : ℕ) → live_version i a ≡ live_version i b
  both_ways a b oka okb h i = go (live_version i a) refl (live_version i b) refl
    where
      go : (v : ℕ) → live_version i a ≡ v → (w : ℕ) → live_version i b ≡ w → v ≡ w
      go zero p zero q = refl
      go zero p (suc w) q = omega (arith, p, q, one_way b a okb oka (λ x. sym (h x)) i (omega arith))
      go (suc v) p w q = omega (arith, p, q, one_way a b oka okb h i (omega arith))

  entries_same : Same s t → (n i : ℕ) → entries i n s.entities.live s.storage.sets ≡ entries i n t.entities.live t.storage.sets
  entries_same h zero i = refl
  entries_same h (suc n) i =
      ap₂ (λ (a b : List Entry). a ++ b) (entry_same (live_version i s.entities.live) refl) (entries_same h n (suc i))
    where
      p : live_version i s.entities.live ≡ live_version i t.entities.live
      p = both_ways s.entities.live t.entities.live ls.live lt.live h.live i

      entry_same : (v : ℕ) → live_version i s.entities.live ≡ v → entry_of (live_version i s.entities.live) i s.storage.sets ≡ entry_of (live_version i t.entities.live) i t.storage.sets
      entry_same zero e = rw (← p, e)
      entry_same (suc v) e =
          let a : 1 ≤ count_of same_entity (entity_at i (suc v)) s.entities.live = rw (live_count s.entities.live ls.live (entity_at i (suc v)), e) (is_version_law i (suc v) (omega arith)) in
          rw (← p, e)
          (ap {B = List Entry} (λ ps. record { entity = entity_at i (suc v); components = ps } ∷ [])
          (values_components (entity_at i (suc v)) 0 s.storage.sets t.storage.sets (ls.columns ∙ sym lt.columns) (h.values (entity_at i (suc v)) a)))

  pub same_snapshot : Same s t → snapshot s ≡ snapshot t
  unfolding snapshot bound
  same_snapshot h =
      ap₂ (λ (n : ℕ) (ts : List Entry). bytes_of 4 n ++ flat s.settings.value_bytes ts) (count_length same_entity entity_eq entity_same s.entities.live t.entities.live h.live)
      (sym wide_s ∙ entries_same h bound 0 ∙ wide_t)
      ∙ ap (λ (n : ℕ). bytes_of 4 (length t.entities.live) ++ flat n (listing t)) (sym one_width)

  -- two stores of one width write equal snapshots exactly if the same entities are live and hold the same components with the same values
  pub snapshot_iff : (snapshot s ≡ snapshot t) ↔ Same s t
  snapshot_iff = (snapshot_same, same_snapshot)
