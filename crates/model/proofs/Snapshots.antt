-- Demand 3's statement of the snapshots: two sound stores write equal snapshots exactly if they hold the same, and so do any two runs. Assumes nothing.
use mathlib.Core.Path.{◌≡◌, refl, ap, sym, ◌∙◌}
use mathlib.Core.Logic.{◌↔◌}
use mathlib.Core.Bool.{Bool, true, false, cond}
use mathlib.Core.Option.{some, none}
use mathlib.Core.List.{List, [], ◌∷◌, ◌++◌}
use Prim.Native.Nat.{ℕ, zero, suc, ◌+◌, ◌≤◌}
use native.Mathlib.Omega.{arith}
use borrow.Author.Tests.{eq-eqb}
use lib.Dec.{eqb}
use lib.ListN.{get_or}
use Rattle.model.specs.Numbers.{MAX_ENTITIES}
use Rattle.model.specs.Lists.{one}
use Rattle.model.specs.Model.{Entity, SparseSet, same_entity, no_row, at, held, last_version}
use Rattle.model.specs.Store.{Settings, Store, empty_with, Bytes}
use Rattle.model.specs.Run.{run}
use Rattle.model.specs.Snapshot.{add_component, components_of, live_version, entry_of, entries, snapshot, SameWidth, Same}
use Rattle.model.specs.Sound.{Limits, StoreSound, cnt, num}
use Rattle.model.proofs.SparseSets.{entity_same}
use Rattle.model.proofs.BoolLaws.{zero_of, bool_cases}
use Rattle.model.proofs.Numbers.{EntitiesOk, live_few}
use Rattle.model.proofs.Values.{ColsOk}
use Rattle.model.proofs.Operations.{RowFits, no_row_law, sound_held}
use Rattle.model.proofs.Sound.{run_sound}
use Rattle.model.proofs.Settings.{run_settings}
use Rattle.model.proofs.Encoding.{FitComponents}
use Rattle.model.proofs.EntryBytes.{FitEntries}
use Rattle.model.proofs.Listing.{LiveOk, Listable, snapshot_iff}

-- ---- what the snapshot's law asks

num_zero : (i : ℕ) (l : List Entity) → num i l ≡ 0 → live_version i l ≡ 0
num_zero i [] z = refl
num_zero i (e ∷ es) z = bool_cases (eqb i e.index) (λ t. absurd (omega (arith, z, ap one t))) (λ t. rw t (num_zero i es (omega (arith, z))))

live_ok : (l : List Entity) → ((i : ℕ) → num i l ≤ 1) → ((x : Entity) → 1 ≤ cnt x l → 1 ≤ x.version) → LiveOk l
live_ok [] s p = tt
live_ok (e ∷ es) s p = (
  p e (omega (arith, ap one (entity_same e))),
  num_zero e.index es (omega (arith, s e.index, ap one (eq-eqb e.index e.index refl))),
  live_ok es (λ i. omega (arith, s i)) (λ x h. p x (omega (arith, h))),
)

version_in : (i v : ℕ) (l : List Entity) → live_version i l ≡ suc v → 1 ≤ cnt (record { index = i; version = suc v }) l
version_in i v [] e = absurd (omega (arith, e))
version_in i v (c ∷ cs) e =
    bool_cases (eqb i c.index)
    (λ t. let q : c.version ≡ suc v = rw t at e in omega (arith, same_entity_law t q))
    (λ t. omega (arith, version_in i v cs (rw t at e)))
  where
    same_entity_law : eqb i c.index ≡ true → c.version ≡ suc v → 1 ≤ one (same_entity (record { index = i; version = suc v }) c)
    same_entity_law t q = rw (t, eq-eqb (suc v) c.version (sym q)) (omega arith)

components_fit : (v : ℕ) (e : Entity) (k : ℕ) (sets : List SparseSet) → ColsOk (RowFits v) (no_row_law v) sets → FitComponents v (components_of e k sets)
components_fit v e k [] h = tt
components_fit v e k (c ∷ cs) h = go (held e c) (components_fit v e (suc k) cs (λ j. h (suc j)))
  where
    go : (b : Bool) → FitComponents v (components_of e (suc k) cs) → FitComponents v (add_component (cond b (some (get_or c (at e c) no_row).value) none) k (components_of e (suc k) cs))
    go true r = (h 0 (at e c), r)
    go false r = r

module _ (v : ℕ) (live : List Entity) (sets : List SparseSet) (h : ColsOk (RowFits v) (no_row_law v) sets) (versions : (x : Entity) → 1 ≤ cnt x live → x.version ≤ last_version) where
  entries_fit : (n i : ℕ) → i + n ≤ MAX_ENTITIES → FitEntries v (entries i n live sets)
  entries_fit zero i le = tt
  entries_fit (suc n) i le = go (live_version i live) refl (entries_fit n (suc i) (omega arith))
    where
      go : (m : ℕ) → live_version i live ≡ m → FitEntries v (entries (suc i) n live sets) → FitEntries v (entry_of m i sets ++ entries (suc i) n live sets)
      go zero e r = r
      go (suc m) e r = (
        record {
          index = omega arith;
          version = omega (arith, versions (record { index = i; version = suc m }) (version_in i m live e));
          components = components_fit v (record { index = i; version = suc m }) 0 sets h;
        },
        r,
      )

-- a sound store has what the law asks
pub listed : (s : Store) → StoreSound s → Listable s
listed s S =
    record {
      live = live_ok s.entities.live (λ i. omega (arith, N.single i)) (λ x h. N.positive x (omega (arith, h)));
      issued = λ k le. num_zero k s.entities.live (zero_of (λ h. omega (arith, N.below k (omega (arith, h)))));
      fit = entries_fit s.settings.value_bytes s.entities.live s.storage.sets S.sets.values (λ x h. N.small x (omega (arith, h))) s.entities.issued 0 (omega (arith, S.entities.few, S.limits.most));
      few = omega (arith, live_few s.entities N, S.entities.few, S.limits.most);
      columns = S.sets.wide;
    }
  where
    N : EntitiesOk s.entities
    N = (sound_held s S).numbers

-- any two sound stores of one width write equal snapshots exactly if the same entities are live with the same components and values. A snapshot does not
-- tell its width: 02, No. 13: "demand 3's rule of equal rolls .. is for two stores of one width, at either width"
pub snapshots_of_sound : (s t : Store) → SameWidth s t → StoreSound s → StoreSound t → (snapshot s ≡ snapshot t) ↔ Same s t
snapshots_of_sound s t w S T = snapshot_iff s t w (listed s S) (listed t T)

-- an empty store is of the width that a start was told
pub from_width : (c : Settings) → (empty_with c).settings.value_bytes ≡ c.value_bytes
unfolding empty_with
from_width c = refl

-- and so do the stores after any two tapes from empty stores of one width
pub snapshots_of_runs : (t u : List ℕ) (room room' : ℕ) (c c' : Settings) → Bytes t → Bytes u → c'.value_bytes ≡ c.value_bytes → Limits c.capacity c.kind_capacity c.value_bytes → Limits c'.capacity c'.kind_capacity c'.value_bytes
    → (snapshot (run t room (empty_with c)).store ≡ snapshot (run u room' (empty_with c')).store) ↔ Same (run t room (empty_with c)).store (run u room' (empty_with c')).store
snapshots_of_runs t u room room' c c' ht hu w l l' =
    let e : SameWidth (run t room (empty_with c)).store (run u room' (empty_with c')).store =
    ap (λ (x : Settings). x.value_bytes) (run_settings (empty_with c') u room' hu) ∙ from_width c' ∙ w ∙ sym (from_width c) ∙ sym (ap (λ (x : Settings). x.value_bytes) (run_settings (empty_with c) t room ht)) in
    snapshots_of_sound (run t room (empty_with c)).store (run u room' (empty_with c')).store e (run_sound t room c ht l) (run_sound u room' c' hu l')
