-- The loops of the walks over positions: what a turn leaves to be walked is what was left before it. Assumes nothing.
use mathlib.Core.Path.{◌≡◌, refl, ap, sym, ◌∙◌, subst}
use mathlib.Core.Bool.{true}
use mathlib.Core.List.{List, [], ◌∷◌, reverse, reverse-append}
use Prim.Native.Nat.{ℕ, ◌+◌, ◌-◌, ◌≤◌, ◌<◌}
use native.Mathlib.Omega.{arith}
use native.Mathlib.Decide.{dec_lt}
use borrow.Author.Tests.{lt-leb}
use lib.Dec.{leb}
use lib.ListN.{length}
use Rattle.model.specs.Model.{Entity, Storage, groups_of}
use Rattle.model.specs.Store.{on_storage, Store}
use Rattle.masks.specs.Masks.{bits_of, has, keep, skipping}
use Rattle.masks.specs.Walk.{LowStep, HighStep}
use Rattle.masks.proofs.Lists.{has_here, has_later, has_common, has_reverse, length_keep, and_parts}
use Rattle.masks.proofs.Bits.{bits_below}
use Rattle.masks.proofs.Rising.{From, Ascending, from_cons, ascending_bits, keep_from, skip_rest}
use Rattle.memory.specs.Meaning.{meaning}
use Rattle.memory.specs.Arranged.{Arranged, Becomes}
use Rattle.memory.proofs.Becomes.{stays}
use Rattle.group.specs.declared.group_status.GroupStatus.{GroupStatus}
use Rattle.group.specs.declared.group_status.GroupStatus.TheVariants.{Incomplete, Ungrouped, Grouped}
use Rattle.group.specs.Flat.{located, status_at, group_at, ungroup_at, step_up, step_down, walk_up, walk_down}
use Rattle.group.specs.Ready.{ReadyIn, ReadyOut, ReadyUp, ReadyDown}
use Rattle.group.specs.Steps.{Below, left_after, StepsUp}
use Rattle.group.proofs.Counts.{groups_set}
use Rattle.group.proofs.Upward.{Stepwise, up_from_law, walk_steps}
use Rattle.group.proofs.UpReady.{ready_steps}
use Rattle.group.proofs.Storing.{SoFar, so_far_next, so_far_is}

-- ---- the invariant of the three loops: of the positions ps₀, those of ps are left

pub record Walking (walk : List ℕ → Storage → Storage) (Ready : List ℕ → Storage → Type 0) (w₀ ps₀ w ps : List ℕ) : Type 0 where
  pub so_far : SoFar w₀ w
  pub still : walk ps (meaning w).storage ≡ walk ps₀ (meaning w₀).storage
  pub ready : Ready ps (meaning w).storage
  pub below : Below ps (meaning w).storage

-- a turn changes the storage by f, and leaves ps' of ps
record Turn (walk : List ℕ → Storage → Storage) (Ready : List ℕ → Storage → Type 0) (s : Storage) (ps : List ℕ) (f : Storage → Storage) (ps' : List ℕ) : Type 0 where
  pub walks : walk ps' (f s) ≡ walk ps s
  pub ready : Ready ps s → Ready ps' (f s)
  pub fewer : (i : ℕ) → has i ps' ≡ true → has i ps ≡ true
  pub groups : groups_of (f s).layout ≡ groups_of s.layout

module _ {walk : List ℕ → Storage → Storage} {Ready : List ℕ → Storage → Type 0} where
  pub walking_start : {w₀ ps₀ : List ℕ} → Arranged w₀ → Below ps₀ (meaning w₀).storage → Ready ps₀ (meaning w₀).storage → Walking walk Ready w₀ ps₀ w₀ ps₀
  walking_start A b r = record { so_far = stays A; still = refl; ready = r; below = b }

  walking_next : {w₀ ps₀ w ps w' ps' : List ℕ} {f : Storage → Storage} → Walking walk Ready w₀ ps₀ w ps → Turn walk Ready (meaning w).storage ps f ps' → Becomes w w' (on_storage f (meaning w)) → Walking walk Ready w₀ ps₀ w' ps'
  walking_next {w₀ = w₀} {w = w} {w' = w'} {ps' = ps'} {f = f} W T B =
      let now : (meaning w').storage ≡ f (meaning w).storage = ap (λ (m : Store). m.storage) B.means in
      record {
        so_far = so_far_next W.so_far f B;
        still = ap (walk ps') now ∙ T.walks ∙ W.still;
        ready = subst (Ready ps') (sym now) (T.ready W.ready);
        below = λ i h. omega (arith, W.below i (T.fewer i h), ap (λ (s : Storage). groups_of s.layout) now, T.groups);
      }

  walking_end : {w₀ ps₀ w ps : List ℕ} → Walking walk Ready w₀ ps₀ w ps → ps ≡ [] → ((s : Storage) → walk [] s ≡ s) → Becomes w₀ w (on_storage (walk ps₀) (meaning w₀))
  walking_end {w₀ = w₀} {w = w} W q none =
      so_far_is W.so_far _ (sym (none (meaning w).storage) ∙ ap (λ (ps : List ℕ). walk ps (meaning w).storage) (sym q) ∙ W.still)

-- ---- a turn upward

module _ {ℓ} {X : Type ℓ} {e : Entity} {step : GroupStatus → ℕ → Storage → X → X} {walk : ℕ → List ℕ → Storage → X} (W : Stepwise X e step walk) where
  -- skipping is leaving out
  up_keep : (t : ℕ) (ps : List ℕ) (s : Storage) → Ascending ps → walk t ps s ≡ walk 0 (keep (leb t) ps) s
  unfolding keep
  up_keep t [] s a = W.none t s
  up_keep t (g ∷ ps) s a = go (dec_lt g t) (up_keep t ps s a.1)
    where
      go : Dec (g < t) → walk t ps s ≡ walk 0 (keep (leb t) ps) s → walk t (g ∷ ps) s ≡ walk 0 (keep (leb t) (g ∷ ps)) s
      go (yes h) r = W.pass t g ps s h ∙ r ∙ rw (lt-leb t g h)
      go (no h) r =
          let f : From t (g ∷ ps) = from_cons t g ps (omega arith) a.0 in
          up_from_law W t (g ∷ ps) s f ∙ ap (λ (l : List ℕ). walk 0 l s) (sym (keep_from t (g ∷ ps) f))

  -- where a new kind is missing, the rest of the family goes out of the mask
  up_on : (s : Storage) (g : ℕ) (ps : List ℕ) → Ascending (g ∷ ps) → ((i : ℕ) → has i ps ≡ true → i < 64) → (t : GroupStatus) → status_at e g s ≡ t
      → walk 0 (g ∷ ps) s ≡ step t g s (walk 0 (left_after t g (located s.layout g).top ps) (step_up t e g s))
  up_on s g ps a low Incomplete q =
      let top : ℕ = (located s.layout g).top in
      W.on 0 g ps s (omega arith) Incomplete q
      ∙ ap (step Incomplete g s) (up_keep top ps s a.1 ∙ ap (λ (l : List ℕ). walk 0 l s) (sym (skip_rest 64 g top ps a.0 low)))
  up_on s g ps a low Ungrouped q = W.on 0 g ps s (omega arith) Ungrouped q
  up_on s g ps a low (Grouped place) q = W.on 0 g ps s (omega arith) (Grouped place) q

up_groups : (t : GroupStatus) (e : Entity) (g : ℕ) (s : Storage) → groups_of (step_up t e g s).layout ≡ groups_of s.layout
unfolding group_at
up_groups Incomplete e g s = refl
up_groups Ungrouped e g s = groups_set g ((located s.layout g).count + 1) s.layout
up_groups (Grouped place) e g s = refl

left_length : (t : GroupStatus) (g top : ℕ) (ps : List ℕ) → length (left_after t g top ps) ≤ length ps
left_length Incomplete g top ps = length_keep (λ i. has i (skipping 64 g top)) ps
left_length Ungrouped g top ps = omega arith
left_length (Grouped place) g top ps = omega arith

left_has : (t : GroupStatus) (g top : ℕ) (ps : List ℕ) (i : ℕ) → has i (left_after t g top ps) ≡ true → has i ps ≡ true
left_has Incomplete g top ps i h = (and_parts (has i ps) (has i (skipping 64 g top)) (sym (has_common i ps (skipping 64 g top)) ∙ h)).0
left_has Ungrouped g top ps i h = h
left_has (Grouped place) g top ps i h = h

abbrev pub Up : Entity → List ℕ → List ℕ → List ℕ → List ℕ → Type 0
Up e = Walking (walk_up e 0) (ReadyUp e 0)

-- g is the lowest position of the mask m, rest the mask without it
module _ (e : Entity) {w₀ ps₀ w : List ℕ} {m g rest : ℕ} (W : Up e w₀ ps₀ w (bits_of 64 m)) (L : LowStep m g rest) where
  abbrev s : Storage
  s = (meaning w).storage

  abbrev t : GroupStatus
  t = status_at e g (meaning w).storage

  abbrev top : ℕ
  top = (located (meaning w).storage.layout g).top

  rising : Ascending (g ∷ bits_of 64 rest)
  rising = subst Ascending L.bits (ascending_bits 64 m)

  walks : walk_up e 0 (bits_of 64 m) s ≡ walk_up e 0 (left_after t g top (bits_of 64 rest)) (step_up t e g s)
  walks = ap (λ (l : List ℕ). walk_up e 0 l s) L.bits ∙ up_on (walk_steps e) s g (bits_of 64 rest) rising (bits_below 64 rest) t refl

  readies : ReadyUp e 0 (bits_of 64 m) s ≡ (ReadyIn t e (located s.layout g) s.sets × ReadyUp e 0 (left_after t g top (bits_of 64 rest)) (step_up t e g s))
  readies = ap (λ (l : List ℕ). ReadyUp e 0 l s) L.bits ∙ up_on (ready_steps e) s g (bits_of 64 rest) rising (bits_below 64 rest) t refl

  pub up_asks : (g < groups_of (meaning w).storage.layout) × ReadyIn (status_at e g (meaning w).storage) e (located (meaning w).storage.layout g) (meaning w).storage.sets
  up_asks = (W.below g (ap (has g) L.bits ∙ has_here g (bits_of 64 rest)), (rw readies at W.ready).0)

  module _ {w' : List ℕ} {left : ℕ} (S : StepsUp w w' e g rest left) where
    pub up_turn : Up e w₀ ps₀ w' (bits_of 64 left)
    up_turn =
        let T : Turn (walk_up e 0) (ReadyUp e 0) s (bits_of 64 m) (step_up t e g) (left_after t g top (bits_of 64 rest)) =
        record {
          walks = sym walks;
          ready = λ r. (rw readies at r).1;
          fewer = λ i h. ap (has i) L.bits ∙ has_later i g (bits_of 64 rest) (left_has t g top (bits_of 64 rest) i h);
          groups = up_groups t e g s;
        } in
        walking_next W (subst (Turn (walk_up e 0) (ReadyUp e 0) s (bits_of 64 m) (step_up t e g)) (sym S.remains) T) S.becomes

    pub up_less : length (bits_of 64 left) < length (bits_of 64 m)
    up_less = omega (arith, ap length S.remains, left_length t g top (bits_of 64 rest), ap length L.bits)

pub up_end : (e : Entity) {w₀ ps₀ w ps : List ℕ} → Up e w₀ ps₀ w ps → ps ≡ [] → Becomes w₀ w (on_storage (walk_up e 0 ps₀) (meaning w₀))
unfolding walk_up
up_end e W q = walking_end W q (λ s. refl)

-- ---- a turn downward

down_groups : (t : GroupStatus) (e : Entity) (g : ℕ) (s : Storage) → groups_of (step_down t e g s).layout ≡ groups_of s.layout
unfolding ungroup_at
down_groups Incomplete e g s = refl
down_groups Ungrouped e g s = refl
down_groups (Grouped place) e g s = groups_set g ((located s.layout g).count - 1) s.layout

abbrev pub Down : Entity → List ℕ → List ℕ → List ℕ → List ℕ → Type 0
Down e = Walking (walk_down e) (ReadyDown e)

module _ (e : Entity) {w₀ ps₀ w ps : List ℕ} {g : ℕ} {rest : List ℕ} (W : Down e w₀ ps₀ w ps) (q : ps ≡ g ∷ rest) where
  first : Down e w₀ ps₀ w (g ∷ rest)
  first = subst (Down e w₀ ps₀ w) q W

  pub down_asks : (g < groups_of (meaning w).storage.layout) × ReadyOut (status_at e g (meaning w).storage) e (located (meaning w).storage.layout g) (meaning w).storage.sets
  unfolding ReadyDown
  down_asks = (first.below g (has_here g rest), first.ready.0)

  pub down_turn : {w' : List ℕ} → Becomes w w' (on_storage (step_down (status_at e g (meaning w).storage) e g) (meaning w)) → Down e w₀ ps₀ w' rest
  unfolding walk_down ReadyDown
  down_turn B =
      let t : GroupStatus = status_at e g (meaning w).storage in
      walking_next {f = step_down t e g} first (record { walks = refl; ready = λ r. r.1; fewer = λ i h. has_later i g rest h; groups = down_groups t e g (meaning w).storage }) B

pub down_end : (e : Entity) {w₀ ps₀ w ps : List ℕ} → Down e w₀ ps₀ w ps → ps ≡ [] → Becomes w₀ w (on_storage (walk_down e ps₀) (meaning w₀))
unfolding walk_down
down_end e W q = walking_end W q (λ s. refl)

-- the positions of a mask, highest first
pub falling : {m g rest : ℕ} → HighStep m g rest → reverse (bits_of 64 m) ≡ g ∷ reverse (bits_of 64 rest)
falling {m} {g} {rest} L = ap reverse L.bits ∙ reverse-append (bits_of 64 rest) (g ∷ [])

pub below_back : (ps : List ℕ) (s : Storage) → Below ps s → Below (reverse ps) s
below_back ps s b i h = b i (sym (has_reverse i ps) ∙ h)
