-- "hand, bar, draft and layout of registered kinds, such as commands can build", both ways: each that a sound store may have is what some tape leaves, and
-- what a tape leaves is such. Assumes nothing.
use mathlib.Core.Path.{◌≡◌, refl, ap, ap₂, sym, ◌∙◌, subst}
use mathlib.Core.Logic.{◌↔◌}
use mathlib.Core.List.{List, [], ◌∷◌, ◌++◌, map}
use Prim.Native.Nat.{ℕ, suc, ◌+◌, ◌≤◌}
use native.Mathlib.Omega.{arith}
use lib.ListN.{length, replicate}
use Rattle.model.specs.Numbers.{MAX_KINDS}
use Rattle.model.specs.Model.{Entity, SparseSet, Family, set_of, zero_count}
use Rattle.model.specs.Store.{Settings, Store, empty_with}
use Rattle.model.specs.Run.{Ran}
use Rattle.model.specs.Sound.{Limits, Uncounted, AllUncounted, RightFrom, AllRight, StoreSound}
use Rattle.model.proofs.Bounds.{numbers_few, rows_live}
use Rattle.model.proofs.Shape.{buildable_plain}
use Rattle.model.proofs.Sound.{run_sound}
use Rattle.tapes.specs.Built.{Build, built_store, BuildSound, build_of, TapeLeaves, LeftBy, build_commands, build_tape, build_room}
use Rattle.tapes.proofs.Tapes.{tape_bytes, run_commands}
use Rattle.model.proofs.ListLaws.{length_zero}
use Rattle.model.proofs.Regroup.{zeroed_families}
use Rattle.tapes.proofs.Building.{commands_after, commands_encodable}

-- ---- each is what a tape leaves: that of specs/Built.antt, with room for its answers

pub tape_builds : (c : Settings) (b : Build) → BuildSound c.kind_capacity c.value_bytes b → TapeLeaves c (build_tape c.value_bytes b) (build_room c b) (built_store c b)
unfolding empty_with
tape_builds c b B =
    let E = commands_encodable c.kind_capacity c.value_bytes b B in
    record {
      bytes = tape_bytes c.value_bytes (build_commands b) E;
      stop = λ r h. ap (λ (x : Ran). x.stop) (run_commands (build_commands b) r (empty_with c) E h);
      store = λ r h. ap (λ (x : Ran). x.store) (run_commands (build_commands b) r (empty_with c) E h) ∙ commands_after c b B;
    }

pub every_built : (c : Settings) (b : Build) → BuildSound c.kind_capacity c.value_bytes b → LeftBy c (built_store c b)
every_built c b B = record { tape = build_tape c.value_bytes b; room = build_room c b; leaves = tape_builds c b B }

-- ---- what a tape leaves is such

pub left_sound : (c : Settings) (s : Store) → Limits c.capacity c.kind_capacity c.value_bytes → LeftBy c s → StoreSound s
left_sound c s L T = subst StoreSound (T.leaves.store T.room (omega arith)) (run_sound T.tape T.room c T.leaves.bytes L)

-- with no entity live, groups that are right count nothing
right_uncounted : (sets : List SparseSet) (acc : List ℕ) (f : Family) → RightFrom sets [] acc f → Uncounted f
right_uncounted sets acc [] R = tt
right_uncounted sets acc (r ∷ rs) R = (R.0.number, right_uncounted sets (acc ++ r.new_kinds) rs R.1)

all_uncounted : (sets : List SparseSet) (fs : List Family) → AllRight sets [] fs → AllUncounted fs
all_uncounted sets [] R = tt
all_uncounted sets (f ∷ fs) R = (right_uncounted sets [] f R.0, all_uncounted sets fs R.1)

sound_build : (c : Settings) (b : Build) → StoreSound (built_store c b) → BuildSound c.kind_capacity c.value_bytes b
unfolding empty_with
sound_build c b S =
    record {
      kinds = S.kinds;
      layout = record { buildable = S.layout; uncounted = all_uncounted (built_store c b).storage.sets b.layout S.groups };
      draft = record { buildable = S.draft; uncounted = S.uncounted };
      staged = S.staged;
      excluded = S.excluded;
      counts = S.counts;
    }

-- both ways
pub built_exactly : (c : Settings) (b : Build) → Limits c.capacity c.kind_capacity c.value_bytes → BuildSound c.kind_capacity c.value_bytes b ↔ LeftBy c (built_store c b)
built_exactly c b L = (every_built c b, λ T. sound_build c b (left_sound c (built_store c b) L T))

-- ---- the parts of every sound store

zeroed_uncounted : (f : Family) → Uncounted (map zero_count f)
zeroed_uncounted [] = tt
zeroed_uncounted (r ∷ f) = (refl, zeroed_uncounted f)

all_zeroed : (fs : List Family) → AllUncounted (map (map zero_count) fs)
all_zeroed [] = tt
all_zeroed (f ∷ fs) = (zeroed_uncounted f, all_zeroed fs)

module _ (s : Store) (S : StoreSound s) where
  pub own_sound : BuildSound s.settings.kind_capacity s.settings.value_bytes (build_of s)
  own_sound =
      let fs = s.storage.layout in
      record {
        kinds = S.kinds;
        layout = record { buildable = buildable_plain s.kinds fs (map (map zero_count) fs) (zeroed_families (map (map zero_count) fs) (all_zeroed fs)) S.layout; uncounted = all_zeroed fs };
        draft = record { buildable = S.draft; uncounted = S.uncounted };
        staged = S.staged;
        excluded = S.excluded;
        counts = S.counts;
      }

  -- its kinds, hand, bar, draft, caller, tallies and its layout but for the counts are what some tape leaves
  pub own_built : LeftBy s.settings (built_store s.settings (build_of s))
  own_built = every_built s.settings (build_of s) own_sound

-- ---- sound stores in which no number is issued: they are what tapes leave, the whole store

no_sets : (sets : List SparseSet) → ((k : ℕ) → set_of sets k ≡ []) → sets ≡ replicate (length sets) []
no_sets [] h = refl
no_sets (c ∷ sets) h = ap₂ {C = List SparseSet} (λ x xs. x ∷ xs) (h 0) (no_sets sets (λ k. h (suc k)))

module _ (s : Store) (S : StoreSound s) (none : s.entities.issued ≡ 0) where
  few : length s.entities.live + length s.entities.recycled ≤ 0
  few = omega (arith, none, numbers_few s.settings.capacity s.entities S.entities)

  no_live : s.entities.live ≡ []
  no_live = length_zero s.entities.live (omega (arith, few))

  sets_empty : s.storage.sets ≡ replicate MAX_KINDS []
  sets_empty =
      no_sets s.storage.sets (λ k. length_zero (set_of s.storage.sets k) (omega (arith, few, rows_live s S k)))
      ∙ ap (λ (n : ℕ). replicate n []) S.sets.wide

  layout_zeroed : map (map zero_count) s.storage.layout ≡ s.storage.layout
  layout_zeroed = zeroed_families s.storage.layout (all_uncounted s.storage.sets s.storage.layout (subst (λ (l : List Entity). AllRight s.storage.sets l s.storage.layout) no_live S.groups))

  pub own_whole : built_store s.settings (build_of s) ≡ s
  unfolding empty_with
  own_whole = λ i. record {
    settings = s.settings;
    kinds = s.kinds;
    entities = record { live = sym no_live i; recycled = sym (length_zero s.entities.recycled (omega (arith, few))) i; issued = sym none i };
    storage = record { sets = sym sets_empty i; layout = layout_zeroed i };
    control = s.control;
  }

pub sound_exactly : (s : Store) → Limits s.settings.capacity s.settings.kind_capacity s.settings.value_bytes → s.entities.issued ≡ 0 → StoreSound s ↔ LeftBy s.settings s
sound_exactly s L none = (
  (λ S. subst (LeftBy s.settings) (own_whole s S none) (own_built s S)),
  left_sound s.settings s L,
)
