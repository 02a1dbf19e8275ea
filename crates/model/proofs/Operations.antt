-- Each operation keeps a store sound, one law an operation, for the commands here and for the functions of the crates above. Assumes nothing.
use mathlib.Core.Path.{◌≡◌, refl, ap, sym, ◌∙◌}
use mathlib.Core.Bool.{true, false, ◌&&◌, false≢true}
use mathlib.Core.List.{List, [], ◌∷◌, ◌++◌, map}
use Prim.Native.Nat.{ℕ, suc, ◌≤◌, ◌<◌}
use native.Mathlib.Omega.{arith}
use native.Mathlib.Nat.{one-le-pow}
use borrow.Author.Tests.{ltb-true, leb-false, lt-ltb}
use lib.Dec.{leb, eqb, lit<}
use lib.ListN.{length, get_or, replicate, length-append, length-replicate}
use Rattle.model.specs.Numbers.{LAST_CALLER, LIST_CAPACITY, MAX_KINDS}
use Rattle.model.specs.Lists.{one}
use Rattle.model.proofs.ListLaws.{place_count, count_place, map_append, all_snoc, default_at}
use Rattle.model.specs.Model.{Entity, Entities, SparseSet, Family, Component, same_entity, mem, set_of, keys, kind_of, is_live, is_full, insert_components, remove, clear_all, set_layout, create, create_with, destroy, Row, no_row}
use Rattle.model.specs.Store.{Control, Settings, Store, empty_with, with_kinds, with_entities, with_storage, with_control, with_all, empty_staged, empty_both, with_staged, with_excluded, with_draft, counted, with_caller}
use Rattle.model.specs.Sound.{ValueFits, no_component, Limits, KindsSound, EntitiesSound, StagedSound, ExcludedSound, Buildable, StoreSound, key, cnt, In}
use Rattle.model.proofs.SparseSets.{entity_same}
use Rattle.model.proofs.BoolLaws.{or_false}
use Rattle.model.proofs.Counts as counts
use Rattle.model.proofs.Numbers.{create_ok, create_live}
use Rattle.model.proofs.Values.{ColsOk, StagedOk, insert_ok, remove_ok, set_layout_ok, clear_all_ok}
use Rattle.model.proofs.KindLists.{distinct_snoc, in_cases, in_left, mem_append, in_one, known_snoc}
use Rattle.model.proofs.Shape.{buildable_plain, insert_plain, remove_plain, set_layout_plain, clear_all_plain}
use Rattle.model.proofs.Held.{Held, insert_held, remove_held, destroy_held, removed_none, clear_all_held, apply_held, held_right, right_fams, distinct_families, buildable_fresh}
use Rattle.model.specs.Theorems.{ControlSound, DraftSound}

pub zero_fits : (v : ℕ) → ValueFits v 0
zero_fits v = one-le-pow v 256 (lit< tt)

-- a row's value is of v bytes
abbrev pub RowFits : ℕ → ℕ → Row → Type 0
RowFits v k r = ValueFits v r.value

pub no_row_law : (v k : ℕ) → RowFits v k no_row
no_row_law v k = zero_fits v

-- ---- the two forms of soundness

-- a sparse set with no entity has no row
no_rows : (rows : SparseSet) → ((x : Entity) → cnt x (keys rows) ≡ 0) → rows ≡ []
no_rows [] h = refl
no_rows (r ∷ rows) h = absurd (omega (arith, h r.entity, ap one (entity_same r.entity)))

pub sound_held : (s : Store) → StoreSound s → Held s.entities s.kinds s.storage
sound_held s S =
    record {
      numbers = record { few = omega arith; single = S.entities.single; below = S.entities.below; positive = S.entities.positive; small = S.entities.small };
      fit = record {
        once = S.sets.once;
        fams = right_fams s.storage.sets s.entities.live S.sets.alive s.storage.layout S.layout.families S.groups;
        apart = distinct_families s.storage.layout S.layout.once;
        wide = S.sets.wide;
      };
      alive = S.sets.alive;
      bare = λ k n x. ap (λ (c : SparseSet). cnt x (keys c)) (S.sets.bare k n);
      small = S.kinds.small;
    }

pub control_of : (s : Store) → StoreSound s → ControlSound s.settings.value_bytes s.kinds s.control
control_of s S = record { staged = S.staged; excluded = S.excluded; draft = record { buildable = S.draft; uncounted = S.uncounted }; counts = S.counts }

-- a store whose parts are sound
make : (s : Store) → Limits s.settings.capacity s.settings.kind_capacity s.settings.value_bytes → KindsSound s.settings.kind_capacity s.kinds → s.entities.issued ≤ s.settings.capacity → Held s.entities s.kinds s.storage → ColsOk (RowFits s.settings.value_bytes) (no_row_law s.settings.value_bytes) s.storage.sets → Buildable s.kinds s.storage.layout → ControlSound s.settings.value_bytes s.kinds s.control → StoreSound s
make s limits kinds few H values layout C =
    record {
      limits = limits;
      kinds = kinds;
      entities = record { few = few; below = H.numbers.below; single = H.numbers.single; positive = H.numbers.positive; small = H.numbers.small };
      sets = record { wide = H.fit.wide; bare = λ k n. no_rows (set_of s.storage.sets k) (H.bare k n); alive = H.alive; once = H.fit.once; values = values };
      staged = C.staged;
      excluded = C.excluded;
      draft = C.draft.buildable;
      uncounted = C.draft.uncounted;
      layout = layout;
      groups = held_right s.entities s.kinds s.storage H;
      counts = C.counts;
    }

-- ---- live entities

pub live_count : (e : Entity) (c : Entities) → is_live e c ≡ true → 1 ≤ cnt e c.live
live_count e c t = place_count same_entity e c.live (ltb-true _ _ t)

pub count_live : (e : Entity) (c : Entities) → 1 ≤ cnt e c.live → is_live e c ≡ true
count_live e c h = lt-ltb _ _ (count_place same_entity e c.live h)

-- the entity that is created is live
pub create_is_live : (c : Entities) → is_live (create c).entity (create c).entities ≡ true
create_is_live c = count_live (create c).entity (create c).entities (omega (arith, create_live c (create c).entity, ap one (entity_same (create c).entity)))

-- ---- hand, bar, draft, caller and refusal counts

staged_ok : (v : ℕ) (e : Entity) (l : List Component) → ((j : ℕ) → ValueFits v (get_or l j no_component).value) → StagedOk (RowFits v) (no_row_law v) e l
staged_ok v e [] h = tt
staged_ok v e (p ∷ ps) h = (h 0, staged_ok v e ps (λ j. h (suc j)))

pub no_staged : (v : ℕ) (kinds : List ℕ) → StagedSound v kinds []
no_staged v kinds = record { few = omega arith; once = λ k. omega arith; known = λ k i. absurd (false≢true i); values = λ j. zero_fits v }

pub no_excluded : (kinds : List ℕ) → ExcludedSound kinds []
no_excluded kinds = record { few = omega arith; once = λ k. omega arith; known = λ k i. absurd (false≢true i) }

pub no_draft : (kinds : List ℕ) → DraftSound kinds []
no_draft kinds = record { buildable = record { families = tt; once = λ k. omega arith; known = λ k i. absurd (false≢true i); few = omega arith }; uncounted = tt }

module _ {v : ℕ} (kinds : List ℕ) (d : Control) (C : ControlSound v kinds d) where
  pub empty_staged_sound : ControlSound v kinds (empty_staged d)
  empty_staged_sound = record { staged = no_staged v kinds; excluded = C.excluded; draft = C.draft; counts = C.counts }

  pub empty_both_sound : ControlSound v kinds (empty_both d)
  empty_both_sound = record { staged = no_staged v kinds; excluded = no_excluded kinds; draft = C.draft; counts = C.counts }

  -- one component more in the hand
  pub stage_sound : (k x : ℕ) → In kinds k → mem k (map kind_of d.staged) ≡ false → length d.staged < LIST_CAPACITY → ValueFits v x → ControlSound v kinds (with_staged d (d.staged ++ (record { kind = k; value = x } ∷ [])))
  stage_sound k x known new few fits =
      record {
        staged = record {
          few = rw (length-append d.staged (record { kind = k; value = x } ∷ [])) (omega arith);
          once = rw (map_append kind_of d.staged (record { kind = k; value = x } ∷ [])) (distinct_snoc (map kind_of d.staged) k C.staged.once new);
          known = rw (map_append kind_of d.staged (record { kind = k; value = x } ∷ [])) (known_snoc kinds (map kind_of d.staged) k known C.staged.known);
          values = all_snoc (λ (p : Component). ValueFits v p.value) no_component (zero_fits v) d.staged (record { kind = k; value = x }) fits C.staged.values;
        };
        excluded = C.excluded;
        draft = C.draft;
        counts = C.counts;
      }

  -- one kind more in the bar
  pub exclude_sound : (k : ℕ) → In kinds k → mem k d.excluded ≡ false → length d.excluded < LIST_CAPACITY → ControlSound v kinds (with_excluded d (d.excluded ++ (k ∷ [])))
  exclude_sound k known new few =
      record {
        staged = C.staged;
        excluded = record {
          few = rw (length-append d.excluded (k ∷ [])) (omega arith);
          once = distinct_snoc d.excluded k C.excluded.once new;
          known = known_snoc kinds d.excluded k known C.excluded.known;
        };
        draft = C.draft;
        counts = C.counts;
      }

  pub draft_sound : (fs : List Family) → DraftSound kinds fs → ControlSound v kinds (with_draft d fs)
  draft_sound fs D = record { staged = C.staged; excluded = C.excluded; draft = D; counts = C.counts }

  pub counted_sound : ControlSound v kinds (counted d)
  counted_sound = record { staged = C.staged; excluded = C.excluded; draft = C.draft; counts = counts.counted_sound d C.counts }

  pub caller_sound : (c : ℕ) → c ≤ LAST_CALLER → ControlSound v kinds (with_caller d c)
  caller_sound c h = record { staged = C.staged; excluded = C.excluded; draft = C.draft; counts = counts.called_sound d C.counts c h }

-- ---- more kinds are registered

buildable_more : (kinds more : List ℕ) → ((j : ℕ) → In kinds j → In more j) → (fs : List Family) → Buildable kinds fs → Buildable more fs
buildable_more kinds more sub fs b = record { families = b.families; once = b.once; known = λ j i. sub j (b.known j i); few = b.few }

control_more : {v : ℕ} (kinds more : List ℕ) → ((j : ℕ) → In kinds j → In more j) → (d : Control) → ControlSound v kinds d → ControlSound v more d
control_more kinds more sub d C =
    record {
      staged = record { few = C.staged.few; once = C.staged.once; known = λ j i. sub j (C.staged.known j i); values = C.staged.values };
      excluded = record { few = C.excluded.few; once = C.excluded.once; known = λ j i. sub j (C.excluded.known j i) };
      draft = record { buildable = buildable_more kinds more sub d.draft C.draft.buildable; uncounted = C.draft.uncounted };
      counts = C.counts;
    }

-- ---- the store

issued_with : (w : List Entity) (c : Entities) (n : ℕ) → c.issued ≤ n → (eqb (length w) 0 && leb n c.issued) ≡ false → (create_with w c).entities.issued ≤ n
issued_with [] c n le t = leb-false n c.issued t
issued_with (e ∷ es) c n le t = le

issued_new : (c : Entities) (n : ℕ) → c.issued ≤ n → (eqb (length c.recycled) 0 && leb n c.issued) ≡ false → (create c).entities.issued ≤ n
unfolding create
issued_new c n le t = issued_with c.recycled c n le t

pub entities_created : (n : ℕ) (c : Entities) → EntitiesSound n c → is_full n c ≡ false → EntitiesSound n (create c).entities
entities_created n c E room =
    let O = create_ok c (record { few = omega arith; below = E.below; single = E.single; positive = E.positive; small = E.small }) in
    record { few = issued_new c n E.few room; below = O.below; single = O.single; positive = O.positive; small = O.small }

issued_old : (e : Entity) (c : Entities) (n : ℕ) → c.issued ≤ n → (destroy e c).issued ≤ n
unfolding destroy
issued_old e c n le = le

module _ (s : Store) (S : StoreSound s) where
  abbrev H : Held s.entities s.kinds s.storage
  H = sound_held s S

  abbrev C : ControlSound s.settings.value_bytes s.kinds s.control
  C = control_of s S

  pub control_sound : (d : Control) → ControlSound s.settings.value_bytes s.kinds d → StoreSound (with_control s d)
  control_sound d D = make (with_control s d) S.limits S.kinds S.entities.few H S.sets.values S.layout D

  -- the hand is emptied
  pub emptied : StoreSound (with_control s (empty_staged s.control))
  emptied = control_sound (empty_staged s.control) (empty_staged_sound s.kinds s.control C)

  -- REG of a new kind
  pub register_sound : (k : ℕ) → k < MAX_KINDS → mem k s.kinds ≡ false → length s.kinds < s.settings.kind_capacity → StoreSound (with_kinds s (s.kinds ++ (k ∷ [])))
  register_sound k lt new few =
      let sub : (j : ℕ) → In s.kinds j → In (s.kinds ++ (k ∷ [])) j = in_left s.kinds (k ∷ []) in
      make (with_kinds s (s.kinds ++ (k ∷ []))) S.limits
      (record {
        few = rw (length-append s.kinds (k ∷ [])) (omega arith);
        once = distinct_snoc s.kinds k S.kinds.once new;
        small = λ j i. in_cases s.kinds (k ∷ []) j i (S.kinds.small j) (λ u. omega (arith, in_one j k u));
      })
      S.entities.few
      (record {
        numbers = H.numbers;
        fit = H.fit;
        alive = H.alive;
        bare = λ j n x. H.bare j (or_false (mem j s.kinds) (mem j (k ∷ [])) (sym (mem_append j s.kinds (k ∷ [])) ∙ n)) x;
        small = λ j i. in_cases s.kinds (k ∷ []) j i (H.small j) (λ u. omega (arith, in_one j k u));
      })
      S.sets.values (buildable_more s.kinds (s.kinds ++ (k ∷ [])) sub s.storage.layout S.layout) (control_more s.kinds (s.kinds ++ (k ∷ [])) sub s.control C)

  -- an entity is created, with no components; `full` is 12's line
  pub create_sound : (eqb (length s.entities.recycled) 0 && leb s.settings.capacity s.entities.issued) ≡ false → StoreSound (with_entities s (create s.entities).entities)
  create_sound room =
      make (with_entities s (create s.entities).entities) S.limits S.kinds (issued_new s.entities s.settings.capacity S.entities.few room)
      (record {
        numbers = create_ok s.entities H.numbers;
        fit = H.fit;
        alive = λ x k i. omega (arith, create_live s.entities x, H.alive x k i);
        bare = H.bare;
        small = H.small;
      })
      S.sets.values S.layout C

  -- an entity that holds nothing is destroyed
  pub destroy_sound : (e : Entity) → is_live e s.entities ≡ true → ((k : ℕ) → cnt e (key s.storage.sets k) ≡ 0) → StoreSound (with_entities s (destroy e s.entities))
  destroy_sound e live none =
      make (with_entities s (destroy e s.entities)) S.limits S.kinds (issued_old e s.entities s.settings.capacity S.entities.few)
      (destroy_held s.entities s.kinds s.storage H e (live_count e s.entities live) none) S.sets.values S.layout C

  -- components go into a live entity
  pub insert_sound : (e : Entity) (staged : List Component) → is_live e s.entities ≡ true → StagedSound s.settings.value_bytes s.kinds staged → StoreSound (with_storage s (insert_components e staged s.storage))
  insert_sound e staged live h =
      make (with_storage s (insert_components e staged s.storage)) S.limits S.kinds S.entities.few
      (insert_held s.entities s.kinds s.storage H s.entities H.numbers (λ x i. i) e staged h.known (live_count e s.entities live))
      (insert_ok (RowFits s.settings.value_bytes) (no_row_law s.settings.value_bytes) e staged s.storage (staged_ok s.settings.value_bytes e staged h.values) S.sets.values)
      (buildable_plain s.kinds s.storage.layout (insert_components e staged s.storage).layout (insert_plain e staged s.storage) S.layout) C

  -- components of some kinds go; the entity need not be live
  pub remove_sound : (e : Entity) (gone : List ℕ) → StoreSound (with_storage s (remove e gone s.storage))
  remove_sound e gone =
      make (with_storage s (remove e gone s.storage)) S.limits S.kinds S.entities.few (remove_held s.entities s.kinds s.storage H e gone)
      (remove_ok (RowFits s.settings.value_bytes) (no_row_law s.settings.value_bytes) e gone s.storage S.sets.values)
      (buildable_plain s.kinds s.storage.layout (remove e gone s.storage).layout (remove_plain e gone s.storage) S.layout) C

  pub clear_all_sound : StoreSound (with_storage s (clear_all s.storage))
  clear_all_sound =
      make (with_storage s (clear_all s.storage)) S.limits S.kinds S.entities.few (clear_all_held s.entities s.kinds s.storage H) (clear_all_ok (RowFits s.settings.value_bytes) (no_row_law s.settings.value_bytes) s.storage)
      (buildable_plain s.kinds s.storage.layout (clear_all s.storage).layout (clear_all_plain s.storage) S.layout) C

  -- a layout is applied
  pub set_layout_sound : (fs : List Family) → DraftSound s.kinds fs → StoreSound (with_storage s (set_layout s.entities.live fs s.storage))
  set_layout_sound fs D =
      make (with_storage s (set_layout s.entities.live fs s.storage)) S.limits S.kinds S.entities.few
      (apply_held s.entities s.kinds s.storage H fs (buildable_fresh fs D.buildable.families D.uncounted) (distinct_families fs D.buildable.once))
      (set_layout_ok (RowFits s.settings.value_bytes) (no_row_law s.settings.value_bytes) s.entities.live fs s.storage S.sets.values)
      (buildable_plain s.kinds fs (set_layout s.entities.live fs s.storage).layout (set_layout_plain s.entities.live fs s.storage) D.buildable) C

-- a live entity is stripped of all its components and destroyed
pub kill_sound : (s : Store) → StoreSound s → (e : Entity) → is_live e s.entities ≡ true → StoreSound (with_all s (destroy e s.entities) (remove e s.kinds s.storage) s.control)
kill_sound s S e live = destroy_sound (with_storage s (remove e s.kinds s.storage)) (remove_sound s S e s.kinds) e live (removed_none s.entities s.kinds s.storage (sound_held s S) e)

-- ---- the empty store

set_of_empty : (n k : ℕ) → set_of (replicate n []) k ≡ []
set_of_empty n k = default_at [] n k

pub empty_sound : (c : Settings) → Limits c.capacity c.kind_capacity c.value_bytes → StoreSound (empty_with c)
unfolding empty_with
empty_sound c limits =
    record {
      limits = limits;
      kinds = record { few = omega arith; once = λ j. omega arith; small = λ j i. absurd (false≢true i) };
      entities = record { few = omega arith; below = λ i h. absurd (omega arith); single = λ i. omega arith; positive = λ x h. absurd (omega arith); small = λ x h. absurd (omega arith) };
      sets = record {
        wide = length-replicate {A = SparseSet} MAX_KINDS [];
        bare = λ j m. set_of_empty MAX_KINDS j;
        alive = λ x j h. absurd (omega (arith, none x j));
        once = λ x j. omega (arith, none x j);
        values = λ j i. rw (set_of_empty MAX_KINDS j) (zero_fits c.value_bytes);
      };
      staged = no_staged c.value_bytes [];
      excluded = no_excluded [];
      draft = (no_draft []).buildable;
      uncounted = tt;
      layout = (no_draft []).buildable;
      groups = tt;
      counts = counts.none_sound;
    }
  where
    none : (x : Entity) (j : ℕ) → cnt x (key (replicate MAX_KINDS []) j) ≡ 0
    none x j = ap (λ (c : SparseSet). cnt x (keys c)) (set_of_empty MAX_KINDS j)
