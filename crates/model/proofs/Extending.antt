-- 02, No. 4: a tray is that many NEWs, none of which is refused, and leaves a sound store. Assumes nothing.
use mathlib.Core.Path.{◌≡◌, refl, ap, sym, ◌∙◌, subst}
use mathlib.Core.Bool.{false}
use mathlib.Core.List.{List, [], ◌∷◌, ◌++◌, append_assoc, append-nil}
use Prim.Native.Nat.{ℕ, zero, suc, ◌+◌, ◌-◌, ◌≤◌, ◌<◌}
use native.Mathlib.Omega.{arith}
use borrow.Author.Tests.{ne_eqb, lt-leb, le-leb, lt-ltb, le-ltb}
use lib.Dec.{ltb}
use lib.ListN.{length, drop, drop_of_length-le}
use lib.Seq.{drop-append_seam}
use Rattle.model.proofs.ListLaws.{count_append}
use Rattle.model.specs.Model.{Entity, Entities, SparseSet, Component, Storage, Extended, same_entity, insert_all, create, create_with, create_each, group_each, extend, is_full, free_numbers}
use Rattle.model.specs.Store.{Store, bytes_of, staged_kinds, with_all, with_control, with_entities, with_staged, empty_staged}
use Rattle.model.specs.Commands.{NEW, TRAY, accepted, done}
use Rattle.model.specs.Refusals.{NoneHolds, lines_of}
use Rattle.model.specs.Run.{store_after, does}
use Rattle.model.specs.Sound.{cnt, key, EntitiesSound, StagedSound, StoreSound}
use Rattle.model.specs.Theorems.{restaged, news}
use Rattle.model.proofs.BoolLaws.{zero_of, by_lt}
use Rattle.model.proofs.Numbers.{EntitiesOk, create_ok, cnt_num}
use Rattle.model.proofs.Held.{Held, staged_kinds_law}
use Rattle.model.proofs.Behind.{Fresh, pending, inserts_of, extend_inserts}
use Rattle.model.proofs.Operations.{sound_held, control_of, control_sound, create_sound, create_is_live, entities_created, insert_sound, emptied}
use Rattle.model.proofs.Outcomes.{new_created}

-- ---- the new entities in order, and the entities with them

abbrev pub new_entities : ℕ → Entities → List Entity
new_entities zero c = []
new_entities (suc n) c = (create c).entity ∷ new_entities n (create c).entities

abbrev pub with_new : ℕ → Entities → Entities
with_new zero c = c
with_new (suc n) c = with_new n (create c).entities

pub each_created : (n : ℕ) (h : List Component) (c : Entities) (p : Storage) → create_each n h c p ≡ record { entities = with_new n c; storage = pending (new_entities n c) h p }
unfolding create_each
each_created zero h c p = refl
each_created (suc n) h c p = each_created n h (create c).entities (record { sets = insert_all (create c).entity h p.sets; layout = p.layout })

create_joins : (c : Entities) → (create c).entities.live ≡ c.live ++ ((create c).entity ∷ [])
unfolding create
create_joins c = go c.recycled
  where
    go : (w : List Entity) → (create_with w c).entities.live ≡ c.live ++ ((create_with w c).entity ∷ [])
    go [] = refl
    go (e ∷ es) = refl

pub new_live : (n : ℕ) (c : Entities) → (with_new n c).live ≡ c.live ++ new_entities n c
new_live zero c = sym (append-nil c.live)
new_live (suc n) c =
    new_live n (create c).entities
    ∙ ap (λ (l : List Entity). l ++ new_entities n (create c).entities) (create_joins c)
    ∙ append_assoc c.live ((create c).entity ∷ []) (new_entities n (create c).entities)

pub new_count : (n : ℕ) (c : Entities) → length (new_entities n c) ≡ n
new_count zero c = refl
new_count (suc n) c = ap suc (new_count n (create c).entities)

-- they are the last of the live list
pub new_last : (n : ℕ) (c : Entities) → drop (length c.live) (with_new n c).live ≡ new_entities n c
new_last n c = ap (drop (length c.live)) (new_live n c) ∙ drop-append_seam c.live (new_entities n c)

-- what each creation keeps, all of them keep
pub new_keeps : (P : Entities → Type 0) → ((c : Entities) → P c → P (create c).entities) → (n : ℕ) (c : Entities) → P c → P (with_new n c)
new_keeps P keeps zero c p = p
new_keeps P keeps (suc n) c p = new_keeps P keeps n (create c).entities (keeps c p)

-- none of them was live, so that no sparse set has a row of one
pub new_fresh : (n : ℕ) (c : Entities) (X : List SparseSet) → EntitiesOk c → ((x : Entity) (k : ℕ) → 1 ≤ cnt x (key X k) → 1 ≤ cnt x c.live) → Fresh (new_entities n c) X
new_fresh n c X ok alive =
    record {
      once = λ x. omega (arith, both x, few x);
      none = λ x h k. zero_of (λ g. omega (arith, alive x k g, h, both x, few x));
    }
  where
    both : (x : Entity) → cnt x (with_new n c).live ≡ cnt x c.live + cnt x (new_entities n c)
    both x = ap (cnt x) (new_live n c) ∙ count_append same_entity x c.live (new_entities n c)

    few : (x : Entity) → cnt x (with_new n c).live ≤ 1
    few x = omega (arith, cnt_num x (with_new n c).live, (new_keeps EntitiesOk create_ok n c ok).single x.index)

-- ---- numbers left

-- NEW's FULL is that fewer than one are left
pub full_is : (n : ℕ) (c : Entities) → is_full n c ≡ ltb (free_numbers n c) 1
full_is n c = go c.recycled
  where
    go : (w : List Entity) → is_full n (record { live = c.live; recycled = w; issued = c.issued }) ≡ ltb (length w + (n - c.issued)) 1
    go [] = by_lt c.issued n
        (λ h. lt-leb n c.issued h ∙ sym (le-ltb (0 + (n - c.issued)) 1 (omega arith)))
        (λ h. le-leb n c.issued h ∙ sym (lt-ltb (0 + (n - c.issued)) 1 (omega arith)))
    go (e ∷ es) = rw (ne_eqb (suc (length es)) 0 (λ q. omega (arith, q))) (sym (le-ltb (suc (length es) + (n - c.issued)) 1 (omega arith)))

pub room_left : (n : ℕ) (c : Entities) → 1 ≤ free_numbers n c → is_full n c ≡ false
room_left n c h = full_is n c ∙ le-ltb (free_numbers n c) 1 h

-- each new entity takes one
pub one_fewer : (n : ℕ) (c : Entities) → 1 ≤ free_numbers n c → free_numbers n c ≡ suc (free_numbers n (create c).entities)
unfolding create
one_fewer n c h = go c.recycled refl
  where
    go : (w : List Entity) → c.recycled ≡ w → free_numbers n c ≡ suc (free_numbers n (create_with w c).entities)
    go [] q = omega (arith, h, ap length q)
    go (e ∷ es) q = omega (arith, ap length q)

pub new_entities_sound : (n k : ℕ) (c : Entities) → EntitiesSound k c → n ≤ free_numbers k c → EntitiesSound k (with_new n c)
new_entities_sound zero k c E room = E
new_entities_sound (suc n) k c E room =
    new_entities_sound n k (create c).entities (entities_created k c E (room_left k c (omega arith))) (omega (arith, one_fewer k c (omega arith)))

-- ---- NEW after NEW

module _ (h : List Component) (s : Store) (room : 1 ≤ free_numbers s.settings.capacity s.entities) where
  pub first_new : store_after (restaged h s) (does NEW (restaged h s)) ≡ (accepted NEW (restaged h s)).store
  first_new = ap (store_after (restaged h s)) (new_created (restaged h s) (room_left s.settings.capacity s.entities room))

  pub left_new : free_numbers s.settings.capacity s.entities ≡ suc (free_numbers (accepted NEW (restaged h s)).store.settings.capacity (accepted NEW (restaged h s)).store.entities)
  unfolding accepted
  left_new = one_fewer s.settings.capacity s.entities room

pub news_next : (n : ℕ) (h : List Component) (s : Store) → 1 ≤ free_numbers s.settings.capacity s.entities → news (suc n) h s ≡ news n h (accepted NEW (restaged h s)).store
unfolding news
news_next n h s room = ap (news n h) (first_new h s room)

pub news_none : (h : List Component) (s : Store) → news 0 h s ≡ s
unfolding news
news_none h s = refl

news_inserts : (n : ℕ) (h : List Component) (s : Store) → suc n ≤ free_numbers s.settings.capacity s.entities
    → news (suc n) h s ≡ with_all s (with_new (suc n) s.entities) (inserts_of (new_entities (suc n) s.entities) h s.storage) (empty_staged s.control)
unfolding accepted inserts_of
news_inserts zero h s room = news_next zero h s room ∙ news_none h (accepted NEW (restaged h s)).store
news_inserts (suc n) h s room =
    news_next (suc n) h s (omega arith)
    ∙ news_inserts n h (accepted NEW (restaged h s)).store (omega (arith, left_new h s (omega arith)))

-- none of them is refused
pub news_taken : (i : ℕ) (h : List Component) (s : Store) → i < free_numbers s.settings.capacity s.entities → NoneHolds (lines_of NEW) (restaged h (news i h s))
unfolding lines_of
news_taken zero h s room = (ap (λ (t : Store). is_full t.settings.capacity t.entities) (news_none h s) ∙ room_left s.settings.capacity s.entities room, tt)
news_taken (suc i) h s room =
    subst (λ (t : Store). NoneHolds (lines_of NEW) (restaged h t)) (sym (news_next i h s (omega arith)))
    (news_taken i h (accepted NEW (restaged h s)).store (omega (arith, left_new h s (omega arith))))

-- ---- all insertions first, then grouping

module _ (s : Store) (S : StoreSound s) where
  abbrev h : List Component
  h = s.control.staged

  held : Held s.entities s.kinds s.storage
  held = sound_held s S

  extend_is : (n : ℕ) → extend n h s.entities s.storage ≡ record { entities = with_new n s.entities; storage = inserts_of (new_entities n s.entities) h s.storage }
  unfolding extend
  extend_is n =
      let c = s.entities in
      ap (λ (x : Extended). record { entities = x.entities; storage = group_each (drop (length c.live) x.entities.live) (staged_kinds s) x.storage }) (each_created n h c s.storage)
      ∙ ap (λ (es : List Entity). record { entities = with_new n c; storage = group_each es (staged_kinds s) (pending (new_entities n c) h s.storage) }) (new_last n c)
      ∙ ap (λ (p : Storage). record { entities = with_new n c; storage = p }) (extend_inserts (new_entities n c) h s.storage held.fit (staged_kinds_law c s.kinds s.storage held h S.staged.known) S.staged.once (new_fresh n c s.storage.sets held.numbers held.alive))

  -- "From a count of 1 up, the store afterwards equals that many NEWs, each with the same hand, row order included."
  pub tray_news : (n : ℕ) → 1 ≤ n → n ≤ free_numbers s.settings.capacity s.entities → (accepted (TRAY n) s).store ≡ news n s.control.staged s
  unfolding accepted
  tray_news zero some room = absurd (omega arith)
  tray_news (suc n) some room =
      ap (λ (x : Extended). with_all s x.entities x.storage (empty_staged s.control)) (extend_is (suc n))
      ∙ sym (news_inserts n h s room)

-- "Count 0 empties the hand and does nothing else."
pub tray_none : (s : Store) → accepted (TRAY 0) s ≡ done (with_control s (empty_staged s.control)) (bytes_of 2 0)
unfolding accepted extend create_each group_each
tray_none s =
    ap (λ (es : List Entity). done (with_all s s.entities (group_each es (staged_kinds s) s.storage) (empty_staged s.control)) (bytes_of 2 0))
    (drop_of_length-le s.entities.live {i = length s.entities.live} (omega arith))

-- ---- what is left is sound

pub new_sound : (s : Store) → StoreSound s → is_full s.settings.capacity s.entities ≡ false → StoreSound (accepted NEW s).store
unfolding accepted
new_sound s S room =
    let c = create s.entities in
    let A : StoreSound (with_entities s c.entities) = create_sound s S room in
    emptied _ (insert_sound (with_entities s c.entities) A c.entity s.control.staged (create_is_live s.entities) S.staged)

restaged_sound : (h : List Component) (s : Store) → StagedSound s.settings.value_bytes s.kinds h → StoreSound s → StoreSound (restaged h s)
restaged_sound h s H S =
    let C = control_of s S in
    control_sound s S (with_staged s.control h) (record { staged = H; excluded = C.excluded; draft = C.draft; counts = C.counts })

news_sound : (n : ℕ) (h : List Component) (s : Store) → StagedSound s.settings.value_bytes s.kinds h → StoreSound s → n ≤ free_numbers s.settings.capacity s.entities → StoreSound (news n h s)
unfolding accepted
news_sound zero h s H S room = subst StoreSound (sym (news_none h s)) S
news_sound (suc n) h s H S room =
    subst StoreSound (sym (news_next n h s (omega arith)))
    (news_sound n h (accepted NEW (restaged h s)).store H (new_sound (restaged h s) (restaged_sound h s H S) (room_left s.settings.capacity s.entities (omega arith))) (omega (arith, left_new h s (omega arith))))

pub tray_sound : (n : ℕ) (s : Store) → StoreSound s → n ≤ free_numbers s.settings.capacity s.entities → StoreSound (accepted (TRAY n) s).store
tray_sound zero s S room = rw (tray_none s) (emptied s S)
tray_sound (suc n) s S room = rw (tray_news s S (suc n) (omega arith) room) (news_sound (suc n) s.control.staged s S.staged S room)
