-- The words after an entity has joined the live list, and after one has left it. Assumes nothing.
use mathlib.Core.Path.{◌≡◌, sym, ap, ◌∙◌}
use mathlib.Core.Logic.{◌≢◌}
use mathlib.Core.List.{List, [], ◌∷◌, ◌++◌}
use Prim.Native.Nat.{ℕ, ◌+◌, ◌*◌, ◌-◌, ◌≤◌, ◌<◌}
use native.Mathlib.Omega.{arith}
use Rattle.model.specs.Model.{no_entity, entity}
use Rattle.model.proofs.BoolLaws.{by-eq}
use Rattle.words.specs.Offsets.{ISSUED, LIVE_LEN, LIVE_LIST}
use Rattle.words.proofs.Tables.{table_snoc, table_removed}
use Rattle.words.specs.Stores.{stores}
use Rattle.words.proofs.Stores.{miss, hit, length_stores}
use Rattle.words.proofs.Links.{apart, linked_appended, linked_removed}
use Rattle.words.proofs.Pigeon.{pigeon_free}
use Rattle.entity.specs.Meaning.{EntityPartSound, entities_of, entity_at, len_of, issued_of, live_index_at, live_version_at, place_of, held_of, queue_slot}
use Rattle.entity.specs.Change.{Idle, EntitiesChanged, joined, left}
use Rattle.entity.specs.Stored.{put_stores}
use Rattle.entity.proofs.Kept.{entity_path, entities_path, kept_queue, live_unlisted}

-- ---- an entity joins

abbrev pub join_stores : ℕ → ℕ → ℕ → List ℕ → List (ℕ × ℕ)
join_stores n x v w = put_stores n (len_of w) x v ++ ((LIVE_LEN, len_of w + 1) ∷ [])

module _ (n : ℕ) (w : List ℕ) (s : EntityPartSound n w) (x v : ℕ) (d : Idle n w x) (hv : 1 ≤ v) where
  -- where an issued index is not live, there is room for it
  pub live_room : len_of w < n
  live_room =
      let L = s.linked in
      let hx : x < n = omega (arith, d.below, s.few) in
      pigeon_free n (len_of w) x (live_index_at w) hx
      (λ i hi. (L.tied i hi).below)
      (apart n (len_of w) (live_index_at w) (live_version_at w) (place_of n w) (held_of n w) L)
      (λ i hi e. let t = L.tied i hi in let z = ap (held_of n w) e in omega (arith, t.agreed, t.issued, d.free))

  pub joined_changed : EntitiesChanged n (joined (entity x v)) w (stores w (join_stores n x v w))
  unfolding entities_of
  joined_changed =
      let ss = join_stores n x v w in
      let w' = stores w ss in
      let k = len_of w in
      let room : k < n = live_room in
      let size = s.sized.size in
      let some = s.sized.some in
      let hx : x < n = omega (arith, d.below, s.few) in
      let e₀ : len_of w' ≡ k + 1 = hit w ss 4 _ _ (omega arith) (omega arith) in
      let e₁ : issued_of w' ≡ issued_of w = miss w ss _ (omega arith) in
      let ik : live_index_at w' k ≡ x = hit w ss 0 _ _ (omega arith) (omega arith) in
      let vk : live_version_at w' k ≡ v = hit w ss 1 _ _ (omega arith) (omega arith) in
      let io : (i : ℕ) → i < k → live_index_at w' i ≡ live_index_at w i = λ i hi. miss w ss _ (omega arith) in
      let vo : (i : ℕ) → i < k → live_version_at w' i ≡ live_version_at w i = λ i hi. miss w ss _ (omega arith) in
      let ho : (y : ℕ) → y < n → y ≢ x → held_of n w' y ≡ held_of n w y = λ y hy ne. miss w ss _ (omega arith) in
      let kept =
      kept_queue n w w' s (miss w ss _ (omega arith)) (miss w ss _ (omega arith)) (omega arith)
      (λ p hp. miss w ss _ (omega arith))
      (λ p hp. miss w ss _ (omega arith))
      (λ y hy. miss w ss _ (omega arith))
      (λ y hy b. ho y hy (λ e. let z = ap (queue_slot n w) e in omega (arith, d.unlisted))) in
      record {
        sound =
            record {
              sized = record { size = length_stores w ss ∙ size; some = some; small = s.sized.small };
              few = rw e₁ s.few;
              linked =
                  rw e₀
                  (linked_appended n k (live_index_at w) (live_version_at w) (place_of n w) (held_of n w) s.linked
                  (live_index_at w') (live_version_at w') (place_of n w') (held_of n w') room x v hx hv d.free
                  ik io vk vo
                  (hit w ss 2 _ _ (omega arith) (omega arith))
                  (λ y hy ne. miss w ss _ (omega arith))
                  (hit w ss 3 _ _ (omega arith) (omega arith))
                  ho);
              known =
                  λ i hi.
                  by-eq i k
                  (λ e. rw (e, ik) (omega (arith, d.below)))
                  (λ ne. let h : i < k = omega arith in omega (arith, io i h, s.known i h));
              queue = kept.queue;
            };
        size = length_stores w ss;
        becomes =
            entities_path
            (rw e₀ (table_snoc no_entity (entity x v) k (entity_at w) (entity_at w') (entity_path ik vk) (λ i hi. entity_path (io i hi) (vo i hi))))
            kept.recycled
            e₁;
      }

-- ---- an entity leaves

abbrev pub leave_stores : ℕ → ℕ → List ℕ → List (ℕ × ℕ)
leave_stores n p w =
    put_stores n p (live_index_at w (len_of w - 1)) (live_version_at w (len_of w - 1))
    ++ ((LIVE_LIST + 2 * n + 2 * live_index_at w p + 1, 0) ∷ (LIVE_LEN, len_of w - 1) ∷ [])

module _ (n : ℕ) (w : List ℕ) (s : EntityPartSound n w) (p : ℕ) (hp : p < len_of w) where
  -- the index that left is neither live nor waiting
  pub left_idle : Idle n (stores w (leave_stores n p w)) (live_index_at w p)
  left_idle =
      let ss = leave_stores n p w in
      let L = s.linked in
      let x = live_index_at w p in
      let y = live_index_at w (len_of w - 1) in
      let t = L.tied p hp in
      let hy : y < n = (L.tied (len_of w - 1) (omega arith)).below in
      let size = s.sized.size in
      let room = L.room in
      record {
        below = rw (miss w ss ISSUED (omega arith)) (s.known p hp);
        free = hit w ss 4 _ _ (omega arith) (omega arith);
        unlisted = miss w ss _ (omega arith) ∙ live_unlisted n w s x t.below (omega (arith, t.agreed, t.issued));
      }

  pub left_changed : EntitiesChanged n (left p) w (stores w (leave_stores n p w))
  unfolding entities_of
  left_changed =
      let ss = leave_stores n p w in
      let w' = stores w ss in
      let L = s.linked in
      let k = len_of w in
      let x = live_index_at w p in
      let y = live_index_at w (k - 1) in
      let hl : k - 1 < k = omega arith in
      let tp = L.tied p hp in
      let tl = L.tied (k - 1) hl in
      let room = L.room in
      let size = s.sized.size in
      let e₀ : len_of w' ≡ k - 1 = hit w ss 5 _ _ (omega arith) (omega arith) in
      let e₁ : issued_of w' ≡ issued_of w = miss w ss _ (omega arith) in
      let ip : p < k - 1 → live_index_at w' p ≡ y = λ q. hit w ss 0 _ _ (omega arith) (omega arith) in
      let vp : p < k - 1 → live_version_at w' p ≡ live_version_at w (k - 1) = λ q. hit w ss 1 _ _ (omega arith) (omega arith) in
      let io : (i : ℕ) → i < k - 1 → i ≢ p → live_index_at w' i ≡ live_index_at w i = λ i hi ne. miss w ss _ (omega arith) in
      let vo : (i : ℕ) → i < k - 1 → i ≢ p → live_version_at w' i ≡ live_version_at w i = λ i hi ne. miss w ss _ (omega arith) in
      let ho : (z : ℕ) → z < n → z ≢ x → held_of n w' z ≡ held_of n w z =
      λ z hz ne.
      by-eq z y
      (λ e. hit w ss 3 _ _ (omega arith) (omega arith) ∙ sym tl.agreed ∙ ap (held_of n w) (sym e))
      (λ ny. miss w ss _ (omega arith)) in
      let xu : queue_slot n w x ≡ 0 = live_unlisted n w s x tp.below (omega (arith, tp.agreed, tp.issued)) in
      let kept =
      kept_queue n w w' s (miss w ss _ (omega arith)) (miss w ss _ (omega arith)) (omega arith)
      (λ q hq. miss w ss _ (omega arith))
      (λ q hq. miss w ss _ (omega arith))
      (λ z hz. miss w ss _ (omega arith))
      (λ z hz b. ho z hz (λ e. let t = ap (queue_slot n w) e in omega arith)) in
      record {
        sound =
            record {
              sized = record { size = length_stores w ss ∙ size; some = s.sized.some; small = s.sized.small };
              few = rw e₁ s.few;
              linked =
                  rw e₀
                  (linked_removed n k (live_index_at w) (live_version_at w) (place_of n w) (held_of n w) L
                  (live_index_at w') (live_version_at w') (place_of n w') (held_of n w') p hp ip io vp vo
                  (λ q. hit w ss 2 _ _ (omega arith) (omega arith))
                  (λ i hi ne.
                  let z = (L.tied i (omega arith)).below in
                  let d = apart n k (live_index_at w) (live_version_at w) (place_of n w) (held_of n w) L i (k - 1) (omega arith) hl (omega arith) in
                  miss w ss _ (omega arith))
                  (hit w ss 4 _ _ (omega arith) (omega arith))
                  ho);
              known =
                  λ i hi.
                  by-eq i p
                  (λ e. let q : p < k - 1 = omega arith in rw (e, ip q, e₁) (s.known (k - 1) hl))
                  (λ ne. let h : i < k - 1 = omega arith in rw (io i h ne, e₁) (s.known i (omega arith)));
              queue = kept.queue;
            };
        size = length_stores w ss;
        becomes =
            entities_path
            (rw e₀
            (table_removed no_entity k (entity_at w) (entity_at w') p hp (λ q. entity_path (ip q) (vp q)) (λ i hi ne. entity_path (io i hi ne) (vo i hi ne))))
            kept.recycled
            e₁;
      }
