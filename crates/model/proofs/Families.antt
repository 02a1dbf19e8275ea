-- Insertion over all families: every group of the layout is right after it. Assumes nothing.
use mathlib.Core.Path.{◌≡◌, refl, ap, ap₂, sym, ◌∙◌}
use mathlib.Core.Logic.{◌⊎◌, inl, inr, ⊎_elim}
use mathlib.Core.Bool.{Bool, true, false, cond, true≢false, false≢true}
use mathlib.Core.List.{List, [], ◌∷◌, ◌++◌, map, append_assoc}
use Prim.Native.Nat.{ℕ, ◌≤◌, ◌<◌}
use native.Mathlib.Omega.{arith}
use native.Mathlib.Decide.{ℕ_discrete}
use borrow.Author.Tests.{ltb-true, eq-eqb}
use lib.ListN.{length, take, set, length-map, length-append, length-set}
use lib.Seq.{take-append-le, set-get_or, get_or-set_same, get_or-set_other}
use Rattle.model.proofs.ListLaws.{count_append, get_d_place, map_set, map_append}
use Rattle.model.specs.Model.{Entity, SparseSet, Family, Component, Storage, Walked, same_entity, no_entity, mem, meets, set_of, keys, entity_of, at, held, kinds_of, kind_of, insert_row, insert_all, group_family, group_touched}
use Rattle.model.proofs.SparseSets.{entity_eq, entity_same}
use Rattle.model.proofs.BoolLaws.{cond_case, or_false, or_false_right, bool_cases}
use Rattle.model.proofs.Groups.{plc, SameEntities}
use Rattle.model.proofs.Walk.{Chain, Every, But, Plus, Up, group_family_good, chain_weaken, either, lacks_count}
use Rattle.model.proofs.KindLists.{in_left, in_right, mem_append, not_both}
use Rattle.model.specs.Sound.{key, cnt, In}

-- ---- families

-- families that are right for the entities of W, and for all
abbrev pub FamsFor : (ℕ → List Entity) → (Entity → Type 0) → List Family → Type 0
FamsFor key W [] = Unit {0}
FamsFor key W (f ∷ fs) = Chain key W [] f × FamsFor key W fs

abbrev pub Fams : (ℕ → List Entity) → List Family → Type 0
Fams key fs = FamsFor key Every fs

abbrev pub fam_kinds : List Family → List (List ℕ)
fam_kinds fs = map kinds_of fs

abbrev pub all_kinds : List (List ℕ) → List ℕ
all_kinds [] = []
all_kinds (ks ∷ kss) = ks ++ all_kinds kss

-- the families' kinds, of which no two have one in common
abbrev pub Apart : List (List ℕ) → Type 0
Apart [] = Unit {0}
Apart (ks ∷ kss) = ((k : ℕ) → In ks k → mem k (all_kinds kss) ≡ false) × Apart kss

-- a family whose sparse sets are as they were
pub chain_other : (key new : ℕ → List Entity) (W : Entity → Type 0) (acc : List ℕ) (rs : Family) → ((k : ℕ) → In (acc ++ kinds_of rs) k → new k ≡ key k) → Chain key W acc rs → Chain new W acc rs
chain_other key new W acc [] s ch = tt
chain_other key new W acc (r ∷ rs) s ch =
    let s₁ : (k : ℕ) → In ((acc ++ r.new_kinds) ++ kinds_of rs) k → new k ≡ key k = λ k i. s k (rw append_assoc at i) in
    let s₂ : (k : ℕ) → In (acc ++ r.new_kinds) k → new k ≡ key k = λ k i. s₁ k (in_left (acc ++ r.new_kinds) (kinds_of rs) k i) in (
      record {
        head = ch.0.head;
        even = record {
          fit = λ k i. rw (s₂ k i) (ch.0.even.fit k i);
          align = λ j k i i'. rw (s₂ j i, s₂ k i') (ch.0.even.align j k i i');
        };
        full = λ x w all k i. rw (s₂ k i) (ch.0.full x w (λ k' i'. rw (s₂ k' i') at (all k' i')) k i);
      },
      ch.1,
      chain_other key new W (acc ++ r.new_kinds) rs s₁ ch.2,
    )

pub fams_other : (key new : ℕ → List Entity) (W : Entity → Type 0) (fs : List Family) → ((k : ℕ) → In (all_kinds (fam_kinds fs)) k → new k ≡ key k) → FamsFor key W fs → FamsFor new W fs
fams_other key new W [] s fm = tt
fams_other key new W (f ∷ fs) s fm = (
  chain_other key new W [] f (λ k i. s k (in_left (kinds_of f) (all_kinds (fam_kinds fs)) k i)) fm.0,
  fams_other key new W fs (λ k i. s k (in_right (kinds_of f) (all_kinds (fam_kinds fs)) k i)) fm.1,
)

-- ---- the components go in

-- what putting components of entity e does to the sparse sets
pub record Put (e : Entity) (ks : List ℕ) (key new : ℕ → List Entity) : Type 0 where
  pub counts : (x : Entity) → But e x → (k : ℕ) → cnt x (new k) ≡ cnt x (key k)
  pub firsts : (h k : ℕ) → h ≤ length (key k) → take h (new k) ≡ take h (key k)
  pub longer : (k : ℕ) → length (key k) ≤ length (new k)
  pub once : (k : ℕ) → cnt e (key k) ≤ 1 → cnt e (new k) ≤ 1
  pub other : (k : ℕ) → mem k ks ≡ false → new k ≡ key k

keys_put : (e : Entity) (v : ℕ) (rows : SparseSet) → keys (insert_row e v rows) ≡ cond (held e rows) (keys rows) (keys rows ++ (e ∷ []))
keys_put e v rows = go (held e rows) refl
  where
    go : (b : Bool) → held e rows ≡ b → keys (cond b (set rows (at e rows) (record { entity = e; value = v })) (rows ++ (record { entity = e; value = v } ∷ []))) ≡ cond b (keys rows) (keys rows ++ (e ∷ []))
    go true t =
        let p : plc e (keys rows) < length (keys rows) = rw (length-map rows entity_of) (ltb-true _ _ t) in
        map_set entity_of rows (at e rows) (record { entity = e; value = v })
        ∙ ap (λ (y : Entity). set (keys rows) (plc e (keys rows)) y) (sym (get_d_place same_entity entity_eq e no_entity (keys rows) p))
        ∙ set-get_or (keys rows) (plc e (keys rows)) no_entity
    go false t = map_append entity_of rows (record { entity = e; value = v } ∷ [])

-- a sparse set stays, or the entity is appended where it was missing
abbrev Which : Entity → List Entity → List Entity → Type 0
Which e l m = (m ≡ l) ⊎ ((cnt e l ≡ 0) × (m ≡ l ++ (e ∷ [])))

put_of : (e : Entity) (ks : List ℕ) (key new : ℕ → List Entity) → ((k : ℕ) → Which e (key k) (new k)) → ((k : ℕ) → mem k ks ≡ false → new k ≡ key k) → Put e ks key new
put_of e ks key new w o =
    record {
      counts = λ x ne k. ⊎_elim (λ p. ap (cnt x) p) (λ (p : (cnt e (key k) ≡ 0) × (new k ≡ key k ++ (e ∷ []))). ap (cnt x) p.1 ∙ count_append same_entity x (key k) (e ∷ []) ∙ rw ne (omega arith)) (w k);
      firsts = λ h k le. ⊎_elim (λ p. rw p) (λ p. rw p.1 (take-append-le h (key k) (e ∷ []) le)) (w k);
      longer = λ k. ⊎_elim (λ p. rw p (omega arith)) (λ p. rw (p.1, length-append) (omega arith)) (w k);
      once = λ k le. ⊎_elim (λ p. rw p le) (λ p. rw (p.1, count_append, entity_same e) (omega (arith, p.0))) (w k);
      other = o;
    }

put_row : (e : Entity) (v : ℕ) (sets : List SparseSet) (k : ℕ) → Which e (key sets k) (keys (insert_row e v (set_of sets k)))
put_row e v sets k =
    bool_cases (held e (set_of sets k))
    (λ t. inl (keys_put e v (set_of sets k) ∙ rw t))
    (λ t. inr (lacks_count e sets k t, keys_put e v (set_of sets k) ∙ rw t))

-- one component
put_one : (e : Entity) (p : Component) (sets : List SparseSet) → p.kind < length sets → Put e (p.kind ∷ []) (key sets) (key (set sets p.kind (insert_row e p.value (set_of sets p.kind))))
put_one e p sets lt =
    put_of e (p.kind ∷ []) (key sets) new
    (λ k. go k (ℕ_discrete k p.kind))
    (λ k n. kept k (λ q. true≢false (sym (rw (eq-eqb k p.kind q)) ∙ n)))
  where
    new : ℕ → List Entity
    new = key (set sets p.kind (insert_row e p.value (set_of sets p.kind)))

    kept : (k : ℕ) → (k ≡ p.kind → ⊥) → new k ≡ key sets k
    kept k ne = ap keys (get_or-set_other sets p.kind k (insert_row e p.value (set_of sets p.kind)) [] ne)

    go : (k : ℕ) → Dec (k ≡ p.kind) → Which e (key sets k) (new k)
    go k (yes q) = rw (q, get_or-set_same sets p.kind (insert_row e p.value (set_of sets p.kind)) [] lt) (put_row e p.value sets p.kind)
    go k (no q) = inl (kept k q)

put_trans : {e : Entity} {a b : List ℕ} {key mid new : ℕ → List Entity} → Put e a key mid → Put e b mid new → Put e (a ++ b) key new
put_trans {a} {b} p q =
    record {
      counts = λ x ne k. q.counts x ne k ∙ p.counts x ne k;
      firsts = λ h k le. q.firsts h k (omega (arith, p.longer k)) ∙ p.firsts h k le;
      longer = λ k. omega (arith, p.longer k, q.longer k);
      once = λ k le. q.once k (p.once k le);
      other = λ k n.
          let n' = sym (mem_append k a b) ∙ n in
          q.other k (or_false_right (mem k a) (mem k b) n') ∙ p.other k (or_false (mem k a) (mem k b) n');
    }

abbrev pub Kinds : ℕ → List Component → Type 0
Kinds n [] = Unit {0}
Kinds n (p ∷ ps) = (p.kind < n) × Kinds n ps

pub put_all : (e : Entity) (staged : List Component) (sets : List SparseSet) → Kinds (length sets) staged → Put e (map kind_of staged) (key sets) (key (insert_all e staged sets))
put_all e [] sets lt =
    record { counts = λ x ne k. refl; firsts = λ h k le. refl; longer = λ k. omega arith; once = λ k le. le; other = λ k n. refl }
put_all e (p ∷ ps) sets lt =
    let next : List SparseSet = set sets p.kind (insert_row e p.value (set_of sets p.kind)) in
    put_trans (put_one e p sets lt.0) (put_all e ps next (rw (length-set sets p.kind (insert_row e p.value (set_of sets p.kind))) lt.1))

-- a right family is right for the other entities after it
pub chain_put : (e : Entity) (ks : List ℕ) (key new : ℕ → List Entity) → Put e ks key new → (acc : List ℕ) (rs : Family) → Chain key Every acc rs → Chain new (But e) acc rs
chain_put e ks key new p acc [] ch = tt
chain_put e ks key new p acc (r ∷ rs) ch =
    let g : List ℕ = acc ++ r.new_kinds in
    let t : (k : ℕ) → In (acc ++ r.new_kinds) k → take r.count (new k) ≡ take r.count (key k) = λ k i. p.firsts r.count k (ch.0.even.fit k i) in (
      record {
        head = ch.0.head;
        even = record {
          fit = λ k i. omega (arith, ch.0.even.fit k i, p.longer k);
          align = λ j k i i'. t j i ∙ ch.0.even.align j k i i' ∙ sym (t k i');
        };
        full = λ x ne all k i. rw (t k i) (ch.0.full x tt (λ k' i'. rw (p.counts x ne k') at (all k' i')) k i);
      },
      ch.1,
      chain_put e ks key new p (acc ++ r.new_kinds) rs ch.2,
    )

pub fams_put : (e : Entity) (ks : List ℕ) (key new : ℕ → List Entity) → Put e ks key new → (fs : List Family) → Fams key fs → FamsFor new (But e) fs
fams_put e ks key new p [] fm = tt
fams_put e ks key new p (f ∷ fs) fm = (chain_put e ks key new p [] f fm.0, fams_put e ks key new p fs fm.1)

-- ---- all families are walked

-- before the walk: right for the other entities where the staged components have a kind of the family, else right for all
abbrev pub Pending : Entity → List ℕ → (ℕ → List Entity) → List Family → Type 0
Pending e ks key [] = Unit {0}
Pending e ks key (f ∷ fs) = (meets ks (kinds_of f) ≡ true → Chain key (But e) [] f) × (meets ks (kinds_of f) ≡ false → Chain key Every [] f) × Pending e ks key fs

pub record UpAll (sets : List SparseSet) (fs : List Family) (p : Storage) : Type 0 where
  pub same : SameEntities (key sets) (key p.sets)
  pub fams : Fams (key p.sets) p.layout
  pub other : (k : ℕ) → mem k (all_kinds (fam_kinds fs)) ≡ false → key p.sets k ≡ key sets k
  pub kinds : fam_kinds p.layout ≡ fam_kinds fs

pending_other : (e : Entity) (ks : List ℕ) (key new : ℕ → List Entity) (fs : List Family) → ((k : ℕ) → In (all_kinds (fam_kinds fs)) k → new k ≡ key k) → Pending e ks key fs → Pending e ks new fs
pending_other e ks key new [] s p = tt
pending_other e ks key new (f ∷ fs) s p =
    let s₁ : (k : ℕ) → In (kinds_of f) k → new k ≡ key k = λ k i. s k (in_left (kinds_of f) (all_kinds (fam_kinds fs)) k i) in (
      (λ m. chain_other key new (But e) [] f s₁ (p.0 m)),
      (λ m. chain_other key new Every [] f s₁ (p.1 m)),
      pending_other e ks key new fs (λ k i. s k (in_right (kinds_of f) (all_kinds (fam_kinds fs)) k i)) p.2,
    )

module _ (e : Entity) (ks : List ℕ) where
  pub group_family_all_good : (sets : List SparseSet) (fs : List Family) → Apart (fam_kinds fs) → Pending e ks (key sets) fs → UpAll sets fs (group_touched e ks sets fs)
  unfolding group_touched
  group_family_all_good sets [] ap pd = record { same = record { entities = λ x k. refl; lengths = λ k. refl }; fams = tt; other = λ k n. refl; kinds = refl }
  group_family_all_good sets (f ∷ fs) ap pd =
      cond_case (UpAll sets (f ∷ fs)) (meets ks (kinds_of f)) _ _
      (on (group_family_all_good (group_family e [] sets f).sets fs ap.1))
      (off (group_family_all_good sets fs ap.1 pd.2))
    where
      K : List ℕ
      K = all_kinds (fam_kinds fs)

      w : Walked
      w = group_family e [] sets f

      on : (Pending e ks (key w.sets) fs → UpAll w.sets fs (group_touched e ks w.sets fs)) → meets ks (kinds_of f) ≡ true → UpAll sets (f ∷ fs) (record { sets = (group_touched e ks w.sets fs).sets; layout = w.groups ∷ (group_touched e ks w.sets fs).layout })
      on rec m =
          let U : Up (But e) e [] sets f w = group_family_good (But e) e [] sets f (λ k i. absurd (false≢true i)) (pd.0 m) in
          let pd' : Pending e ks (key w.sets) fs = pending_other e ks (key sets) (key w.sets) fs (λ k i. U.other k (not_both (kinds_of f) K k (ap.0 k) i)) pd.2 in
          let R = rec pd' in
          record {
            same = record { entities = λ x k. R.same.entities x k ∙ U.same.entities x k; lengths = λ k. R.same.lengths k ∙ U.same.lengths k };
            fams = (chain_other (key w.sets) (key (group_touched e ks w.sets fs).sets) Every [] w.groups (λ k i. R.other k (ap.0 k (rw U.kinds at i))) (chain_weaken (key w.sets) Every (Plus (But e) e) (λ x t. either e x) [] w.groups U.chain), R.fams);
            other = λ k n.
                let n' = sym (mem_append k (kinds_of f) K) ∙ n in
                R.other k (or_false_right (mem k (kinds_of f)) (mem k K) n') ∙ U.other k (or_false (mem k (kinds_of f)) (mem k K) n');
            kinds = ap₂ {C = List (List ℕ)} (λ x xs. x ∷ xs) U.kinds R.kinds;
          }

      off : UpAll sets fs (group_touched e ks sets fs) → meets ks (kinds_of f) ≡ false → UpAll sets (f ∷ fs) (record { sets = (group_touched e ks sets fs).sets; layout = f ∷ (group_touched e ks sets fs).layout })
      off R m =
          record {
            same = R.same;
            fams = (chain_other (key sets) (key (group_touched e ks sets fs).sets) Every [] f (λ k i. R.other k (ap.0 k i)) (pd.1 m), R.fams);
            other = λ k n. R.other k (or_false_right (mem k (kinds_of f)) (mem k K) (sym (mem_append k (kinds_of f) K) ∙ n));
            kinds = ap₂ {C = List (List ℕ)} (λ x xs. x ∷ xs) refl R.kinds;
          }
