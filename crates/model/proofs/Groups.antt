-- One group's swap, over any family of sparse sets: `key k` are the entities of kind k's sparse set, in order. Assumes nothing.
use mathlib.Core.Path.{◌≡◌, ap, sym, ◌∙◌}
use mathlib.Core.Bool.{false}
use mathlib.Core.List.{List, [], ◌∷◌, ◌++◌}
use Prim.Native.Nat.{ℕ, suc, ◌+◌, ◌≤◌, ◌<◌}
use native.Mathlib.Omega.{arith}
use lib.ListN.{length, take, get_or, set}
use lib.Seq.{length-take-le, take-take, take-suc, get_or-set_same, lt-length-set}
use Rattle.model.specs.Lists.{swap, place, one}
use Rattle.model.proofs.ListLaws.{length_swap, take_swap_lt, take_swap_le, take_suc_swap, count_append, count_swap, place_take, count_place, count_take_place, count_take_le, get_d_place}
use Rattle.model.specs.Model.{Entity, same_entity, no_entity, mem}
use Rattle.model.specs.Sound.{cnt, In}
use Rattle.model.proofs.SparseSets.{entity_eq, entity_same}
use Rattle.model.proofs.BoolLaws.{bool_cases}

abbrev pub plc : Entity → List Entity → ℕ
plc x l = place same_entity x l

-- the first c places of every sparse set of ks hold the same entity at the same place
pub record Even (key : ℕ → List Entity) (ks : List ℕ) (c : ℕ) : Type 0 where
  pub fit : (k : ℕ) → In ks k → c ≤ length (key k)
  pub align : (j k : ℕ) → In ks j → In ks k → take c (key j) ≡ take c (key k)

-- x stands in the first c places of every sparse set of ks, if it stands in every sparse set of ks
abbrev pub Full : (ℕ → List Entity) → List ℕ → ℕ → Entity → Type 0
Full key ks c x = ((k : ℕ) → In ks k → 1 ≤ cnt x (key k)) → (k : ℕ) → In ks k → 1 ≤ cnt x (take c (key k))

abbrev pub Inside : (ℕ → List Entity) → List ℕ → ℕ → Entity → Type 0
Inside key ks c x = (k : ℕ) → In ks k → 1 ≤ cnt x (take c (key k))

-- the sparse sets of g have the entity e swapped to place c; the others are as they were
pub record Swapped (e : Entity) (g : List ℕ) (c : ℕ) (key new : ℕ → List Entity) : Type 0 where
  pub done : (k : ℕ) → In g k → new k ≡ swap no_entity (plc e (key k)) c (key k)
  pub kept : (k : ℕ) → mem k g ≡ false → new k ≡ key k

-- what holds of the sparse sets whose first h places are as they were, and which hold the same entities
pub record SameEntities (key new : ℕ → List Entity) : Type 0 where
  pub entities : (x : Entity) (k : ℕ) → cnt x (new k) ≡ cnt x (key k)
  pub lengths : (k : ℕ) → length (new k) ≡ length (key k)

module _ {key new : ℕ → List Entity} (ks : List ℕ) (h : ℕ) where
  pub even_kept : SameEntities key new → ((k : ℕ) → In ks k → take h (new k) ≡ take h (key k)) → Even key ks h → Even new ks h
  even_kept s t v =
      record {
        fit = λ k i. rw (s.lengths k) (v.fit k i);
        align = λ j k i i'. t j i ∙ v.align j k i i' ∙ sym (t k i');
      }

  pub full_kept : (x : Entity) → SameEntities key new → ((k : ℕ) → In ks k → cnt x (take h (new k)) ≡ cnt x (take h (key k))) → Full key ks h x → Full new ks h x
  full_kept x s t f all k i = rw (t k i) (f (λ k' i'. rw (s.entities x k') at (all k' i')) k i)

-- a swap to place q, at or below which each sparse set of g goes on
module _ {e : Entity} {g : List ℕ} {q : ℕ} {key new : ℕ → List Entity}
    (s : Swapped e g q key new)
    (held : (k : ℕ) → In g k → 1 ≤ cnt e (key k))
    (room : (k : ℕ) → In g k → q < length (key k)) where
  pub same_entities : SameEntities key new
  same_entities =
      record {
        entities = λ x k. bool_cases (mem k g) (λ t. rw (s.done k t) (count_swap same_entity x no_entity _ q (key k) (count_place same_entity e (key k) (held k t)) (room k t))) (λ t. rw (s.kept k t));
        lengths = λ k. bool_cases (mem k g) (λ t. rw (s.done k t) (length_swap no_entity _ q (key k))) (λ t. rw (s.kept k t));
      }

  -- the first h places, where the entity and q are past them
  pub low : (h : ℕ) → h ≤ q → ((k : ℕ) → In g k → h ≤ plc e (key k)) → (k : ℕ) → take h (new k) ≡ take h (key k)
  low h le out k =
      bool_cases (mem k g) (λ t. rw (s.done k t) (take_swap_le no_entity h _ q (key k) (out k t) le)) (λ t. rw (s.kept k t))

  -- the first h places, where the entity and q are among them: a group of sparse sets of g stays even
  module _ {ks : List ℕ} {h : ℕ} (sub : (k : ℕ) → In ks k → In g k) (v : Even key ks h) (ins : Inside key ks h e) (qh : (k : ℕ) → In ks k → q < h) where
    inner : (k : ℕ) → In ks k → take h (new k) ≡ swap no_entity (plc e (take h (key k))) q (take h (key k))
    inner k t =
        let p = count_take_place same_entity e h (key k) (ins k t) in
        rw (s.done k (sub k t)) (take_swap_lt no_entity h _ q (key k) p (qh k t) ∙ rw (place_take same_entity e h (key k) p))

    pub inner_even : Even new ks h
    inner_even =
        record {
          fit = λ k t. rw (same_entities.lengths k) (v.fit k t);
          align = λ j k t t'. inner j t ∙ ap (λ (l : List Entity). swap no_entity (plc e l) q l) (v.align j k t t') ∙ sym (inner k t');
        }

    pub inner_count : (x : Entity) (k : ℕ) → In ks k → cnt x (take h (new k)) ≡ cnt x (take h (key k))
    inner_count x k t =
        let n = length-take-le h (key k) (v.fit k t) in
        rw (inner k t)
        (count_swap same_entity x no_entity _ q (take h (key k)) (count_place same_entity e (take h (key k)) (ins k t)) (omega (arith, qh k t)))

    pub inner_full : (x : Entity) → Full key ks h x → Full new ks h x
    inner_full x f = full_kept ks h x same_entities (inner_count x) f

    pub inner_is_grouped : Inside new ks h e
    inner_is_grouped k t = rw (inner_count e k t) (ins k t)

  -- the entity comes in: it was past the first q places of g
  module _ (out : (k : ℕ) → In g k → q ≤ plc e (key k)) where
    grown : (k : ℕ) → In g k → take (suc q) (new k) ≡ take q (key k) ++ (e ∷ [])
    grown k t =
        let p = count_place same_entity e (key k) (held k t) in
        rw (s.done k t) (take_suc_swap no_entity q _ (key k) (out k t) p ∙ rw (get_d_place same_entity entity_eq e no_entity (key k) p))

    pub grown_even : Even key g q → Even new g (suc q)
    grown_even v =
        record {
          fit = λ k t. rw (same_entities.lengths k) (room k t);
          align = λ j k t t'. grown j t ∙ ap {B = List Entity} (λ l. l ++ (e ∷ [])) (v.align j k t t') ∙ sym (grown k t');
        }

    pub grown_full : (x : Entity) → Full key g q x → Full new g (suc q) x
    grown_full x f all k t =
        let h = f (λ k' t'. rw (same_entities.entities x k') at (all k' t')) k t in
        rw (grown k t, count_append) (omega arith)

    pub grown_is_grouped : Inside new g (suc q) e
    grown_is_grouped k t = rw (grown k t, count_append, entity_same e) (omega arith)

  -- the entity goes out: it was among the first q + 1 places of g
  module _ (v : Even key g (suc q)) (ins : Inside key g (suc q) e) where
    ends : (k : ℕ) → In g k → take (suc q) (new k) ≡ take q (new k) ++ (e ∷ [])
    ends k t =
        let p = count_place same_entity e (key k) (held k t) in
        let l : q < length (new k) = rw (same_entities.lengths k) (room k t) in
        let m : q < length (set (key k) (plc e (key k)) (get_or (key k) q no_entity)) = lt-length-set (key k) _ _ (room k t) in
        take-suc (new k) q no_entity l
        ∙ ap (λ (x : Entity). take q (new k) ++ (x ∷ []))
        (ap (λ (l : List Entity). get_or l q no_entity) (s.done k t) ∙ get_or-set_same (set (key k) (plc e (key k)) (get_or (key k) q no_entity)) q (get_or (key k) (plc e (key k)) no_entity) no_entity m ∙ get_d_place same_entity entity_eq e no_entity (key k) p)

    pub shrunk_even : Even new g q
    shrunk_even =
        let w : Even new g (suc q) = inner_even {ks = g} {h = suc q} (λ k t. t) v ins (λ k t. omega arith) in
        record {
          fit = λ k t. omega (arith, w.fit k t);
          align = λ j k t t'. sym (take-take q (suc q) (new j) (omega arith)) ∙ ap (λ (l : List Entity). take q l) (w.align j k t t') ∙ take-take q (suc q) (new k) (omega arith);
        }

    shrunk_count : (x : Entity) (k : ℕ) → In g k → cnt x (take q (new k)) + one (same_entity x e) ≡ cnt x (take (suc q) (key k))
    shrunk_count x k t =
        let a = inner_count {ks = g} {h = suc q} (λ k t. t) v ins (λ k t. omega arith) x k t in
        let b = ap (cnt x) (ends k t) ∙ count_append same_entity x (take q (new k)) (e ∷ []) in
        omega arith

    pub shrunk_full : (x : Entity) → same_entity x e ≡ false → Full key g (suc q) x → Full new g q x
    shrunk_full x ne f all k t =
        let h = f (λ k' t'. rw (same_entities.entities x k') at (all k' t')) k t in
        let c = rw ne at (shrunk_count x k t) in
        omega arith

    -- no entity stands twice in a sparse set, so it is past them now
    pub shrunk_out : ((k : ℕ) → In g k → cnt e (key k) ≤ 1) → (k : ℕ) → In g k → cnt e (take q (new k)) ≡ 0
    shrunk_out once k t =
        let c = rw (entity_same e) at (shrunk_count e k t) in
        omega (arith, count_take_le same_entity e (suc q) (key k), once k t)
