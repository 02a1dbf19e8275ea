-- Entities one after another over the same groups: what it is in the model, and the loop over the live list from a place on. Assumes nothing.
use mathlib.Core.Path.{◌≡◌, refl, ap, ap₂, sym, ◌∙◌, subst}
use mathlib.Core.Bool.{Bool}
use mathlib.Core.List.{List, [], ◌∷◌, ◌++◌, map}
use Prim.Native.Nat.{ℕ, ◌+◌, ◌≤◌, ◌<◌}
use native.Mathlib.Omega.{arith}
use lib.Dec.{ltb}
use lib.ListN.{length, get_or, drop, drop_of_length-le, length-map}
use Rattle.model.specs.Model.{Entity, Family, Storage, no_entity, zero_count, meets, kinds_of, groups_of, group_each, regroup}
use Rattle.model.specs.Store.{Store, on_storage}
use Rattle.model.proofs.BoolLaws.{bool_cases, cond_case}
use Rattle.model.proofs.Regroup.{zero_kinds}
use Rattle.model.proofs.Shape.{plain}
use Rattle.masks.specs.Masks.{up_from}
use Rattle.memory.specs.Meaning.{meaning}
use Rattle.memory.specs.Arranged.{Arranged, Becomes}
use Rattle.memory.proofs.Becomes.{stays}
use Rattle.group.specs.declared.group_status.GroupStatus.{GroupStatus}
use Rattle.group.specs.declared.group_status.GroupStatus.TheVariants.{Incomplete, Ungrouped, Grouped}
use Rattle.group.specs.Flat.{located, status_at, group_at, step_up, skip_after, walk_up, walk_each, passing, family_members, positions_where, insert_positions, all_positions}
use Rattle.group.specs.Ready.{ReadyUp, ReadyEach}
use Rattle.group.specs.Steps.{Below}
use Rattle.group.proofs.Counts.{plain_set, plain_groups}
use Rattle.group.proofs.Positions.{where_family, family_all, family_none}
use Rattle.group.proofs.Upward.{walk_touched, walk_all}
use Rattle.group.proofs.Storing.{SoFar, so_far_next, so_far_is, live_next}

-- ---- a walk changes counts alone, so that the positions stay

pub step_plain : (t : GroupStatus) (e : Entity) (g : ℕ) (s : Storage) → plain (step_up t e g s).layout ≡ plain s.layout
unfolding group_at
step_plain Incomplete e g s = refl
step_plain Ungrouped e g s = plain_set g ((located s.layout g).count + 1) s.layout
step_plain (Grouped place) e g s = refl

pub walk_plain : (e : Entity) (skip : ℕ) (ps : List ℕ) (s : Storage) → plain (walk_up e skip ps s).layout ≡ plain s.layout
unfolding walk_up
walk_plain e skip [] s = refl
walk_plain e skip (g ∷ ps) s =
    let t : GroupStatus = status_at e g s in
    cond_case (λ (x : Storage). plain x.layout ≡ plain s.layout) (ltb g skip) _ _
    (λ h. walk_plain e skip ps s)
    (λ h. walk_plain e (skip_after t (located s.layout g).top skip) ps (step_up t e g s) ∙ step_plain t e g s)

walk_groups : (e : Entity) (ps : List ℕ) (s : Storage) → groups_of (walk_up e 0 ps s).layout ≡ groups_of s.layout
walk_groups e ps s = plain_groups (walk_up e 0 ps s).layout s.layout (walk_plain e 0 ps s)

module _ (ks : List ℕ) where
  abbrev touched : Family → List ℕ → Bool
  touched f js = meets ks (kinds_of f)

  family_plain : (p : ℕ) (f : Family) → passing touched p (family_members (map zero_count f) [] (map zero_count f)) ≡ passing touched p (family_members f [] f)
  family_plain p f =
      let q : meets ks (kinds_of (map zero_count f)) ≡ meets ks (kinds_of f) = ap (meets ks) (zero_kinds f) in
      bool_cases (meets ks (kinds_of f))
      (λ h. family_all touched (map zero_count f) (λ js. q ∙ h) p [] (map zero_count f) ∙ ap (up_from p) (length-map f zero_count) ∙ sym (family_all touched f (λ js. h) p [] f))
      (λ h. family_none touched (map zero_count f) (λ js. q ∙ h) p [] (map zero_count f) ∙ sym (family_none touched f (λ js. h) p [] f))

  positions_plain : (p : ℕ) (fs : List Family) → positions_where touched p (plain fs) ≡ positions_where touched p fs
  positions_plain p [] = refl
  positions_plain p (f ∷ fs) =
      where_family touched p (map zero_count f) (plain fs)
      ∙ ap₂ (λ (a b : List ℕ). a ++ b) (family_plain p f) (ap (λ (n : ℕ). positions_where touched (p + n) (plain fs)) (length-map f zero_count) ∙ positions_plain (p + length f) fs)
      ∙ sym (where_family touched p f fs)

  pub touched_kept : (e : Entity) (ps : List ℕ) (s : Storage) → insert_positions ks (walk_up e 0 ps s).layout ≡ insert_positions ks s.layout
  touched_kept e ps s = sym (positions_plain 0 (walk_up e 0 ps s).layout) ∙ ap (positions_where touched 0) (walk_plain e 0 ps s) ∙ positions_plain 0 s.layout

pub all_kept : (e : Entity) (ps : List ℕ) (s : Storage) → all_positions (walk_up e 0 ps s).layout ≡ all_positions s.layout
all_kept e ps s = ap (up_from 0) (walk_groups e ps s)

-- ---- in the model

each_next : (e : Entity) (es : List Entity) (ps : List ℕ) (s : Storage) → walk_each (e ∷ es) ps s ≡ walk_each es ps (walk_up e 0 ps s)
unfolding walk_each
each_next e es ps s = refl

each_none : (ps : List ℕ) (s : Storage) → walk_each [] ps s ≡ s
unfolding walk_each
each_none ps s = refl

each_empty : (es : List Entity) (s : Storage) → walk_each es [] s ≡ s
unfolding walk_each walk_up
each_empty [] s = refl
each_empty (e ∷ es) s = each_empty es s

-- over no group nothing changes
pub none_grouped : (w ps : List ℕ) (es : List Entity) → Arranged w → ps ≡ [] → Becomes w w (on_storage (walk_each es ps) (meaning w))
none_grouped w ps es A q = subst (λ (x : Storage). Becomes w w (on_storage (λ (y : Storage). x) (meaning w))) (sym (ap (λ (l : List ℕ). walk_each es l (meaning w).storage) q ∙ each_empty es (meaning w).storage)) (stays A)

-- over the touched families
pub each_touched : (es : List Entity) (ks : List ℕ) (s : Storage) → walk_each es (insert_positions ks s.layout) s ≡ group_each es ks s
unfolding group_each
each_touched [] ks s = each_none (insert_positions ks s.layout) s
each_touched (e ∷ es) ks s =
    let ps : List ℕ = insert_positions ks s.layout in
    each_next e es ps s
    ∙ ap (λ (qs : List ℕ). walk_each es qs (walk_up e 0 ps s)) (sym (touched_kept ks e ps s))
    ∙ each_touched es ks (walk_up e 0 ps s)
    ∙ ap (group_each es ks) (walk_touched e ks s)

-- over all of them
pub each_all : (es : List Entity) (s : Storage) → walk_each es (all_positions s.layout) s ≡ regroup es s
unfolding regroup
each_all [] s = each_none (all_positions s.layout) s
each_all (e ∷ es) s =
    let ps : List ℕ = all_positions s.layout in
    each_next e es ps s
    ∙ ap (λ (qs : List ℕ). walk_each es qs (walk_up e 0 ps s)) (sym (all_kept e ps s))
    ∙ each_all es (walk_up e 0 ps s)
    ∙ ap (regroup es) (walk_all e s)

-- ---- the loop: of the live entities from place start on, those from place i on are left

pub record Grouping (w₀ ps : List ℕ) (start : ℕ) (w : List ℕ) (i : ℕ) : Type 0 where
  pub so_far : SoFar w₀ w
  pub still : walk_each (drop i (meaning w₀).entities.live) ps (meaning w).storage ≡ walk_each (drop start (meaning w₀).entities.live) ps (meaning w₀).storage
  pub ready : ReadyEach (drop i (meaning w₀).entities.live) ps (meaning w).storage
  pub below : Below ps (meaning w).storage

pub grouping_start : (w ps : List ℕ) (start : ℕ) → Arranged w → Below ps (meaning w).storage → ReadyEach (drop start (meaning w).entities.live) ps (meaning w).storage → Grouping w ps start w start
grouping_start w ps start A b r = record { so_far = stays A; still = refl; ready = r; below = b }

module _ (w₀ ps : List ℕ) (start : ℕ) (w : List ℕ) (i : ℕ) (G : Grouping w₀ ps start w i) where
  abbrev live : List Entity
  live = (meaning w₀).entities.live

  abbrev s : Storage
  s = (meaning w).storage

  module _ (e : Entity) (h : i < length live) (q : e ≡ get_or (meaning w).entities.live i no_entity) where
    left : drop i live ≡ e ∷ drop (i + 1) live
    left = live_next G.so_far i e h q

    next : ReadyUp e 0 ps s × ReadyEach (drop (i + 1) live) ps (walk_up e 0 ps s)
    unfolding ReadyEach
    next = rw left at G.ready

    pub grouping_ask : ReadyUp e 0 ps (meaning w).storage
    grouping_ask = next.0

    pub grouping_turn : (w' : List ℕ) → Becomes w w' (on_storage (walk_up e 0 ps) (meaning w)) → Grouping w₀ ps start w' (i + 1)
    grouping_turn w' C =
        let now : (meaning w').storage ≡ walk_up e 0 ps s = ap (λ (m : Store). m.storage) C.means in
        record {
          so_far = so_far_next G.so_far (walk_up e 0 ps) C;
          still = ap (walk_each (drop (i + 1) live) ps) now ∙ sym (each_next e (drop (i + 1) live) ps s) ∙ ap (λ (l : List Entity). walk_each l ps s) (sym left) ∙ G.still;
          ready = subst (ReadyEach (drop (i + 1) live) ps) (sym now) next.1;
          below = λ g t. omega (arith, G.below g t, ap (λ (x : Storage). groups_of x.layout) now, walk_groups e ps s);
        }

  pub grouping_end : length live ≤ i → Becomes w₀ w (on_storage (walk_each (drop start (meaning w₀).entities.live) ps) (meaning w₀))
  grouping_end h = so_far_is G.so_far _ (sym (each_none ps s) ∙ ap (λ (l : List Entity). walk_each l ps s) (sym (drop_of_length-le live {i = i} h)) ∙ G.still)
