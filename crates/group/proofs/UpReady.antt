-- What the steps of the walk upward need holds where the groups' first places are even; for insertion. Assumes nothing.
use mathlib.Core.Path.{◌≡◌, refl, ◌∙◌}
use mathlib.Core.Bool.{Bool, true, false, false≢true}
use mathlib.Core.List.{List, [], ◌∷◌, ◌++◌, map}
use Prim.Native.Nat.{ℕ, suc, ◌≤◌}
use borrow.Author.Tests.{lt-ltb, le-ltb}
use lib.ListN.{length}
use Rattle.model.specs.Model.{Entity, SparseSet, Group, Family, Component, Storage, meets, on_kinds, swap_to, is_grouped, head_kind, kinds_of, kind_of, insert_all, group_family}
use Rattle.model.proofs.Walk.{GroupRight, Chain, But, Entered, enters, enters_room, holds_more, chain_low, Up, group_family_good, count_held}
use Rattle.model.proofs.KindLists.{in_left, in_right, not_both}
use Rattle.model.proofs.Families.{all_kinds, fam_kinds, chain_other, put_all, fams_put, Apart, FamsFor, Kinds}
use Rattle.model.proofs.Invariant.{Fit}
use Rattle.model.specs.Sound.{key, cnt, In}
use Rattle.group.specs.declared.group_status.GroupStatus.{GroupStatus}
use Rattle.group.specs.Flat.{located, with_count, positions_where, insert_positions}
use Rattle.group.specs.Ready.{Swappable, ReadyIn, ReadyUp}
use Rattle.group.proofs.Fronts.{whole, here}
use Rattle.group.proofs.Upward.{Stepwise, Climb, where_climbs}

abbrev pub Asked : Entity → GroupStatus → ℕ → Storage → Type 0 → Type 0
Asked e t g s A = ReadyIn t e (located s.layout g) s.sets × A

pub ready_steps : (e : Entity) → Stepwise (Type 0) e (Asked e) (ReadyUp e)
unfolding ReadyUp
ready_steps e =
    record {
      none = λ skip s. refl;
      pass = λ skip g ps s h. rw (lt-ltb g skip h);
      on = λ skip g ps s h t q. rw (le-ltb g skip h, q);
    }

-- ---- a family whose groups hold the same entities in their first places

module _ (W : Entity → Type 0) (e : Entity) where
  -- a group that the entity is brought into
  module _ (acc : List ℕ) (r : Group) (sets : List SparseSet)
      (has : (k : ℕ) → In (acc ++ r.new_kinds) k → 1 ≤ cnt e (key sets k))
      (ri : GroupRight (key sets) W (acc ++ r.new_kinds) r)
      (out : is_grouped e r sets ≡ false) where
    head : In (acc ++ r.new_kinds) (head_kind r.new_kinds)
    head = in_right acc r.new_kinds (head_kind r.new_kinds) ri.head

    entered : Entered W e acc (acc ++ r.new_kinds) r sets (record { sets = on_kinds (acc ++ r.new_kinds) (swap_to e r.count) sets; group = with_count (suc r.count) r })
    entered = enters W e acc r sets head has ri.even ri.full out

    swappable : Swappable e (acc ++ r.new_kinds) r.count sets
    swappable =
        record {
          holds = λ k i. count_held e sets k (has k i);
          room = enters_room W e acc r sets head has ri.even ri.full out;
        }

  -- the entity holds the kinds of the group before, and the groups are right for the entities of W
  abbrev pub Rests : List SparseSet → List ℕ → Family → Type 0
  Rests sets acc rs = ((k : ℕ) → In acc k → 1 ≤ cnt e (key sets k)) × Chain (key sets) W acc rs

  ready_climb : Climb (Type 0) e (Asked e) (λ x y. y → x) Rests
  ready_climb =
      record {
        same = λ x y. y;
        both = λ f g z. f (g z);
        left = λ g s f y. (tt, f y);
        inside = λ place g s f y. (tt, f y);
        enters = λ {x} {y} {acc} H sets r rs fits c a b f z. (rw (here H r rs fits) (swappable acc r sets (holds_more e acc sets r c.0 a) c.1.0 b), f z);
        past = λ acc sets r rs c a. (holds_more e acc sets r c.0 a, c.1.2);
        moved = λ acc sets r rs c a b.
            let E = entered acc r sets (holds_more e acc sets r c.0 a) c.1.0 b in
            ((λ k i. rw (E.same.entities e k) (holds_more e acc sets r c.0 a k i)), chain_low W r.count E.same E.lower (acc ++ r.new_kinds) rs c.1.1 c.1.2);
      }

-- ---- all families

pub ready_where : (t : Family → Bool) (W : Entity → Type 0) (e : Entity) (s : Storage) → Apart (fam_kinds s.layout) → FamsFor (key s.sets) W s.layout → ReadyUp e 0 (positions_where (λ f ks. t f) 0 s.layout) s
unfolding ReadyUp
ready_where t W e s apart fams = where_climbs (ready_steps e) (ready_climb W e) t Ahead on off whole s.sets s.layout (apart, fams, λ k i. refl) tt
  where
    -- the families fs are right for the entities of W, and their sparse sets as they were
    Ahead : List SparseSet → List Family → Type 0
    Ahead sets fs = Apart (fam_kinds fs) × FamsFor (key s.sets) W fs × ((k : ℕ) → In (all_kinds (fam_kinds fs)) k → key sets k ≡ key s.sets k)

    on : (sets : List SparseSet) (f : Family) (fs : List Family) → Ahead sets (f ∷ fs) → t f ≡ true → Rests W e sets [] f × Ahead (group_family e [] sets f).sets fs
    on sets f fs a m =
        let none : (k : ℕ) → In [] k → 1 ≤ cnt e (key sets k) = λ k i. absurd (false≢true i) in
        let ch : Chain (key sets) W [] f = chain_other (key s.sets) (key sets) W [] f (λ k i. a.2 k (in_left (kinds_of f) (all_kinds (fam_kinds fs)) k i)) a.1.0 in
        let U : Up W e [] sets f (group_family e [] sets f) = group_family_good W e [] sets f none ch in
        ((none, ch), (a.0.1, a.1.1, λ k i. U.other k (not_both (kinds_of f) (all_kinds (fam_kinds fs)) k (a.0.0 k) i) ∙ a.2 k (in_right (kinds_of f) (all_kinds (fam_kinds fs)) k i)))

    off : (sets : List SparseSet) (f : Family) (fs : List Family) → Ahead sets (f ∷ fs) → Ahead sets fs
    off sets f fs a = (a.0.1, a.1.1, λ k i. a.2 k (in_right (kinds_of f) (all_kinds (fam_kinds fs)) k i))

-- ---- insertion

-- all parts are in: the walk over the touched families can be made
pub ready_insert : (e : Entity) (staged : List Component) (p : Storage) → Kinds (length p.sets) staged → Fit p
    → ReadyUp e 0 (insert_positions (map kind_of staged) p.layout) (record { sets = insert_all e staged p.sets; layout = p.layout })
ready_insert e staged p lt f =
    ready_where (λ h. meets (map kind_of staged) (kinds_of h)) (But e) e (record { sets = insert_all e staged p.sets; layout = p.layout }) f.apart
    (fams_put e (map kind_of staged) (key p.sets) (key (insert_all e staged p.sets)) (put_all e staged p.sets lt) p.layout f.fams)
