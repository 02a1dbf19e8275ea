-- The walk downward over positions, highest first, is the model's walk, and what its steps need holds. Assumes nothing.
use mathlib.Core.Path.{◌≡◌, refl, ap, sym, ◌∙◌, subst}
use mathlib.Core.Bool.{Bool, true, false, true≢false}
use mathlib.Core.List.{List, [], ◌∷◌, ◌++◌, reverse, reverse-cons, reverse-append}
use Prim.Native.Nat.{ℕ, suc, ◌+◌, ◌-◌, ◌≤◌, ◌<◌}
use native.Mathlib.Omega.{arith}
use borrow.Author.Tests.{ltb-true}
use lib.ListN.{length, take, length-map}
use Rattle.model.proofs.ListLaws.{place_take, place_count_take, count_take_place, count_take_le}
use Rattle.model.specs.Model.{Entity, SparseSet, Group, Family, Storage, Walked, GroupStep, same_entity, meets, set_of, keys, entity_of, at, held, on_kinds, swap_to, all_held, is_grouped, head_kind, kinds_of, groups_of, ungroup_components, ungroup_family, ungroup}
use Rattle.model.specs.Sound.{layout_kinds, key, cnt, In}
use Rattle.model.proofs.BoolLaws.{cond_case, bool_cases}
use Rattle.model.proofs.Groups.{plc, Even, SameEntities}
use Rattle.model.proofs.Walk.{Chain, Every, count_held}
use Rattle.model.proofs.KindLists.{in_right, Missing, all_missing}
use Rattle.model.proofs.WalkDown.{Held, Down, ungroup_family_good}
use Rattle.model.proofs.Families.{Fams, Apart, fam_kinds, chain_other}
use Rattle.model.proofs.Invariant.{Fit}
use Rattle.masks.specs.Masks.{up_from}
use Rattle.group.specs.declared.group_status.GroupStatus.{GroupStatus}
use Rattle.group.specs.declared.group_status.GroupStatus.TheVariants.{Incomplete, Ungrouped, Grouped}
use Rattle.group.specs.Flat.{located, with_count, status_at, step_down, walk_down, family_members, passing, positions_where, delete_positions}
use Rattle.group.specs.Ready.{StandsAt, ReadyOut, ReadyDown}
use Rattle.group.proofs.Fronts.{Front, whole, past, Hole, opened, next, here}
use Rattle.group.proofs.Upward.{grouped_here, ungrouped_here, incomplete_here, ungroup_here, at_hole, at_front}
use Rattle.group.proofs.Commute.{headed_all, ungroup_back, commutes, back_other}
use Rattle.group.proofs.Positions.{where_family}
use Rattle.group.proofs.KindPositions.{delete_all}

-- ---- one step, and one list after another

module _ (e : Entity) where
  down_append : (ps qs : List ℕ) (s : Storage) → walk_down e (ps ++ qs) s ≡ walk_down e qs (walk_down e ps s)
  unfolding walk_down
  down_append [] qs s = refl
  down_append (g ∷ ps) qs s = down_append ps qs (step_down (status_at e g s) e g s)

  ready_append : (ps qs : List ℕ) (s : Storage) → ReadyDown e ps s → ReadyDown e qs (walk_down e ps s) → ReadyDown e (ps ++ qs) s
  unfolding walk_down ReadyDown
  ready_append [] qs s a b = b
  ready_append (g ∷ ps) qs s a b = (a.0, ready_append ps qs (step_down (status_at e g s) e g s) a.1 b)

  -- ---- what a walk does

  record Goes (ps : List ℕ) (s t : Storage) : Type 0 where
    pub walks : walk_down e ps s ≡ t
    pub ready : ReadyDown e ps s

  goes_none : (s : Storage) → Goes [] s s
  unfolding walk_down ReadyDown
  goes_none s = record { walks = refl; ready = tt }

  goes_then : {ps qs : List ℕ} {s t u : Storage} → Goes ps s t → Goes qs t u → Goes (ps ++ qs) s u
  goes_then {ps} {qs} {s} a b =
      record {
        walks = down_append ps qs s ∙ ap (walk_down e qs) a.walks ∙ b.walks;
        ready = ready_append ps qs s a.ready (rw a.walks b.ready);
      }

  goes_one : (g : ℕ) (s : Storage) (t : GroupStatus) → status_at e g s ≡ t → ReadyOut t e (located s.layout g) s.sets → Goes (g ∷ []) s (step_down t e g s)
  unfolding walk_down ReadyDown
  goes_one g s t q r = record { walks = rw q; ready = rw q (r, tt) }

  -- ---- a group

  module _ {acc : List ℕ} {first top p : ℕ} (H : Hole acc first top p) (sets : List SparseSet) (r : Group) (rs : Family) (fits : p + suc (length rs) ≡ top)
      (head : In r.new_kinds (head_kind r.new_kinds))
      (even : Even (key sets) (acc ++ r.new_kinds) r.count) where
    abbrev g : List ℕ
    g = acc ++ r.new_kinds

    abbrev S : Storage
    S = record { sets = sets; layout = H.build (r ∷ rs) }

    abbrev hd : ℕ
    hd = head_kind r.new_kinds

    hd_in : In g hd
    hd_in = in_right acc r.new_kinds hd head

    -- inside, it is in the first places of every kind of the group
    among : is_grouped e r sets ≡ true → (k : ℕ) → In g k → 1 ≤ cnt e (take r.count (key sets k))
    among b k i =
        let lt : plc e (key sets hd) < r.count = ltb-true _ _ b in
        let one = place_count_take same_entity e r.count (key sets hd) lt (even.fit hd hd_in) in
        let same = ap (cnt e) (even.align k hd i hd_in) in
        omega arith

    held_inside : is_grouped e r sets ≡ true → (k : ℕ) → In g k → held e (set_of sets k) ≡ true
    held_inside b k i = count_held e sets k (omega (arith, among b k i, count_take_le same_entity e r.count (key sets k)))

    -- and at one place
    stands : is_grouped e r sets ≡ true → StandsAt e g (at e (set_of sets hd)) sets
    stands b k i =
        let lt : plc e (key sets hd) < r.count = ltb-true _ _ b in
        sym (place_take same_entity e r.count (key sets k) (count_take_place same_entity e r.count (key sets k) (among b k i)))
        ∙ ap (plc e) (even.align k hd i hd_in)
        ∙ place_take same_entity e r.count (key sets hd) lt

    all_held_law : is_grouped e r sets ≡ true → all_held e r.new_kinds sets ≡ true
    all_held_law b =
        bool_cases (all_held e r.new_kinds sets) (λ a. a)
        (λ a.
        let m : Missing (λ k. held e (set_of sets k)) r.new_kinds = all_missing (λ k. held e (set_of sets k)) r.new_kinds a in
        absurd (true≢false (sym (held_inside b m.kind (in_right acc r.new_kinds m.kind m.is_in)) ∙ m.fails)))

    leaves : is_grouped e r sets ≡ true → ReadyOut (Grouped (at e (set_of sets hd))) e (located S.layout p) S.sets
    leaves b =
        let lt : at e (set_of sets (head_kind r.new_kinds)) < r.count = ltb-true _ _ b in
        rw (here H r rs fits) (
          omega arith,
          record {
            holds = held_inside b;
            room = λ k i. omega (arith, even.fit k i, length-map (set_of sets k) entity_of);
          },
          stands b,
        )

    abbrev stepped : GroupStep → Storage
    stepped t = record { sets = t.sets; layout = H.build (t.group ∷ rs) }

    out : is_grouped e r sets ≡ true → ungroup_components e g r sets ≡ record { sets = on_kinds g (swap_to e (r.count - 1)) sets; group = with_count (r.count - 1) r }
    unfolding ungroup_components
    out b = rw b

    stays : is_grouped e r sets ≡ false → ungroup_components e g r sets ≡ record { sets = sets; group = r }
    unfolding ungroup_components
    stays b = rw b

    goes_here : Goes (p ∷ []) S (stepped (ungroup_components e g r sets))
    goes_here =
        bool_cases (is_grouped e r sets)
        (λ b.
        subst (Goes (p ∷ []) S) (ungroup_here e H sets r rs fits ∙ ap stepped (sym (out b)))
        (goes_one p S (Grouped (at e (set_of sets hd))) (grouped_here e H sets r rs fits (all_held_law b) b) (leaves b)))
        (λ b.
        subst (Goes (p ∷ []) S) (ap stepped (sym (stays b)))
        (bool_cases (all_held e r.new_kinds sets)
        (λ a. goes_one p S Ungrouped (ungrouped_here e H sets r rs fits a b) tt)
        (λ a. goes_one p S Incomplete (incomplete_here e H sets r rs fits a) tt)))

  -- ---- a family

  module _ (gone : List ℕ) where
    length_down : (acc : List ℕ) (sets : List SparseSet) (rs : Family) → length (ungroup_family e gone acc sets rs).groups ≡ length rs
    unfolding ungroup_family
    length_down acc sets [] = refl
    length_down acc sets (r ∷ rs) =
        cond_case (λ (w : Walked). length w.groups ≡ suc (length rs)) (meets gone (acc ++ r.new_kinds)) _ _
        (λ m. ap suc (length_down (acc ++ r.new_kinds) sets rs))
        (λ m. ap suc (length_down (acc ++ r.new_kinds) sets rs))

    family_down : (f : Family) {acc : List ℕ} {first top p : ℕ} (H : Hole acc first top p) (sets : List SparseSet) (rs : Family) → p + length rs ≡ top → ((k : ℕ) → cnt e (key sets k) ≤ 1) → Chain (key sets) Every acc rs
        → Goes (reverse (passing (λ f ks. meets gone ks) p (family_members f acc rs))) (record { sets = sets; layout = H.build rs }) (at_hole H (ungroup_family e gone acc sets rs))
    unfolding passing ungroup_family
    family_down f {acc} {first} {top} {p} H sets [] fits once ch = goes_none (record { sets = sets; layout = H.build [] })
    family_down f {acc} {first} {top} {p} H sets (r ∷ rs) fits once ch =
        let R = family_down f (next H r) sets rs (omega arith) once ch.2 in
        bool_cases (meets gone (acc ++ r.new_kinds))
        (λ m. rw (m, reverse-cons p rest) (goes_then R (goes_here H w.sets r w.groups at_end ch.0.head E.even)))
        (λ m. rw m R)
      where
        w : Walked
        w = ungroup_family e gone (acc ++ r.new_kinds) sets rs

        rest : List ℕ
        rest = passing (λ f ks. meets gone ks) (suc p) (family_members f (acc ++ r.new_kinds) rs)

        D : Down e gone (acc ++ r.new_kinds) sets rs w
        D = ungroup_family_good e gone (acc ++ r.new_kinds) sets rs once ch.2

        E : Held (key sets) (key w.sets) (acc ++ r.new_kinds) r.count
        E = D.smaller (acc ++ r.new_kinds) r.count (λ k i. i) ch.0.even ch.1

        at_end : p + suc (length w.groups) ≡ top
        at_end = ap (λ (n : ℕ). p + suc n) (length_down (acc ++ r.new_kinds) sets rs) ∙ fits

    -- ---- all families, the last first

    record GoesBack {p : ℕ} (F : Front p) (sets : List SparseSet) (fs : List Family) : Type 0 where
      pub goes : Goes (reverse (positions_where (λ f ks. meets gone ks) p fs)) (at_front F (record { sets = sets; layout = fs })) (at_front F (ungroup_back e gone sets fs))
      pub same : SameEntities (key sets) (key (ungroup_back e gone sets fs).sets)

    down_back : {p : ℕ} (F : Front p) (sets : List SparseSet) (fs : List Family) → Apart (fam_kinds fs) → Fams (key sets) fs → ((k : ℕ) → cnt e (key sets k) ≤ 1) → GoesBack F sets fs
    unfolding passing ungroup_back
    down_back {p = p} F sets [] apart fm once = record { goes = goes_none (at_front F (record { sets = sets; layout = [] })); same = record { entities = λ x k. refl; lengths = λ k. refl } }
    down_back {p = p} F sets (f ∷ fs) apart fm once =
        let R : GoesBack (past F f refl) sets fs = down_back {p = p + length f} (past F f refl) sets fs apart.1 fm.1 once in
        let q : Storage = ungroup_back e gone sets fs in
        let t : Family → List ℕ → Bool = λ f ks. meets gone ks in
        let kept : (k : ℕ) → In (kinds_of f) k → key q.sets k ≡ key sets k = λ k i. ap keys (back_other e gone sets fs k (apart.0 k i)) in
        let ch : Chain (key q.sets) Every [] f = chain_other (key sets) (key q.sets) Every [] f kept fm.0 in
        let once' : (k : ℕ) → cnt e (key q.sets k) ≤ 1 = λ k. rw (R.same.entities e k) (once k) in
        let D : Down e gone [] q.sets f (ungroup_family e gone [] q.sets f) = ungroup_family_good e gone [] q.sets f once' ch in
        record {
          goes =
              rw (where_family t p f fs, reverse-append (passing t p (family_members f [] f)) (positions_where t (p + length f) fs))
              (goes_then R.goes (family_down f (opened F (p + length f) q.layout) q.sets f refl once' ch));
          same = record { entities = λ x k. D.same.entities x k ∙ R.same.entities x k; lengths = λ k. D.same.lengths k ∙ R.same.lengths k };
        }

    -- removal's walk
    pub walk_ungroup : (s : Storage) → Fit s → walk_down e (reverse (delete_positions gone s.layout)) s ≡ ungroup e gone s.sets s.layout
    walk_ungroup s f =
        (down_back whole s.sets s.layout f.apart f.fams (f.once e)).goes.walks
        ∙ commutes e gone s.sets s.layout f.apart (headed_all (key s.sets) s.layout f.fams)

    pub ready_remove : (s : Storage) → Fit s → ReadyDown e (reverse (delete_positions gone s.layout)) s
    ready_remove s f = (down_back whole s.sets s.layout f.apart f.fams (f.once e)).goes.ready

    -- "A destroyed card leaves all groups this way, highest first.": where every kind of the layout goes
    module _ (s : Storage) (f : Fit s) (known : (k : ℕ) → In (layout_kinds s.layout) k → In gone k) where
      every : delete_positions gone s.layout ≡ up_from 0 (groups_of s.layout)
      every = delete_all gone 0 s.layout (headed_all (key s.sets) s.layout f.fams) known

      pub walk_ungroup_all : walk_down e (reverse (up_from 0 (groups_of s.layout))) s ≡ ungroup e gone s.sets s.layout
      walk_ungroup_all = ap (λ (ps : List ℕ). walk_down e (reverse ps) s) (sym every) ∙ walk_ungroup s f

      pub ready_remove_all : ReadyDown e (reverse (up_from 0 (groups_of s.layout))) s
      ready_remove_all = subst (λ (ps : List ℕ). ReadyDown e (reverse ps) s) every (ready_remove s f)
