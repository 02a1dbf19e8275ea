-- A family's groups with the staged kinds put in at their place, by the arrays: the merged kinds, and one arity more. Assumes nothing.
use mathlib.Core.Path.{◌≡◌, refl, sym, ap, ap₂, ◌∙◌, subst}
use mathlib.Core.Bool.{Bool, true, false, cond, or-true, true≢false}
use mathlib.Core.List.{List, [], ◌∷◌, ◌++◌, append_assoc, append-nil}
use Prim.Native.Nat.{ℕ, zero, suc, ◌+◌, ◌-◌, ◌≤◌, ◌<◌}
use native.Mathlib.Nat.{add-zero}
use native.Mathlib.Omega.{arith}
use lib.Dec.{eqb}
use lib.ListN.{length, get_or, take, drop, length-append, take-append-drop}
use lib.Seq.{take_at, drop_at, take-length, drop-length, length-take-le}
use Rattle.model.specs.Lists.{count_of}
use Rattle.model.specs.Model.{Group, Family, mem, within, without, common, same_set, is_group, nested, chains, new_group, family_with}
use Rattle.model.specs.Sound.{In, Distinct}
use Rattle.model.proofs.ListLaws.{count_append, as_long}
use Rattle.model.proofs.BoolLaws.{bool_cases, or_cases, or_false, or_false_right, and_false_left, not_true}
use Rattle.model.proofs.KindLists.{in_left, in_count, out_count, count_common, count_parted, length_parted, common_append, common_all, common_none, without_append, without_all, without_none, without_length, within_in, within_counts, all_true, before_free}
use Rattle.model.proofs.Draft.{chains_rest, holds_staged}
use Rattle.words.specs.Part.{between}
use Rattle.words.proofs.Part.{between_join, between_drop, between_front, between_rest, last_part, drop_take}
use Rattle.layout.specs.Layout.{start_of, groups_from, KindSet, AritiesRising}
use Rattle.layout.specs.Fit.{pick_part, place_in}
use Rattle.layout.specs.declared.group_layout.Part.{Part}
use Rattle.layout.specs.declared.group_layout.Part.TheVariants.{At, Cross}
use Rattle.layout.specs.Grow.{put_in, merged_kinds}
use Rattle.layout.proofs.KindSets.{set_take, proper}
use Rattle.layout.proofs.Family.{rising_le, start_next, Turn, turn}

-- ---- the place

pub place_le : (hs acc : List ℕ) (f : Family) → place_in hs acc f ≤ length f
place_le hs acc [] = omega arith
place_le hs acc (r ∷ rs) = go (within (acc ++ r.new_kinds) hs) (place_le hs (acc ++ r.new_kinds) rs)
  where
    go : (b : Bool) → place_in hs (acc ++ r.new_kinds) rs ≤ length rs → cond b (suc (place_in hs (acc ++ r.new_kinds) rs)) 0 ≤ suc (length rs)
    go true h = omega arith
    go false h = omega arith

-- ---- the loop that looks for the place

-- n groups are held, and acc are the kinds of the last of them
abbrev place_from : List ℕ → ℕ → List ℕ → Family → Part
place_from hs n acc f = pick_part (chains hs acc f) (At (n + place_in hs acc f)) Cross

-- kinds that the group before has are a chain with the later ones
chains_below : (hs acc : List ℕ) (f : Family) → within hs acc ≡ true → chains hs acc f ≡ true
chains_below hs acc [] w = refl
chains_below hs acc (r ∷ rs) w =
    let up : within hs (acc ++ r.new_kinds) ≡ true = all_true (λ k. mem k (acc ++ r.new_kinds)) hs (λ k i. in_left acc r.new_kinds k (within_in hs acc w k i)) in
    rw (up, or-true (within (acc ++ r.new_kinds) hs)) (chains_below hs (acc ++ r.new_kinds) rs up)

-- the next group, with the kinds next, is held; it holds; neither
from_held : (hs : List ℕ) (n : ℕ) (acc next : List ℕ) (r : Group) (rs : Family) → acc ++ r.new_kinds ≡ next → within next hs ≡ true → place_from hs n acc (r ∷ rs) ≡ place_from hs (n + 1) next rs
from_held hs n acc next r rs e w =
    let m : n + suc (place_in hs next rs) ≡ n + 1 + place_in hs next rs = omega arith in
    rw (e, w) (ap (λ (i : ℕ). pick_part (chains hs next rs) (At i) Cross) m)

from_holding : (hs : List ℕ) (n : ℕ) (acc next : List ℕ) (r : Group) (rs : Family) → acc ++ r.new_kinds ≡ next → within next hs ≡ false → within hs next ≡ true → place_from hs n acc (r ∷ rs) ≡ At n
from_holding hs n acc next r rs e w v = rw (e, w, v, chains_below hs next rs v) (ap At (add-zero n))

from_crossed : (hs : List ℕ) (n : ℕ) (acc next : List ℕ) (r : Group) (rs : Family) → acc ++ r.new_kinds ≡ next → within next hs ≡ false → within hs next ≡ false → place_from hs n acc (r ∷ rs) ≡ Cross
from_crossed hs n acc next r rs e w v = rw (e, w, v)

module _ (hs ks ars : List ℕ) where
  -- with j arities behind
  abbrev pub place_at_law : ℕ → Part
  place_at_law j = place_from hs j (take (start_of ars j) ks) (groups_from [] 0 ks (start_of ars j) (drop j ars))

  pub place_end : place_at_law (length ars) ≡ At (length ars)
  unfolding groups_from
  place_end = rw (drop-length ars) (ap At (add-zero (length ars)))

  module _ (j : ℕ) (lt : j < length ars) (r : AritiesRising (start_of ars j) (length ks) (drop j ars)) where
    t : Turn hs ks ars j
    t = turn hs ks ars j lt r

    abbrev group : Group
    group = new_group (between (start_of ars j) (get_or ars j 0) ks)

    abbrev later : Family
    later = groups_from [] 0 ks (start_of ars (j + 1)) (drop (j + 1) ars)

    opened : place_at_law j ≡ place_from hs j (take (start_of ars j) ks) (group ∷ later)
    opened = ap (place_from hs j (take (start_of ars j) ks)) t.opens

    pub place_held : within (take (get_or ars j 0) ks) hs ≡ true → place_at_law j ≡ place_at_law (j + 1)
    place_held w =
        opened ∙ from_held hs j (take (start_of ars j) ks) (take (get_or ars j 0) ks) group later t.joins w
        ∙ ap (λ (a : ℕ). place_from hs (j + 1) (take a ks) later) (sym (start_next ars j))

    pub place_holding : within (take (get_or ars j 0) ks) hs ≡ false → within hs (take (get_or ars j 0) ks) ≡ true → place_at_law j ≡ At j
    place_holding w v = opened ∙ from_holding hs j (take (start_of ars j) ks) (take (get_or ars j 0) ks) group later t.joins w v

    pub place_crossed : within (take (get_or ars j 0) ks) hs ≡ false → within hs (take (get_or ars j 0) ks) ≡ false → place_at_law j ≡ Cross
    place_crossed w v = opened ∙ from_crossed hs j (take (start_of ars j) ks) (take (get_or ars j 0) ks) group later t.joins w v

-- ---- arities and groups

-- an arity of two or more put in leaves the arities above one
pub rising_one : (n m at s : ℕ) (ars : List ℕ) → 2 ≤ s → AritiesRising 1 m ars → AritiesRising 0 n (put_in at s ars) → AritiesRising 1 n (put_in at s ars)
unfolding AritiesRising
rising_one n m zero s ars h r p = (omega arith, p.1)
rising_one n m (suc at) s [] h r p = (omega arith, p.1)
rising_one n m (suc at) s (a ∷ ars) h r p = (r.0, p.1)

-- groups past a place where the kinds are the same
same_groups : (ks js : List ℕ) (e n g g' b : ℕ) (ars : List ℕ) → e ≤ b → drop e js ≡ drop e ks → AritiesRising b n ars → groups_from [] g js b ars ≡ groups_from [] g' ks b ars
unfolding groups_from AritiesRising
same_groups ks js e n g g' b [] h d r = refl
same_groups ks js e n g g' b (a ∷ ars) h d r =
    ap₂ (λ (l : List ℕ) (f : Family). new_group l ∷ f) (between_rest e b a ks js h d) (same_groups ks js e n (suc g) (suc g') a ars (omega (arith, r.0)) d r.1)

-- ---- the merged kinds

module _ (K h : List ℕ) (kset : KindSet K) (hset : KindSet h) where
  pub merged_count : (k : ℕ) → count_of eqb k (merged_kinds K h) ≡ count_of eqb k K + count_of eqb k (without h K)
  merged_count k = omega (arith, count_append eqb k (common K h) (without h K ++ without K h), count_append eqb k (without h K) (without K h), count_parted K h k)

  pub merged_length : length (merged_kinds K h) ≡ length K + length (without h K)
  merged_length = omega (arith, length-append (common K h) (without h K ++ without K h), length-append (without h K) (without K h), length_parted K h)

  -- as long as the longer of the two
  pub merged_most : (n : ℕ) → nested K h ≡ true → length K ≤ n → length h ≤ n → length (merged_kinds K h) ≤ n
  merged_most n c lk lh =
      or_cases (within K h) (within h K) c
      (λ w. omega (arith, merged_length, without_length h K hset.once kset.once w))
      (λ w. omega (arith, merged_length, ap length (without_all h K (within_in h K w))))

  -- K up to a is held
  module _ (a : ℕ) (fits : a ≤ length K) (held : within (take a K) h ≡ true) where
    held_common : common K h ≡ take a K ++ common (drop a K) h
    held_common =
        ap (λ (l : List ℕ). common l h) (sym (take-append-drop a K)) ∙ common_append (take a K) (drop a K) h
        ∙ ap (λ (l : List ℕ). l ++ common (drop a K) h) (common_all (take a K) h (within_in (take a K) h held))

    same_front : take a (merged_kinds K h) ≡ take a K
    same_front =
        ap (λ (l : List ℕ). take a (l ++ (without h K ++ without K h))) held_common
        ∙ ap (take a) (append_assoc (take a K) (common (drop a K) h) (without h K ++ without K h))
        ∙ take_at (take a K) (common (drop a K) h ++ (without h K ++ without K h)) a (length-take-le a K fits)

  -- K up to b is held, and up to a it holds: the kinds from b to a are parted
  module _ (b a : ℕ) (lt : b < a) (fits : a ≤ length K) (held : within (take b K) h ≡ true) (holds : within h (take a K) ≡ true) where
    abbrev ring : List ℕ
    ring = between b a K

    abbrev front : List ℕ
    front = take b K ++ common ring h

    -- past the group there is none of the hand
    past_free : (k : ℕ) → In (drop a K) k → mem k h ≡ false
    past_free k i =
        not_true (mem k h)
        (λ t. true≢false (sym (within_in h (take a K) holds k t) ∙ before_free (take a K) (drop a K) (subst Distinct (sym (take-append-drop a K)) kset.once) k i))

    split : K ≡ take b K ++ (ring ++ drop a K)
    split = sym (take-append-drop b K) ∙ ap (λ (l : List ℕ). take b K ++ l) (sym (between_drop K b a (omega arith)))

    parted_common : common K h ≡ front
    parted_common =
        ap (λ (l : List ℕ). common l h) split ∙ common_append (take b K) (ring ++ drop a K) h
        ∙ ap₂ ◌++◌ (common_all (take b K) h (within_in (take b K) h held)) (common_append ring (drop a K) h ∙ ap (λ (l : List ℕ). common ring h ++ l) (common_none (drop a K) h past_free) ∙ append-nil (common ring h))

    parted_without : without K h ≡ without ring h ++ drop a K
    parted_without =
        ap (λ (l : List ℕ). without l h) split ∙ without_append (take b K) (ring ++ drop a K) h
        ∙ ap₂ ◌++◌ (without_all (take b K) h (within_in (take b K) h held)) (without_append ring (drop a K) h ∙ ap (λ (l : List ℕ). without ring h ++ l) (without_none (drop a K) h past_free))

    no_more : without h K ≡ []
    no_more = without_all h K (λ k i. ap (mem k) (sym (take-append-drop a K)) ∙ in_left (take a K) (drop a K) k (within_in h (take a K) holds k i))

    parted : merged_kinds K h ≡ front ++ (without ring h ++ drop a K)
    parted = ap₂ ◌++◌ parted_common (ap₂ ◌++◌ no_more parted_without)

    -- the hand is the front, as a set
    front_length : length front ≡ length h
    front_length =
        as_long front h
        (λ k. bool_cases (mem k h)
        (λ t. omega (arith, counted k, rw t at (count_common ring h k), in_count h k t, hset.once k, kset.once k, up k, within_counts h (take a K) hset.once holds k, whole k))
        (λ t. omega (arith, counted k, rw t at (count_common ring h k), out_count h k t, within_counts (take b K) h (set_take b K kset).once held k)))
      where
        counted : (k : ℕ) → count_of eqb k front ≡ count_of eqb k (take b K) + count_of eqb k (common ring h)
        counted k = count_append eqb k (take b K) (common ring h)

        up : (k : ℕ) → count_of eqb k (take b K) + count_of eqb k ring ≡ count_of eqb k (take a K)
        up k = sym (count_append eqb k (take b K) ring) ∙ ap (count_of eqb k) (between_join K b a (omega arith))

        whole : (k : ℕ) → count_of eqb k (take a K) ≤ count_of eqb k K
        whole k = omega (arith, count_append eqb k (take a K) (drop a K), ap (count_of eqb k) (take-append-drop a K))

    take_length' : length (take b K) ≡ b
    take_length' = length-take-le b K (omega arith)

    ring_length : length (common ring h) + length (without ring h) ≡ a - b
    ring_length = length_parted ring h ∙ omega (arith, length-append (take b K) ring, ap length (between_join K b a (omega arith)), take_length', length-take-le a K fits)

    staged_length : length h ≡ b + length (common ring h)
    staged_length = omega (arith, front_length, length-append (take b K) (common ring h), take_length')

    first_ring : between b (length h) (merged_kinds K h) ≡ common ring h
    first_ring =
        drop_take (merged_kinds K h) b (length h) (omega (arith, staged_length))
        ∙ ap (λ (l : List ℕ). drop b (take (length h) l)) parted
        ∙ ap (drop b) (take_at front (without ring h ++ drop a K) (length h) front_length)
        ∙ drop_at (take b K) (common ring h) b take_length'

    second_ring : between (length h) a (merged_kinds K h) ≡ without ring h
    second_ring =
        ap (between (length h) a) parted
        ∙ ap (take (a - length h)) (drop_at front (without ring h ++ drop a K) (length h) front_length)
        ∙ take_at (without ring h) (drop a K) (a - length h) (omega (arith, ring_length, staged_length))

    later_kinds : drop a (merged_kinds K h) ≡ drop a K
    later_kinds =
        ap (drop a) (parted ∙ sym (append_assoc front (without ring h) (drop a K)))
        ∙ drop_at (front ++ without ring h) (drop a K) a (omega (arith, length-append front (without ring h), front_length, staged_length, ring_length))

    parted_size : length (merged_kinds K h) ≡ length K
    parted_size = omega (arith, merged_length, ap length no_more)

  -- ---- the law

  -- the arities from b on with the hand's among them, by the merged kinds; acc are the kinds of the group before
  pub record Inserts (g b : ℕ) (ars acc : List ℕ) : Type 0 where
    pub same : groups_from [] g (merged_kinds K h) b (put_in (place_in h acc (groups_from [] g K b ars)) (length h) ars) ≡ family_with h acc (groups_from [] g K b ars)
    pub rising : AritiesRising b (length (merged_kinds K h)) (put_in (place_in h acc (groups_from [] g K b ars)) (length h) ars)

  -- the hand holds all groups
  last : (g b : ℕ) (acc : List ℕ) → acc ≡ take b K → b ≡ length K → within acc h ≡ true → b < length h → Inserts g b [] acc
  unfolding groups_from AritiesRising
  last g b acc e r w l =
      let k : acc ≡ K = e ∙ ap (λ (n : ℕ). take n K) r ∙ take-length K in
      let held : within K h ≡ true = ap (λ (x : List ℕ). within x h) (sym k) ∙ w in
      let size : length h ≡ length K + length (without h K) = sym (without_length h K hset.once kset.once held) in
      let all : merged_kinds K h ≡ K ++ without h K = ap₂ ◌++◌ (common_all K h (within_in K h held)) (ap (λ (x : List ℕ). without h K ++ x) (without_all K h (within_in K h held)) ∙ append-nil (without h K)) in
      record {
        same = ap (λ (x : List ℕ). new_group x ∷ []) (ap₂ (λ (n : ℕ) (x : List ℕ). between b n x) size all ∙ ap (λ (n : ℕ). between n (length K + length (without h K)) (K ++ without h K)) r ∙ last_part K (without h K) ∙ ap (without h) (sym k));
        rising = (l, size ∙ sym merged_length);
      }

  -- it holds the next group, of arity a
  further : (g b a : ℕ) (ars acc : List ℕ) → acc ++ between b a K ≡ take a K → b < a → a ≤ length K → within (acc ++ between b a K) h ≡ true → Inserts (suc g) a ars (acc ++ between b a K) → Inserts g b (a ∷ ars) acc
  unfolding groups_from AritiesRising
  further g b a ars acc up lt fits t x =
      record {
        same = rw t (ap₂ (λ (l : List ℕ) (f : Family). new_group l ∷ f) (between_front a b a K (merged_kinds K h) (omega arith) (same_front a fits (ap (λ (l : List ℕ). within l h) (sym up) ∙ t))) x.same);
        rising = rw t (lt, x.rising);
      }

  -- the next group holds it
  here : (g b a : ℕ) (ars acc : List ℕ) → acc ≡ take b K → acc ++ between b a K ≡ take a K → b < a → AritiesRising a (length K) ars → within acc h ≡ true → b < length h
      → within (acc ++ between b a K) h ≡ false → within h (acc ++ between b a K) ≡ true → Inserts g b (a ∷ ars) acc
  unfolding groups_from AritiesRising
  here g b a ars acc e up lt r w l t v =
      let fits = rising_le a (length K) ars r in
      let held : within (take b K) h ≡ true = ap (λ (x : List ℕ). within x h) (sym e) ∙ w in
      let holds : within h (take a K) ≡ true = ap (within h) (sym up) ∙ v in
      let less : length h < length (take a K) = proper h (take a K) hset (set_take a K kset) holds (ap (λ (x : List ℕ). within x h) (sym up) ∙ t) in
      let rest = same_groups K (merged_kinds K h) a (length K) (suc (suc g)) (suc g) a ars (omega arith) (later_kinds b a lt fits held holds) r in
      record {
        same = rw t
            (ap₂ (λ (x y : List ℕ). new_group x ∷ new_group y ∷ groups_from [] (suc (suc g)) (merged_kinds K h) a ars) (first_ring b a lt fits held holds) (second_ring b a lt fits held holds)
            ∙ ap (λ (f : Family). new_group (common (between b a K) h) ∷ new_group (without (between b a K) h) ∷ f) rest);
        rising = rw t (l, (omega (arith, less, length-take-le a K fits), subst (λ (n : ℕ). AritiesRising a n ars) (sym (parted_size b a lt fits held holds)) r));
      }

  pub inserts : (g b : ℕ) (ars acc : List ℕ) → acc ≡ take b K → AritiesRising b (length K) ars → within acc h ≡ true → b < length h
      → chains h acc (groups_from [] g K b ars) ≡ true → is_group h acc (groups_from [] g K b ars) ≡ false → Inserts g b ars acc
  unfolding groups_from AritiesRising
  inserts g b [] acc e r w l c o = last g b acc e r w l
  inserts g b (a ∷ ars) acc e r w l c o =
      let next = acc ++ between b a K in
      let first = new_group (between b a K) in
      let rest = groups_from [] (suc g) K a ars in
      let up : acc ++ between b a K ≡ take a K = ap (λ (x : List ℕ). x ++ between b a K) e ∙ between_join K b a (omega (arith, r.0)) in
      let fits = rising_le a (length K) ars r.1 in
      let unequal : same_set h next ≡ false = or_false (same_set h next) (is_group h next rest) o in
      let longer : within next h ≡ true → a < length h = λ t.
      omega (arith, proper next h (subst KindSet (sym up) (set_take a K kset)) hset t (and_false_left (within h next) (within next h) unequal t), ap length up, length-take-le a K fits) in
      bool_cases (within next h)
      (λ t. further g b a ars acc up r.0 fits t (inserts (suc g) a ars next up r.1 t (longer t) (chains_rest h acc first rest c) (or_false_right (same_set h next) (is_group h next rest) o)))
      (λ t. here g b a ars acc e up r.0 r.1 w l t (holds_staged h acc first rest c t))
