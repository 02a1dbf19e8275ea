-- The layout in force as the words have it: its groups by position. Assumes nothing.
use mathlib.Core.Path.{◌≡◌, refl, ap, sym, ◌∙◌, subst}
use mathlib.Core.List.{List}
use Prim.Native.Nat.{ℕ, ◌+◌, ◌≤◌, ◌<◌}
use native.Mathlib.Omega.{arith}
use lib.ListN.{length, get_or, set, take}
use lib.Seq.{get_or-take, length-take-le}
use Rattle.model.specs.Numbers.{MAX_GROUP_COUNT, MAX_KINDS}
use Rattle.words.specs.Offsets.{ENTITIES, GROUP_COUNTS, GROUP_FAMILIES, GROUP_PLACES, LAYOUT}
use Rattle.model.specs.Model.{Family, Storage, groups_of}
use Rattle.model.specs.Store.{on_storage, with_layout}
use Rattle.model.specs.Sound.{In, Distinct, layout_kinds}
use Rattle.model.proofs.KindLists.{in_at}
use Rattle.words.specs.Part.{between}
use Rattle.words.proofs.Part.{length_between, get_d_between}
use Rattle.layout.specs.Layout.{start_of, width_of, families_of, KindSet, WellFormed}
use Rattle.layout.specs.Group.{InFamily, arity_of, prior_arity, member_at}
use Rattle.layout.specs.Reading.{word_arrays, ReadMetadata}
use Rattle.layout.specs.declared.group_metadata.GroupMetadata.{GroupMetadata}
use Rattle.layout.proofs.KindSets.{set_between}
use Rattle.layout.proofs.Arrays.{kinds_inside, groups_inside, groups_of_law, layout_kinds_law}
use Rattle.layout.proofs.Groups.{prior_less, arity_inside}
use Rattle.memory.specs.Header.{layout_groups, group_family_at, count_at}
use Rattle.words.specs.Word.{Word}
use Rattle.memory.specs.Meaning.{layout_arrays, layout_in, meaning}
use Rattle.memory.specs.Arranged.{Arranged, GroupSound, Becomes}
use Rattle.memory.proofs.Frames.{long, layout_sized}
use Rattle.memory.proofs.LayoutWords.{kind_word, metadata_words}
use Rattle.memory.proofs.Becomes.{count_becomes, slot_real}
use Rattle.kinds.proofs.Slot.{slot_known}
use Rattle.group.specs.Flat.{Located, located, set_count}
use Rattle.group.specs.Metadata.{order_of, Describes}
use Rattle.group.proofs.FlatArrays.{standing, located_is, counts_are}
use Rattle.layout.proofs.Groups as few

-- ---- the layout

module _ (w : List ℕ) (A : Arranged w) where
  pub layout_means : (meaning w).storage.layout ≡ families_of (between GROUP_COUNTS ENTITIES w) (layout_arrays w)
  unfolding meaning layout_in
  layout_means = refl

  good : WellFormed (layout_arrays w)
  good = A.layout.formed

  -- how many groups there are
  pub groups_are : groups_of (meaning w).storage.layout ≡ layout_groups w
  groups_are = ap groups_of layout_means ∙ groups_of_law (between GROUP_COUNTS ENTITIES w) (layout_arrays w) good (layout_sized w A) ∙ sym A.layout.count

  pub groups_few : groups_of (meaning w).storage.layout ≤ MAX_GROUP_COUNT
  groups_few = omega (arith, groups_are, A.layout.count, good.many)

  -- the kinds in order
  pub order_is : order_of (meaning w) ≡ take (width_of (layout_arrays w)) (layout_arrays w).kinds
  order_is = ap layout_kinds layout_means ∙ layout_kinds_law (between GROUP_COUNTS ENTITIES w) (layout_arrays w) good (layout_sized w A)

  pub order_length : length (order_of (meaning w)) ≡ width_of (layout_arrays w)
  order_length =
      ap length order_is ∙ length-take-le (width_of (layout_arrays w)) (layout_arrays w).kinds (omega (arith, good.wide, (layout_sized w A).kinds))

  pub order_wide : length (order_of (meaning w)) ≤ MAX_KINDS
  order_wide = omega (arith, order_length, good.wide)

  pub order_at : (p : ℕ) → p < length (order_of (meaning w)) → get_or (order_of (meaning w)) p 0 ≡ get_or w (LAYOUT + p) 0
  order_at p h =
      ap (λ (l : List ℕ). get_or l p 0) order_is
      ∙ get_or-take (width_of (layout_arrays w)) (layout_arrays w).kinds p 0 (omega (arith, order_length))
      ∙ kind_word w p (omega (arith, order_wide))

  pub order_part_once : (x y : ℕ) → Distinct (between x y (order_of (meaning w)))
  order_part_once x y = (set_between x y (order_of (meaning w)) (subst KindSet (sym order_is) good.kinds)).once

  -- ---- one group

  module _ (g : ℕ) (hg : g < groups_of (meaning w).storage.layout) where
    abbrev f : ℕ
    f = group_family_at w g

    pub group_sound : GroupSound w (layout_arrays w) g f
    group_sound = A.layout.groups g (omega (arith, groups_are))

    pub in_family : InFamily (layout_arrays w) f g
    in_family = group_sound.group

    pub family_few : f < MAX_GROUP_COUNT
    family_few = few.family_few (layout_arrays w) good (layout_sized w A) f g in_family

    pub group_few : g < MAX_GROUP_COUNT
    group_few = few.group_few (layout_arrays w) good (layout_sized w A) f g in_family

    -- the words that a group's metadata is read from
    abbrev pub start : ℕ
    start = start_of (layout_arrays w).kind_ends f

    abbrev pub first : ℕ
    first = start_of (layout_arrays w).ends f

    abbrev pub top : ℕ
    top = get_or (layout_arrays w).ends f 0

    abbrev pub arity : ℕ
    arity = arity_of (layout_arrays w) g

    abbrev pub prior : ℕ
    prior = prior_arity (layout_arrays w) f g

    -- what stands at position g
    pub located_words : located (meaning w).storage.layout g ≡ standing (order_of (meaning w)) start prior arity (count_at w g) first top
    located_words =
        let counts : List ℕ = between GROUP_COUNTS ENTITIES w in
        subst (λ (fs : List Family). located fs g ≡ standing (layout_kinds fs) start prior arity (count_at w g) first top) (sym layout_means)
        (located_is counts (layout_arrays w) good (layout_sized w A) f g in_family
        ∙ ap (λ (c : ℕ). standing (layout_kinds (families_of counts (layout_arrays w))) start prior arity c first top) (get_d_between GROUP_COUNTS ENTITIES g w 0 (omega (arith, group_few))))

    pub group_rises : (prior < arity) × (start + arity ≤ length (order_of (meaning w))) × (top ≤ MAX_GROUP_COUNT)
    group_rises = (
      prior_less (layout_arrays w) good (layout_sized w A) f g in_family,
      omega (arith, arity_inside (layout_arrays w) good (layout_sized w A) f g in_family, order_length, kinds_inside (layout_arrays w) good f in_family.family),
      omega (arith, groups_inside (layout_arrays w) good f in_family.family, good.many),
    )

    -- a group's kinds are registered
    kinds_registered : (k : ℕ) → In (between start (start + arity) (order_of (meaning w))) k → In (meaning w).kinds k
    kinds_registered k n =
        let r = in_at (between start (start + arity) (order_of (meaning w))) k n in
        let fits : start + arity ≤ length (order_of (meaning w)) = group_rises.1 in
        let lt : r.0 < arity = omega (arith, r.1, length_between start (start + arity) (order_of (meaning w)) fits) in
        let width : width_of (layout_arrays w) ≡ length (order_of (meaning w)) = sym order_length in
        let reg = group_sound.known r.0 lt in
        let e : member_at (layout_arrays w) f r.0 ≡ k =
        sym (get_or-take (width_of (layout_arrays w)) (layout_arrays w).kinds (start + r.0) 0 (omega arith))
        ∙ sym (ap (λ (l : List ℕ). get_or l (start + r.0) 0) order_is)
        ∙ sym (get_d_between start (start + arity) r.0 (order_of (meaning w)) 0 (omega arith))
        ∙ r.2 in
        subst (In (meaning w).kinds) e (slot_known w A (member_at (layout_arrays w) f r.0) reg.small (slot_real w A (member_at (layout_arrays w) f r.0) reg.slot))

    pub described : Describes (meaning w) g (record { storage_start = start; new_storage_start = start + prior; storage_end = start + arity; first = first; top = top })
    described =
        record {
          kinds = sym (ap (λ (l : Located). l.kinds) located_words);
          new_kinds = sym (ap (λ (l : Located). l.new_kinds) located_words);
          first = sym (ap (λ (l : Located). l.first) located_words);
          top = sym (ap (λ (l : Located). l.top) located_words);
          low = omega arith;
          some = omega (arith, group_rises.0);
          listed = record { rising = omega arith; within = group_rises.1; known = kinds_registered };
          few = group_rises.2;
        }

    -- the metadata that was read
    pub read_describes : (fam : ℕ) (d : GroupMetadata) → Word w (GROUP_FAMILIES + g) fam → ReadMetadata (word_arrays w) fam g d → Describes (meaning w) g d
    read_describes fam d F R =
        let M = metadata_words w f g d (omega (arith, family_few)) (omega (arith, group_few)) (subst (λ (m : ℕ). ReadMetadata (word_arrays w) m g d) F.is R) in
        subst (Describes (meaning w) g)
        (λ j. record { storage_start = sym M.start j; new_storage_start = sym M.new j; storage_end = sym M.end j; first = sym M.first j; top = sym M.top j })
        described

    pub count_words : count_at w g ≡ (located (meaning w).storage.layout g).count
    count_words = sym (ap (λ (l : Located). l.count) located_words)

    pub count_set : (c : ℕ) → Becomes w (set w (GROUP_COUNTS + g) c) (on_storage (λ (s : Storage). with_layout s (set_count g c s.layout)) (meaning w))
    count_set c =
        let few : g < GROUP_PLACES = omega (arith, group_few) in
        let l : length (between GROUP_COUNTS ENTITIES w) ≡ GROUP_PLACES = length_between GROUP_COUNTS ENTITIES w (long w A) in
        let e : families_of (set (between GROUP_COUNTS ENTITIES w) g c) (layout_arrays w) ≡ set_count g c (meaning w).storage.layout =
        counts_are (between GROUP_COUNTS ENTITIES w) (layout_arrays w) good (layout_sized w A) f g in_family c (omega arith)
        ∙ ap (set_count g c) (sym layout_means) in
        subst (λ (fs : List Family). Becomes w (set w (GROUP_COUNTS + g) c) (on_storage (λ (s : Storage). with_layout s fs) (meaning w))) e (count_becomes w A g c few)
