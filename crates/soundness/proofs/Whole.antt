-- The clauses together are soundness: of the words, and of the store that they mean. Assumes nothing.
use mathlib.Core.Bool.{Bool, true, false}
use lib.Dec.{leb}
use Rattle.std.proofs.lemmas.Bool.{leb-true, leb-false}
use Rattle.model.specs.Store.{words_needed}
use mathlib.Core.Path.{◌≡◌, refl, ap, sym, ◌∙◌, subst}
use mathlib.Core.Logic.{◌≢◌, ◌↔◌}
use mathlib.Core.List.{List, [], map}
use Prim.Native.Nat.{ℕ, ◌+◌, ◌*◌, ◌≤◌, ◌<◌}
use native.Mathlib.Decide.{dec_le, dec_lt}
use native.Mathlib.Omega.{arith}
use lib.Dec.{eqb}
use lib.ListN.{length, get_or, take, drop, get_or-map, get_or-eq_default}
use lib.Seq.{get_or-take, length-take-le}
use Rattle.model.specs.Numbers.{CALLERS, ENTITY_LEN, LAST_CALLER, LIST_CAPACITY, MAX_GROUP_COUNT, MAX_KINDS}
use Rattle.model.specs.Lists.{count_of}
use Rattle.model.specs.Model.{Entity, no_row, kind_of, entity_of}
use Rattle.model.specs.Sound.{cnt, In, Distinct, EightOrSixteen, Limits, ValueFits, KindsSound, EntitiesSound, SetsSound, StagedSound, ExcludedSound, CountsSound, Buildable, AllRight}
use Rattle.model.proofs.Numbers.{live_once}
use Rattle.model.proofs.Operations.{live_count, count_live}
use Rattle.model.proofs.KindLists.{in_count, count_in, at_in}
use Rattle.model.proofs.Widths.{width_words}
use Rattle.words.specs.Offsets.{BLOCK_LEN, COLUMN_KIND, DRAFT, ENTITIES, EXCLUDED_KINDS, GROUP_COUNTS, GROUP_FAMILIES, LAYOUT, LAYOUT_ARITIES, LAYOUT_KIND_ENDS, REFUSALS, ROWS, STAGED_KINDS, STAGED_VALUE_LEN, STAGED_VALUES, TABLE, UNREGISTERED}
use Rattle.words.proofs.Offsets.{column_start_mono, column_start_first, column_start_needed, shaped_of}
use Rattle.words.specs.Part.{between}
use Rattle.words.proofs.Part.{get_d_between, length_between, between_below}
use Rattle.words.specs.Table.{table}
use Rattle.component.specs.SparseSet.{length_of}
use Rattle.words.specs.Decides.{Decides, Each}
use Rattle.component.proofs.Meaning.{length_rows, empty_rows}
use Rattle.component.specs.Columns.{column_of, rows_of, Columns}
use Rattle.component.specs.Changes.{Lent}
use Rattle.component.proofs.Parts.{lent}
use Rattle.entity.specs.Meaning.{entity_part, entities_in}
use Rattle.entity.proofs.Lookups.{issued_is}
use Rattle.entity.proofs.Numbering.{entities_ok}
use Rattle.layout.specs.Layout.{Arrays, block_arrays, width_of, group_count, families_of, WellFormed}
use Rattle.layout.specs.Group.{InFamily}
use Rattle.layout.specs.Reading.{ReadStart}
use Rattle.layout.proofs.Arrays.{layout_kinds_law, block_sized}
use Rattle.layout_block.specs.Checks.{BlockSound, KindsOk}
use Rattle.layout_block.proofs.Buildable.{block_buildable, uncounted}
use Rattle.memory.specs.Header.{capacity_of, kind_capacity_of, registered_of, staged_len, excluded_len, draft_families, draft_groups, layout_families, layout_groups, caller_of, refusals_at, value_bytes_of, slot_of, group_family_at}
use Rattle.memory.specs.Meaning.{kind_at, kinds_in, sets_in, draft_arrays, layout_arrays, draft_in, layout_in, staged_at, staged_in, excluded_in, counts_in, meaning}
use Rattle.memory.specs.Arranged.{TableSound, Registered, LayoutSound, Arranged, Sound as StoreSound}
use Rattle.values.proofs.Numbers.{digits_take, words_from}
use Rattle.memory.proofs.LayoutWords.{words_sized, kind_word, kind_start_word}
use Rattle.sound_columns.specs.Slots.{Room, head_at}
use Rattle.sound_columns.specs.Table.{TableOk}
use Rattle.sound_columns.specs.Rows.{entity_in, RowLive, ColumnOk}
use Rattle.sound_columns.specs.Listed.{ListOk}
use Rattle.sound_groups.specs.Spans.{Force, HeadsOk, OwnOk}
use Rattle.sound_columns.proofs.SlotLaws.{room_long, room_less, key_word}
use Rattle.soundness.specs.Parts.{SizeOk, PartsOk, ListsOk, Ground, LayoutOk, CountsOk, Clauses}
use Rattle.soundness.proofs.TableLaws.{TableLinks, registered_slot, registered_small, slot_registered, kinds_sound, sets_sound, sets_alive}
use Rattle.soundness.proofs.ColumnLaws.{rows_once, rows_values}
use Rattle.soundness.proofs.StagedLaws.{staged_sound}
use Rattle.words.proofs.Tables.{length_table, get_d_table, map_table, words_table}
use Rattle.words.specs.declared.Shape.{Shape}
use Rattle.words.specs.Shape.{column_start, column_len, shape_of, shape}
use Rattle.soundness.proofs.GroupLaws.{families_right, right_families}
use Rattle.soundness.proofs.FlatLaws.{families_each, each_families, prior_fits}
use Rattle.soundness.proofs.WordLaws.{layout_words}
use Rattle.soundness.proofs.ForceLaws.{force, heads_group, group_heads, counted_at, at_counted}
use Rattle.model.specs.Sound as model_sound
use Rattle.entity.specs.Meaning as entity

-- ---- the table of kinds

-- words are of 32 bits
abbrev pub Bits : List ℕ → Type 0
Bits w = (i : ℕ) → get_or w i 0 < 4294967296

module _ (n k v : ℕ) (w : List ℕ) (Z : SizeOk n k v w) where
  pub size_room : Room (shape n v) k w
  size_room = record { shaped = shaped_of n v Z.limits.most Z.limits.width; few = Z.limits.most_kinds; size = Z.enough }

  pub size_long : ENTITIES ≤ length w
  size_long = room_long (shape n v) k w size_room

  pub size_entities : ENTITIES + ENTITY_LEN * n ≤ length w
  size_entities = omega (arith, Z.enough, column_start_first (shape n v), column_start_mono (shape n v) 0 k (omega arith))

module _ (w : List ℕ) where
  abbrev n : ℕ
  n = capacity_of w

  abbrev z : Shape
  z = shape_of w

  abbrev k : ℕ
  k = kind_capacity_of w

  abbrev v : ℕ
  v = value_bytes_of w

  abbrev reg : ℕ
  reg = registered_of w

  -- the table of kinds, as the lists' and the blocks' checks have it
  abbrev slots : List ℕ
  slots = between TABLE STAGED_KINDS w

  slot_word : (j : ℕ) → j < MAX_KINDS → get_or slots j 0 ≡ slot_of w j
  slot_word j h = get_d_between TABLE STAGED_KINDS j w 0 (omega arith)

  table_sound : TableOk z k w → TableSound w
  table_sound T =
      record {
        few = T.few;
        slot = λ j h. (T.kinds j h).slot;
        back = λ j h. (T.kinds j h).back;
        small = λ s h. (T.slots s h).small;
        own = λ s h. (T.slots s h).own;
      }

  sound_table : TableSound w → TableOk z k w
  sound_table T =
      record {
        few = T.few;
        kinds = λ j h. record { slot = T.slot j h; back = T.back j h };
        slots = λ s h. record { small = T.small s h; own = T.own s h };
      }

  module _ (T : TableSound w) (most : k ≤ MAX_KINDS) where
    tabled : TableLinks reg (kind_at w) (slot_of w)
    tabled = record { few = omega (arith, T.few); slot = T.slot; back = T.back; small = T.small; own = T.own }

    kinds_are : KindsSound k (kinds_in w)
    unfolding kinds_in
    kinds_are = kinds_sound reg (kind_at w) (slot_of w) tabled k T.few

    known_in : (j : ℕ) → j < MAX_KINDS → slot_of w j ≢ UNREGISTERED → In (kinds_in w) j
    unfolding kinds_in
    known_in j h ne = slot_registered reg (kind_at w) (slot_of w) tabled j h ne

    in_known : (j : ℕ) → In (kinds_in w) j → Registered w j
    unfolding kinds_in
    in_known j t = record { small = registered_small reg (kind_at w) (slot_of w) tabled j t; slot = registered_slot reg (kind_at w) (slot_of w) tabled j t }

    -- so the table's words that are not 255 are those of the registered kinds
    slots_in : (j : ℕ) → j < MAX_KINDS → get_or slots j 0 ≢ UNREGISTERED → In (kinds_in w) j
    slots_in j h ne = known_in j h (λ e. ne (slot_word j h ∙ e))

    in_slots : (j : ℕ) → In (kinds_in w) j → get_or slots j 0 ≢ UNREGISTERED
    in_slots j t e = let r = in_known j t in omega (arith, r.slot, T.few, slot_word j r.small)

    -- ---- lists of kinds

    listed_of : (l : List ℕ) → Distinct l → ((j : ℕ) → In l j → In (kinds_in w) j) → KindsOk slots l
    listed_of l once known =
        let small : (j : ℕ) → MAX_KINDS ≤ j → count_of eqb j l ≡ 0 =
        λ j h. elim (dec_le 1 (count_of eqb j l)) [ yes c ↦ absurd (omega (arith, (in_known j (known j (count_in l j c))).small)) | no c ↦ omega arith ] in
        record { once = record { once = once; known = small }; registered = λ j c. in_slots j (known j (count_in l j c)) }

    of_listed : (l : List ℕ) → KindsOk slots l → (j : ℕ) → In l j → In (kinds_in w) j
    of_listed l L j t =
        let c = in_count l j t in
        let h : j < MAX_KINDS = elim (dec_lt j MAX_KINDS) [ yes q ↦ q | no q ↦ absurd (omega (arith, L.once.known j (omega arith))) ] in
        slots_in j h (L.registered j c)

    staged_words : staged_len w ≤ LIST_CAPACITY → ENTITIES ≤ length w → table (staged_len w) (λ i. kind_of (staged_at w i)) ≡ between STAGED_KINDS (STAGED_KINDS + staged_len w) w
    staged_words few long = words_table w STAGED_KINDS (staged_len w) (omega arith)

    staged_are : EightOrSixteen v → Bits w → ENTITIES ≤ length w → ListOk w STAGED_KINDS (staged_len w) → StagedSound v (kinds_in w) (staged_in w)
    unfolding staged_in
    staged_are width bits long L =
        staged_sound v (kinds_in w) (staged_len w) (staged_at w) (between STAGED_KINDS (STAGED_KINDS + staged_len w) w) (staged_words L.few long) L.few L.listed.once.once
        (of_listed (between STAGED_KINDS (STAGED_KINDS + staged_len w) w) L.listed)
        (λ i.
        subst (λ (m : ℕ). ValueFits m (staged_at w i).value) (width_words v width)
        (digits_take z.stride (drop (STAGED_VALUES + STAGED_VALUE_LEN * i) w) (words_from (STAGED_VALUES + STAGED_VALUE_LEN * i) w bits)))

    are_staged : ENTITIES ≤ length w → staged_len w ≤ LIST_CAPACITY → StagedSound v (kinds_in w) (staged_in w) → ListOk w STAGED_KINDS (staged_len w)
    unfolding staged_in
    are_staged long few S =
        let e : map kind_of (table (staged_len w) (staged_at w)) ≡ between STAGED_KINDS (STAGED_KINDS + staged_len w) w = map_table kind_of (staged_len w) (staged_at w) ∙ staged_words few long in
        record {
          few = few;
          listed =
              listed_of (between STAGED_KINDS (STAGED_KINDS + staged_len w) w) (subst Distinct e S.once)
              (λ j t. S.known j (subst (λ (l : List ℕ). In l j) (sym e) t));
        }

    excluded_words : excluded_len w ≤ LIST_CAPACITY → ENTITIES ≤ length w → excluded_in w ≡ between EXCLUDED_KINDS (EXCLUDED_KINDS + excluded_len w) w
    unfolding excluded_in
    excluded_words few long = words_table w EXCLUDED_KINDS (excluded_len w) (omega arith)

    excluded_are : ENTITIES ≤ length w → ListOk w EXCLUDED_KINDS (excluded_len w) → ExcludedSound (kinds_in w) (excluded_in w)
    excluded_are long L =
        let e = excluded_words L.few long in
        record {
          few = omega (arith, ap length e, length_between EXCLUDED_KINDS (EXCLUDED_KINDS + excluded_len w) w (omega (arith, L.few)), L.few);
          once = subst Distinct (sym e) L.listed.once.once;
          known = λ j t. of_listed (between EXCLUDED_KINDS (EXCLUDED_KINDS + excluded_len w) w) L.listed j (subst (λ (l : List ℕ). In l j) e t);
        }

    are_excluded : ENTITIES ≤ length w → excluded_len w ≤ LIST_CAPACITY → ExcludedSound (kinds_in w) (excluded_in w) → ListOk w EXCLUDED_KINDS (excluded_len w)
    are_excluded long few S =
        let e = excluded_words few long in
        record {
          few = few;
          listed =
              listed_of (between EXCLUDED_KINDS (EXCLUDED_KINDS + excluded_len w) w) (subst Distinct e S.once)
              (λ j t. S.known j (subst (λ (l : List ℕ). In l j) (sym e) t));
        }

    -- ---- blocks

    block_of : (b : List ℕ) (f g : ℕ) (counts : List ℕ) → length b ≡ BLOCK_LEN → WellFormed (block_arrays b f) → g ≡ group_count (block_arrays b f)
        → Buildable (kinds_in w) (families_of counts (block_arrays b f)) → BlockSound b slots f g
    block_of b f g counts size good groups B =
        let a = block_arrays b f in
        let e = layout_kinds_law counts a good (block_sized b f size) in
        record {
          formed = record { size = size; good = good; groups = groups };
          registered = λ j c.
              in_slots j (B.known j (subst (λ (l : List ℕ). In l j) (sym e) (count_in (take (width_of a) a.kinds) j c)));
        }

    block_known : (b : List ℕ) (f g : ℕ) → BlockSound b slots f g → (j : ℕ) → In (take (width_of (block_arrays b f)) (block_arrays b f).kinds) j → Registered w j
    block_known b f g B j t =
        let l = take (width_of (block_arrays b f)) (block_arrays b f).kinds in
        let c = in_count l j t in
        let h : j < MAX_KINDS = elim (dec_lt j MAX_KINDS) [ yes q ↦ q | no q ↦ absurd (omega (arith, B.formed.good.kinds.known j (omega arith))) ] in
        in_known j (slots_in j h (B.registered j c))

  -- the kinds of the layout in force, word by word
  pub layout_known : TableSound w → k ≤ MAX_KINDS → ENTITIES ≤ length w → BlockSound (between LAYOUT GROUP_FAMILIES w) slots (layout_families w) (layout_groups w)
      → (i : ℕ) → i < width_of (layout_arrays w) → Registered w (get_or w (LAYOUT + i) 0)
  layout_known T most long B i h =
      let a = layout_arrays w in
      let wide : width_of a ≤ MAX_KINDS = B.formed.good.wide in
      let l = take (width_of a) a.kinds in
      let z : length a.kinds ≡ MAX_KINDS = (words_sized w long).kinds in
      let m : length l ≡ width_of a = length-take-le (width_of a) a.kinds (omega arith) in
      let e : get_or l i 0 ≡ get_or w (LAYOUT + i) 0 = get_or-take (width_of a) a.kinds i 0 h ∙ kind_word w i (omega arith) in
      subst (Registered w) e (block_known T most (between LAYOUT GROUP_FAMILIES w) (layout_families w) (layout_groups w) B (get_or l i 0) (at_in l i (omega arith)))

  -- ---- columns

  columns_are : SizeOk n k v w → Each k (ColumnOk z reg w) → Columns z k w
  columns_are Z C = record { shaped = shaped_of n v Z.limits.most Z.limits.width; few = Z.limits.most_kinds; size = Z.enough; columns = λ s h. (C s h).sound }

  abbrev live : List Entity
  live = (entities_in n w).live

  -- the entity of a row, as the words have it
  row_entity_law : (s : ℕ) → Lent z s w → (i : ℕ) → i < length (rows_of z s w) → (get_or (rows_of z s w) i no_row).entity ≡ entity_in w (column_start z s + ROWS + 2 * i)
  row_entity_law s L i h = sym (get_or-map entity_of (rows_of z s w) i no_row) ∙ key_word z s w L i h

  column_bits : Bits w → (s : ℕ) → Bits (column_of z s w)
  unfolding column_of
  column_bits bits s = between_below 4294967296 (column_start z s) (column_start z s + column_len z) w (omega arith) bits

  sets_are : TableSound w → Limits n k v → Bits w → Columns z k w → Each k (ColumnOk z reg w) → SetsSound v (kinds_in w) live (sets_in w)
  unfolding kinds_in sets_in
  sets_are T L bits D C =
      sets_sound reg (kind_at w) (slot_of w) (tabled T L.most_kinds) (λ s. rows_of z s w) v live
      (λ s h.
      let q : s < k = omega (arith, T.few) in
      record {
        once = rows_once z (column_of z s w) (C s q).sound;
        alive = λ i lt.
            subst (λ (e : Entity). 1 ≤ cnt e live) (sym (row_entity_law s (lent z k s w D q) i lt))
            (live_count (entity_in w (column_start z s + ROWS + 2 * i)) (entities_in n w) ((C s q).alive i (omega (arith, length_rows z (column_of z s w)))));
        values = λ i.
            subst (λ (m : ℕ). ValueFits m (get_or (rows_of z s w) i no_row).value) (width_words v L.width) (rows_values z (column_of z s w) (column_bits bits s) i);
      })

  alive_of : TableSound w → k ≤ MAX_KINDS → Columns z k w → SetsSound v (kinds_in w) live (sets_in w) → (s : ℕ) → s < reg → Each (length_of (column_of z s w)) (RowLive n w (column_start z s + ROWS))
  unfolding kinds_in sets_in
  alive_of T most D S s h i lt =
      let q : s < k = omega (arith, T.few) in
      let l : i < length (rows_of z s w) = omega (arith, length_rows z (column_of z s w)) in
      count_live (entity_in w (column_start z s + ROWS + 2 * i)) (entities_in n w)
      (subst (λ (e : Entity). 1 ≤ cnt e live) (row_entity_law s (lent z k s w D q) i l)
      (sets_alive reg (kind_at w) (slot_of w) (tabled T most) (λ s. rows_of z s w) live S s h i l))

  entities_are : Bits w → entity.EntityPartSound n (entity_part n w) → EntitiesSound n (entities_in n w)
  entities_are bits s =
      let e = entities_ok n (entity_part n w) s (between_below 4294967296 ENTITIES (ENTITIES + ENTITY_LEN * n) w (omega arith) bits) in
      record {
        few = rw (issued_is n (entity_part n w)) s.few;
        below = e.below;
        single = e.single;
        positive = e.positive;
        small = e.small;
      }

  counts_are : Bits w → caller_of w ≤ LAST_CALLER → CountsSound (counts_in w)
  counts_are bits low =
      record {
        caller = low;
        callers = length_table CALLERS (refusals_at w);
        most = λ c. elim (dec_lt c CALLERS) [
          | yes h ↦ omega (arith, get_d_table CALLERS (refusals_at w) c 0 h, bits (REFUSALS + c))
          | no h ↦ omega (arith, get_or-eq_default (table CALLERS (refusals_at w)) 0 {n = c} (omega (arith, length_table CALLERS (refusals_at w))))
        ];
      }

  -- ---- the layout in force

  abbrev a : Arrays
  a = layout_arrays w

  module _ (long : ENTITIES ≤ length w) where
    module _ (good : WellFormed a) (known : (i : ℕ) → i < width_of a → Registered w (get_or w (LAYOUT + i) 0)) where
      layout_are : LayoutOk z w → LayoutSound w
      layout_are Y =
          record {
            formed = good;
            count = Y.block.formed.groups;
            groups = λ g h. let H = Y.heads g h in heads_group w long good known (group_family_at w g) g H.of H.heads;
            none = λ s h o. subst (λ (l : List ℕ). In l (kind_at w s)) (sym (layout_words w long good)) (Y.own s h o);
          }

      are_heads : LayoutSound w → Each (layout_groups w) (HeadsOk z w)
      are_heads Y g h =
          let G = Y.groups g h in
          record { of = G.group; heads = group_heads w long good known (group_family_at w g) g G.group G }

      are_own : LayoutSound w → Each (registered_of w) (OwnOk z w (between LAYOUT (LAYOUT + width_of (layout_arrays w)) w))
      are_own Y s h o = subst (λ (l : List ℕ). In l (kind_at w s)) (layout_words w long good) (Y.none s h o)

      -- ---- the counts

      module _ (A : Arranged w) (S : SetsSound v (kinds_in w) live (sets_in w)) (once : (x : Entity) → cnt x live ≤ 1) (B : Buildable (kinds_in w) (layout_in w)) where
        abbrev of : ℕ → ℕ
        of g = group_family_at w g

        abbrev counts : List ℕ
        counts = between GROUP_COUNTS ENTITIES w

        inside : (g : ℕ) → g < group_count a → InFamily a (of g) g
        inside g lt = (A.layout.groups g (omega (arith, A.layout.count))).group

        groups_are : CountsOk z w → AllRight (sets_in w) live (layout_in w)
        unfolding layout_in
        groups_are K =
            families_right (kinds_in w) live (sets_in w) S once (families_of counts a) B.families
            (each_families (sets_in w) counts a good (words_sized w long) of inside
            (λ g lt. counted_at w long good known (of g) g (inside g lt) A (K g (omega (arith, A.layout.count)))))

        are_groups : AllRight (sets_in w) live (layout_in w) → CountsOk z w
        unfolding layout_in
        are_groups G g h =
            let F = right_families (kinds_in w) live (sets_in w) S once (families_of counts a) B.families G in
            let each = families_each (sets_in w) counts a good (words_sized w long) of inside F in
            let lt : g < group_count a = omega (arith, A.layout.count) in
            at_counted w long good known (of g) g (inside g lt) A (each g lt) (prior_fits (sets_in w) counts a good (words_sized w long) of inside each g lt)

  -- ---- from the clauses

  module _ (Z : SizeOk n k v w) (P : PartsOk z k w) where
    abbrev T : TableSound w
    T = table_sound P.table

    pub forced : (block : BlockSound (between LAYOUT GROUP_FAMILIES w) slots (layout_families w) (layout_groups w)) → Force z (layout_families w) w
    forced block =
        let l = size_long n k v w Z in
        force w l block.formed.good (layout_known T Z.limits.most_kinds l block) z k (columns_are Z P.columns) P.table.few

    -- what the check of the columns' own groups asks, with the layout's width read
    module _ (block : BlockSound (between LAYOUT GROUP_FAMILIES w) slots (layout_families w) (layout_groups w)) (width : ℕ) (e : ReadStart w LAYOUT_KIND_ENDS (layout_families w) width) where
      abbrev reach : ENTITIES ≤ length w
      reach = size_long n k v w Z

      pub width_is : width ≡ width_of a
      width_is = e.is ∙ sym (kind_start_word w (layout_families w) (omega (arith, block.formed.good.few)))

      pub own_room : Room z reg w
      own_room = room_less z k w (size_room n k v w Z) reg P.table.few

      pub own_heads : (s : ℕ) → s < reg → head_at z w s COLUMN_KIND < MAX_KINDS
      own_heads s h = (P.table.slots s h).small

      pub own_width : (width ≤ MAX_KINDS) × (LAYOUT_ARITIES ≤ length w)
      own_width = (omega (arith, width_is, block.formed.good.wide), omega (arith, reach))

      pub own_kinds : (i : ℕ) → i < width → get_or w (LAYOUT + i) 0 < MAX_KINDS
      own_kinds i h = (layout_known T Z.limits.most_kinds reach block i (omega (arith, width_is))).small

    pub groups_few : BlockSound (between LAYOUT GROUP_FAMILIES w) slots (layout_families w) (layout_groups w) → layout_groups w ≤ MAX_GROUP_COUNT
    groups_few block = omega (arith, block.formed.groups, block.formed.good.many)

    module _ (L : ListsOk w) (Y : LayoutOk z w) where
      abbrev most : k ≤ MAX_KINDS
      most = Z.limits.most_kinds

      abbrev long : ENTITIES ≤ length w
      long = size_long n k v w Z

      layout_sound : LayoutSound w
      layout_sound = layout_are long Y.block.formed.good (layout_known T most long Y.block) Y

      arranged_of : Arranged w
      arranged_of =
          record {
            limits = Z.limits;
            enough = Z.enough;
            table = T;
            entities = P.entities;
            columns = columns_are Z P.columns;
            vacant = λ s r h. empty_rows z (column_of z s w) ((P.columns s h).vacant r);
            staged = L.staged.few;
            excluded = L.excluded.few;
            caller = L.caller;
            rule = L.rule;
            draft = L.draft.formed.good;
            draft_count = L.draft.formed.groups;
            layout = layout_sound;
          }

      draft_are : Buildable (kinds_in w) (draft_in w)
      unfolding draft_in
      draft_are = block_buildable (between DRAFT LAYOUT w) slots (draft_families w) (draft_groups w) [] (kinds_in w) L.draft (slots_in T most)

      layout_build : Buildable (kinds_in w) (layout_in w)
      unfolding layout_in
      layout_build = block_buildable (between LAYOUT GROUP_FAMILIES w) slots (layout_families w) (layout_groups w) (between GROUP_COUNTS ENTITIES w) (kinds_in w) Y.block (slots_in T most)

      uncounted_are : model_sound.AllUncounted (draft_in w)
      unfolding draft_in
      uncounted_are = uncounted (draft_arrays w)

      module _ (bits : Bits w) (K : CountsOk z w) where
        abbrev E : EntitiesSound n (entities_in n w)
        E = entities_are bits P.entities

        abbrev S : SetsSound v (kinds_in w) live (sets_in w)
        S = sets_are T Z.limits bits (columns_are Z P.columns) P.columns

        means_of : model_sound.StoreSound (meaning w)
        unfolding meaning
        means_of =
            record {
              limits = Z.limits;
              kinds = kinds_are T most;
              entities = E;
              sets = S;
              staged = staged_are T most Z.limits.width bits long L.staged;
              excluded = excluded_are T most long L.excluded;
              draft = draft_are;
              uncounted = uncounted_are;
              layout = layout_build;
              groups = groups_are long Y.block.formed.good (layout_known T most long Y.block) arranged_of S (live_once (entities_in n w) E.single) layout_build K;
              counts = counts_are bits L.caller;
            }

        pub sound_of : StoreSound w
        sound_of = record { arranged = arranged_of; means = means_of }

  -- ---- and to them

  -- what the model says of the store that the words mean
  pub record Means : Type 0 where
    pub entities : EntitiesSound n (entities_in n w)
    pub sets : SetsSound v (kinds_in w) live (sets_in w)
    pub staged : StagedSound v (kinds_in w) (staged_in w)
    pub excluded : ExcludedSound (kinds_in w) (excluded_in w)
    pub draft : Buildable (kinds_in w) (draft_in w)
    pub layout : Buildable (kinds_in w) (layout_in w)
    pub groups : AllRight (sets_in w) live (layout_in w)

  means : model_sound.StoreSound (meaning w) → Means
  unfolding meaning
  means S = record { entities = S.entities; sets = S.sets; staged = S.staged; excluded = S.excluded; draft = S.draft; layout = S.layout; groups = S.groups }

  module _ (X : StoreSound w) where
    abbrev A : Arranged w
    A = X.arranged

    abbrev M : Means
    M = means X.means

    abbrev small : k ≤ MAX_KINDS
    small = A.limits.most_kinds

    pub size_of : SizeOk n k v w
    size_of = record { limits = A.limits; enough = A.enough }

    abbrev far : ENTITIES ≤ length w
    far = size_long n k v w size_of

    pub parts_of : PartsOk z k w
    parts_of =
        record {
          table = sound_table A.table;
          entities = A.entities;
          columns = λ s h.
              let none : reg ≤ s → length_of (column_of z s w) ≡ 0 = λ r. sym (length_rows z (column_of z s w)) ∙ ap length (A.vacant s r h) in
              record {
                sound = A.columns.columns s h;
                vacant = none;
                alive = λ i lt.
                    elim (dec_le reg s) [
                      | yes q ↦ absurd (omega (arith, none q))
                      | no q ↦ alive_of A.table small A.columns M.sets s (omega arith) i lt
                    ];
              };
        }

    draft_of : BlockSound (between DRAFT LAYOUT w) slots (draft_families w) (draft_groups w)
    unfolding draft_in
    draft_of =
        block_of A.table small (between DRAFT LAYOUT w) (draft_families w) (draft_groups w) [] (length_between DRAFT LAYOUT w (omega (arith, far))) A.draft A.draft_count M.draft

    layout_block : BlockSound (between LAYOUT GROUP_FAMILIES w) slots (layout_families w) (layout_groups w)
    unfolding layout_in
    layout_block =
        block_of A.table small (between LAYOUT GROUP_FAMILIES w) (layout_families w) (layout_groups w) (between GROUP_COUNTS ENTITIES w) (length_between LAYOUT GROUP_FAMILIES w (omega (arith, far)))
        A.layout.formed A.layout.count M.layout

    pub lists_of : ListsOk w
    lists_of =
        record {
          staged = are_staged A.table small far A.staged M.staged;
          excluded = are_excluded A.table small far A.excluded M.excluded;
          caller = A.caller;
          rule = A.rule;
          draft = draft_of;
        }

    kinds_known : (i : ℕ) → i < width_of a → Registered w (get_or w (LAYOUT + i) 0)
    kinds_known = layout_known A.table small far layout_block

    pub layout_of : LayoutOk z w
    layout_of =
        record {
          block = layout_block;
          heads = are_heads far A.layout.formed kinds_known A.layout;
          own = are_own far A.layout.formed kinds_known A.layout;
        }

    pub counts_of_law : CountsOk z w
    counts_of_law =
        are_groups far A.layout.formed kinds_known A M.sets (live_once (entities_in n w) M.entities.single) M.layout M.groups

-- ---- all clauses

pub sound_long : (w : List ℕ) → StoreSound w → ENTITIES ≤ length w
sound_long w X = size_long (capacity_of w) (kind_capacity_of w) (value_bytes_of w) w (size_of w X)

pub clauses_sound : (w : List ℕ) → Bits w → Clauses w ↔ StoreSound w
clauses_sound w bits = (
  (λ c. sound_of w c.ground.size c.ground.parts c.lists c.layout bits c.counts),
  (λ X. record { ground = record { size = size_of w X; parts = parts_of w X }; lists = lists_of w X; layout = layout_of w X; counts = counts_of_law w X }),
)

pub counts_left : (w : List ℕ) → (Ground w × ListsOk w) × LayoutOk (shape_of w) w → CountsOk (shape_of w) w ↔ Clauses w
counts_left w p = ((λ counts. record { ground = p.0.0; lists = p.0.1; layout = p.1; counts = counts }), (λ k. k.counts))

-- ---- the layout, by its width as it was read

pub layout_left : (w : List ℕ) (Z : SizeOk (capacity_of w) (kind_capacity_of w) (value_bytes_of w) w) (P : PartsOk (shape_of w) (kind_capacity_of w) w)
    → BlockSound (between LAYOUT GROUP_FAMILIES w) (between TABLE STAGED_KINDS w) (layout_families w) (layout_groups w) → Each (layout_groups w) (HeadsOk (shape_of w) w) → (width : ℕ) → width ≡ width_of (layout_arrays w)
    → Each (registered_of w) (OwnOk (shape_of w) w (between LAYOUT (LAYOUT + width) w)) ↔ LayoutOk (shape_of w) w
layout_left w Z P block heads width e = (
  (λ own. record { block = block; heads = heads; own = subst (λ (x : ℕ). Each (registered_of w) (OwnOk (shape_of w) w (between LAYOUT (LAYOUT + x) w))) e own }),
  (λ L. subst (λ (x : ℕ). Each (registered_of w) (OwnOk (shape_of w) w (between LAYOUT (LAYOUT + x) w))) (sym e) L.own),
)

-- ---- the parts, by the shape as it was read

pub parts_left : (z : Shape) (w : List ℕ) (k : ℕ) → z ≡ shape_of w → TableOk z k w → entity.EntityPartSound z.capacity (entity_part z.capacity w) → Each k (ColumnOk z (registered_of w) w) ↔ PartsOk (shape_of w) k w
parts_left z w k e table entities = (
  (λ columns. subst (λ (x : Shape). PartsOk x k w) e (record { table = table; entities = entities; columns = columns })),
  (λ P. subst (λ (x : Shape). Each k (ColumnOk x (registered_of w) w)) (sym e) P.columns),
)

-- ---- the size, by the words needed

by_test : {P : Type 0} (b : Bool) → (b ≡ true → P) → (b ≡ false → P → ⊥) → Decides b P
by_test true holds fails = holds refl
by_test false holds fails = fails refl

pub size_left : (n k v : ℕ) (w : List ℕ) (needed : ℕ) → Limits n k v → needed ≡ words_needed n k v → Decides (leb needed (length w)) (SizeOk n k v w)
size_left n k v w needed limits e = by_test (leb needed (length w)) (λ q. record { limits = limits; enough = omega (arith, column_start_needed n k v, e, leb-true needed (length w) q) }) (λ q Z. omega (arith, column_start_needed n k v, e, leb-false needed (length w) q, Z.enough))
