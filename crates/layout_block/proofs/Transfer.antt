-- A block read into the struct, and the struct written to a block: the used parts agree, so both mean the same. Assumes nothing.
use mathlib.Core.Path.{◌≡◌, refl, sym, ap, ◌∙◌}
use mathlib.Core.List.{List, []}
use Prim.Native.Nat.{ℕ, zero, suc, ◌+◌, ◌-◌, ◌≤◌, ◌<◌}
use native.Mathlib.Decide.{dec_lt}
use native.Mathlib.Omega.{arith}
use lib.ListN.{length, get_or, take}
use lib.Seq.{get_or-take, length-take-le}
use Rattle.model.specs.Numbers.{MAX_GROUP_ARITY, MAX_GROUP_COUNT, MAX_KINDS}
use Rattle.words.specs.Offsets.{ARITIES, BLOCK_LEN, ENDS, GROUP_PLACES, KIND_ENDS}
use Rattle.words.specs.Part.{between}
use Rattle.words.proofs.Part.{length_between, get_d_between}
use Rattle.layout.specs.Layout.{Arrays, arrays_in, block_arrays, start_of, width_of, group_count, arities_at, KindSet, WellFormed}
use Rattle.layout.specs.ByValue.{arrays_of, ArraysSized, layout_meaning, block_meaning, Formed}
use Rattle.layout.specs.declared.group_layout.Layout.{Layout}
use Rattle.layout.proofs.Family.{rising_at}
use Rattle.layout.proofs.Arrays.{kinds_inside, groups_inside, arities_length, block_sized}
use Rattle.layout_block.specs.Blocks.{BlockFormed, ReadFrom, WrittenTo, FetchAsk, Fetched, PutAt}
use Rattle.layout_block.proofs.Agree.{agree_means, agree_formed, agree_width, agree_groups}
use Rattle.model.proofs.ListLaws.{item_counts}

-- ---- what stands in the used parts is small

pub arity_small : (a : Arrays) → WellFormed a → ArraysSized a → (m : ℕ) → m ≤ a.families → (g : ℕ) → g < start_of a.ends m → get_or a.arities g 0 ≤ MAX_GROUP_ARITY
arity_small a good sized zero h g l = absurd (omega arith)
arity_small a good sized (suc m) h g l = go (dec_lt g (start_of a.ends m)) (λ l. arity_small a good sized m (omega arith) g l)
  where
    go : Dec (g < start_of a.ends m) → (g < start_of a.ends m → get_or a.arities g 0 ≤ MAX_GROUP_ARITY) → get_or a.arities g 0 ≤ MAX_GROUP_ARITY
    go (yes q) r = r q
    go (no q) r =
        let x = good.family m h in
        let s = start_of a.ends m in
        let j : s + (g - s) ≡ g = omega arith in
        let at : get_or (arities_at a m) (g - s) 0 ≡ get_or a.arities g 0 = get_d_between s (get_or a.ends m 0) (g - s) a.arities 0 (omega arith) ∙ ap (λ (i : ℕ). get_or a.arities i 0) j in
        omega (arith, rising_at 1 _ (arities_at a m) (g - s) x.rising (omega (arith, arities_length a good sized m h)), x.most)

pub kind_small_law : (ks : List ℕ) → KindSet ks → (i : ℕ) → i < length ks → get_or ks i 0 < MAX_KINDS
kind_small_law ks s i h = go (dec_lt (get_or ks i 0) MAX_KINDS)
  where
    go : Dec (get_or ks i 0 < MAX_KINDS) → get_or ks i 0 < MAX_KINDS
    go (yes q) = q
    go (no q) = absurd (omega (arith, item_counts ks i h, s.known (get_or ks i 0) (omega arith)))

-- ---- reading

module _ (w : List ℕ) (n g width : ℕ) (f : BlockFormed w n g) (ew : width ≡ start_of (between KIND_ENDS ENDS w) n) where
  abbrev a : Arrays
  a = block_arrays w n

  sized : ArraysSized a
  sized = block_sized w n f.size

  pub width_small : width ≤ MAX_KINDS
  width_small = omega (arith, ew, f.good.wide)

  pub groups_small : g ≤ MAX_GROUP_COUNT
  groups_small = omega (arith, f.groups, f.good.many)

  kind_word : (i : ℕ) → i < width → get_or (take (width_of a) a.kinds) i 0 ≡ get_or w i 0
  kind_word i h =
      get_or-take (width_of a) a.kinds i 0 (omega (arith, ew)) ∙ get_d_between 0 ARITIES i w 0 (omega (arith, width_small)) ∙ ap (λ (j : ℕ). get_or w j 0) (omega arith)

  pub kinds_ask : (d : List ℕ) → length d ≡ MAX_KINDS → FetchAsk d (take width w)
  kinds_ask d e =
      let l : length (take width w) ≡ width = length-take-le width w (omega (arith, width_small, f.size)) in
      record {
        room = omega (arith, width_small);
        small = λ i h.
            let k = kind_small_law (take (width_of a) a.kinds) f.good.kinds i (omega (arith, length-take-le (width_of a) a.kinds (omega (arith, f.good.wide, sized.kinds)), ew)) in
            omega (arith, get_or-take width w i 0 (omega arith), kind_word i (omega arith));
      }

  pub arities_ask : (d : List ℕ) → length d ≡ GROUP_PLACES → FetchAsk d (between ARITIES (ARITIES + g) w)
  arities_ask d e =
      let l = length_between ARITIES (ARITIES + g) w (omega (arith, groups_small, f.size)) in
      record {
        room = omega (arith, groups_small);
        small = λ i h.
            omega (arith, get_d_between ARITIES (ARITIES + g) i w 0 (omega arith), get_d_between ARITIES KIND_ENDS i w 0 (omega (arith, groups_small)), arity_small a f.good sized n (omega arith) i (omega (arith, f.groups)));
      }

  pub kind_ends_ask : (d : List ℕ) → length d ≡ GROUP_PLACES → FetchAsk d (between KIND_ENDS (KIND_ENDS + n) w)
  kind_ends_ask d e =
      let l = length_between KIND_ENDS (KIND_ENDS + n) w (omega (arith, f.good.few, f.size)) in
      record {
        room = omega (arith, f.good.few);
        small = λ i h.
            omega (arith, get_d_between KIND_ENDS (KIND_ENDS + n) i w 0 (omega arith), get_d_between KIND_ENDS ENDS i w 0 (omega (arith, f.good.few)), kinds_inside a f.good i (omega arith), f.good.wide);
      }

  pub ends_ask : (d : List ℕ) → length d ≡ GROUP_PLACES → FetchAsk d (between ENDS (ENDS + n) w)
  ends_ask d e =
      let l = length_between ENDS (ENDS + n) w (omega (arith, f.good.few, f.size)) in
      record {
        room = omega (arith, f.good.few);
        small = λ i h.
            omega (arith, get_d_between ENDS (ENDS + n) i w 0 (omega arith), get_d_between ENDS BLOCK_LEN i w 0 (omega (arith, f.good.few)), groups_inside a f.good i (omega arith), f.good.many);
      }

  module _ (d₁ d₂ d₃ d₄ ks ars kes ges : List ℕ) (l₁ : length d₁ ≡ MAX_KINDS) (l₂ : length d₂ ≡ GROUP_PLACES) (l₃ : length d₃ ≡ GROUP_PLACES) (l₄ : length d₄ ≡ GROUP_PLACES)
      (f₁ : Fetched d₁ (take width w) ks) (f₂ : Fetched d₂ (between ARITIES (ARITIES + g) w) ars) (f₃ : Fetched d₃ (between KIND_ENDS (KIND_ENDS + n) w) kes) (f₄ : Fetched d₄ (between ENDS (ENDS + n) w) ges) where
    sized' : ArraysSized (arrays_in ks ars kes ges n)
    sized' = record { kinds = f₁.size ∙ l₁; arities = f₂.size ∙ l₂; kind_ends = f₃.size ∙ l₃; ends = f₄.size ∙ l₄ }

    same_kind : (i : ℕ) → i < width_of a → get_or a.kinds i 0 ≡ get_or ks i 0
    same_kind i h =
        let l : length (take width w) ≡ width = length-take-le width w (omega (arith, width_small, f.size)) in
        sym (get_or-take (width_of a) a.kinds i 0 h) ∙ kind_word i (omega (arith, ew)) ∙ sym (get_or-take width w i 0 (omega (arith, ew))) ∙ sym (f₁.front i (omega (arith, ew)))

    same_arity : (i : ℕ) → i < group_count a → get_or a.arities i 0 ≡ get_or ars i 0
    same_arity i h =
        get_d_between ARITIES KIND_ENDS i w 0 (omega (arith, f.good.many)) ∙ sym (get_d_between ARITIES (ARITIES + g) i w 0 (omega (arith, f.groups)))
        ∙ sym (f₂.front i (omega (arith, f.groups, length_between ARITIES (ARITIES + g) w (omega (arith, groups_small, f.size)))))

    same_kind_end : (i : ℕ) → i < n → get_or a.kind_ends i 0 ≡ get_or kes i 0
    same_kind_end i h =
        get_d_between KIND_ENDS ENDS i w 0 (omega (arith, f.good.few)) ∙ sym (get_d_between KIND_ENDS (KIND_ENDS + n) i w 0 (omega arith))
        ∙ sym (f₃.front i (omega (arith, length_between KIND_ENDS (KIND_ENDS + n) w (omega (arith, f.good.few, f.size)))))

    same_end : (i : ℕ) → i < n → get_or a.ends i 0 ≡ get_or ges i 0
    same_end i h =
        get_d_between ENDS BLOCK_LEN i w 0 (omega (arith, f.good.few)) ∙ sym (get_d_between ENDS (ENDS + n) i w 0 (omega arith))
        ∙ sym (f₄.front i (omega (arith, length_between ENDS (ENDS + n) w (omega (arith, f.good.few, f.size)))))

    pub read_done : ReadFrom w n g (record { kinds = ks; arities = ars; kind_ends = kes; ends = ges; families = n; width = width; groups = g })
    read_done =
        record {
          formed = record {
            good = agree_formed n a.kinds a.arities a.kind_ends a.ends ks ars kes ges f.good sized sized' same_kind_end same_end same_kind same_arity;
            width = ew ∙ sym (agree_width n a.kinds a.arities a.kind_ends a.ends ks ars kes ges f.good sized sized' same_kind_end same_end same_kind same_arity);
            groups = f.groups ∙ sym (agree_groups n a.kinds a.arities a.kind_ends a.ends ks ars kes ges f.good sized sized' same_kind_end same_end same_kind same_arity);
          };
          families = refl;
          groups = refl;
          means = agree_means n a.kinds a.arities a.kind_ends a.ends ks ars kes ges f.good sized sized' same_kind_end same_end same_kind same_arity;
        }

-- ---- writing

module _ (l : Layout) (formed : Formed l) (long : ArraysSized (arrays_of l)) (w w₁ w₂ w₃ w₄ : List ℕ) (size : length w ≡ BLOCK_LEN)
    (p₁ : PutAt w 0 (take l.width l.kinds) w₁) (p₂ : PutAt w₁ ARITIES (take l.groups l.arities) w₂)
    (p₃ : PutAt w₂ KIND_ENDS (take l.families l.kind_ends) w₃) (p₄ : PutAt w₃ ENDS (take l.families l.ends) w₄) where
  abbrev b : Arrays
  b = arrays_of l

  wide : l.width ≤ MAX_KINDS
  wide = omega (arith, formed.width, formed.good.wide)

  many : l.groups ≤ MAX_GROUP_COUNT
  many = omega (arith, formed.groups, formed.good.many)

  length₁ : length (take l.width l.kinds) ≡ l.width
  length₁ = length-take-le l.width l.kinds (omega (arith, wide, long.kinds))

  length₂ : length (take l.groups l.arities) ≡ l.groups
  length₂ = length-take-le l.groups l.arities (omega (arith, many, long.arities))

  length₃ : length (take l.families l.kind_ends) ≡ l.families
  length₃ = length-take-le l.families l.kind_ends (omega (arith, formed.good.few, long.kind_ends))

  length₄ : length (take l.families l.ends) ≡ l.families
  length₄ = length-take-le l.families l.ends (omega (arith, formed.good.few, long.ends))

  size' : length w₄ ≡ BLOCK_LEN
  size' = p₄.size ∙ p₃.size ∙ p₂.size ∙ p₁.size ∙ size

  put_kind : (i : ℕ) → i < width_of b → get_or l.kinds i 0 ≡ get_or (between 0 ARITIES w₄) i 0
  put_kind i h =
      let h' : i < l.width = omega (arith, formed.width) in
      sym (get_or-take l.width l.kinds i 0 h') ∙ sym (p₁.here i (omega (arith, length₁)))
      ∙ sym (p₄.before (0 + i) (omega (arith, wide)) ∙ p₃.before (0 + i) (omega (arith, wide)) ∙ p₂.before (0 + i) (omega (arith, wide)))
      ∙ sym (get_d_between 0 ARITIES i w₄ 0 (omega (arith, wide)))

  put_arity : (i : ℕ) → i < group_count b → get_or l.arities i 0 ≡ get_or (between ARITIES KIND_ENDS w₄) i 0
  put_arity i h =
      let h' : i < l.groups = omega (arith, formed.groups) in
      sym (get_or-take l.groups l.arities i 0 h') ∙ sym (p₂.here i (omega (arith, length₂)))
      ∙ sym (p₄.before (ARITIES + i) (omega (arith, many)) ∙ p₃.before (ARITIES + i) (omega (arith, many)))
      ∙ sym (get_d_between ARITIES KIND_ENDS i w₄ 0 (omega (arith, many)))

  put_kind_end : (i : ℕ) → i < l.families → get_or l.kind_ends i 0 ≡ get_or (between KIND_ENDS ENDS w₄) i 0
  put_kind_end i h =
      sym (get_or-take l.families l.kind_ends i 0 h) ∙ sym (p₃.here i (omega (arith, length₃)))
      ∙ sym (p₄.before (KIND_ENDS + i) (omega (arith, formed.good.few)))
      ∙ sym (get_d_between KIND_ENDS ENDS i w₄ 0 (omega (arith, formed.good.few)))

  put_end : (i : ℕ) → i < l.families → get_or l.ends i 0 ≡ get_or (between ENDS BLOCK_LEN w₄) i 0
  put_end i h =
      sym (get_or-take l.families l.ends i 0 h) ∙ sym (p₄.here i (omega (arith, length₄)))
      ∙ sym (get_d_between ENDS BLOCK_LEN i w₄ 0 (omega (arith, formed.good.few)))

  pub write_done : WrittenTo l w₄
  write_done =
      let s = block_sized w₄ l.families size' in
      record {
        formed = record {
          size = size';
          good = agree_formed l.families l.kinds l.arities l.kind_ends l.ends _ _ _ _ formed.good long s put_kind_end put_end put_kind put_arity;
          groups = formed.groups ∙ sym (agree_groups l.families l.kinds l.arities l.kind_ends l.ends _ _ _ _ formed.good long s put_kind_end put_end put_kind put_arity);
        };
        means = agree_means l.families l.kinds l.arities l.kind_ends l.ends _ _ _ _ formed.good long s put_kind_end put_end put_kind put_arity;
      }

-- ---- there and back

-- what was written is read again
pub round_trip : (l : Layout) (w : List ℕ) (r : Layout) → WrittenTo l w → ReadFrom w l.families l.groups r → layout_meaning r ≡ layout_meaning l
round_trip l w r wrote read = read.means [] ∙ wrote.means []

-- a block that is read and written again means what it meant
pub trip_round : (w : List ℕ) (n g : ℕ) (r : Layout) (w' : List ℕ) → ReadFrom w n g r → WrittenTo r w' → block_meaning w' n ≡ block_meaning w n
trip_round w n g r w' read wrote = ap (block_meaning w') (sym read.families) ∙ wrote.means [] ∙ read.means []
