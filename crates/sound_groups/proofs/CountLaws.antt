-- A group's numbers as they were read; the first rows of two columns, word by word and entity by entity. Assumes nothing.
use mathlib.Core.Path.{◌≡◌, sym, ap, ap₂, subst, ◌∙◌}
use mathlib.Core.Bool.{Bool, true, false, not, ◌&&◌}
use mathlib.Core.List.{List}
use Prim.Native.Nat.{ℕ, ◌+◌, ◌*◌, ◌/◌, ◌%◌, ◌≤◌, ◌<◌}
use native.Mathlib.Omega.{arith}
use borrow.Author.Tests.{eqb-true, eq-eqb, not-false}
use lib.Dec.{eqb}
use lib.ListN.{length, get_or, drop}
use Rattle.model.specs.Numbers.{MAX_GROUP_COUNT, MAX_KINDS}
use Rattle.model.specs.Model.{Entity}
use Rattle.words.specs.Offsets.{COLUMN_KIND, GROUP_COUNTS, ROWS, ENTITIES, GROUP_PLACES, LAYOUT, LAYOUT_ARITIES, LAYOUT_ENDS}
use Rattle.words.specs.Part.{between}
use Rattle.model.proofs.BoolLaws.{by-eq}
use Rattle.words.specs.Counted.{how_many}
use Rattle.words.specs.Decides.{Decides, Each}
use Rattle.std.proofs.Common.{is_le, is_lt, nat_cmp}
use Rattle.std.proofs.lemmas.Bool.Decides.{nat_tests}
use Rattle.words.proofs.Decides.{decides_on}
use mathlib.Core.Logic.{◌↔◌}
use Rattle.words.proofs.Counted.{none_counted, counted_none}
use Rattle.words.specs.Shape.{column_start}
use Rattle.words.specs.declared.Shape.{Shape}
use Rattle.component.specs.Columns.{rows_of}
use Rattle.component.specs.Changes.{Lent}
use Rattle.sound_columns.specs.Rows.{entity_in, key_at}
use Rattle.layout.specs.Layout.{start_of}
use Rattle.layout.specs.Group.{InFamily, prior_of}
use Rattle.layout.specs.Reading.{ReadPrior, ReadMetadata, word_arrays}
use Rattle.layout.specs.declared.group_metadata.GroupMetadata.{GroupMetadata}
use Rattle.memory.specs.Header.{slot_of, count_at, layout_families}
use Rattle.memory.specs.Meaning.{layout_arrays}
use Rattle.memory.proofs.LayoutWords.{prior_count_word, metadata_words, start_word, end_word}
use Rattle.sound_columns.specs.Slots.{head_at, Over}
use Rattle.sound_groups.specs.Spans.{first_at, KindAt, KindsAt, Force, HeadOk, NewOk, OwnOk, Marked, SeenOk}
use Rattle.sound_groups.specs.Counts.{SameWord, EvenOk, rows_at, CountOk, GroupCounted}
use Rattle.sound_columns.proofs.SlotLaws.{key_word}

-- ---- a group's numbers, as they were read

pub new_moved : (z : Shape) (w : List ℕ) (g f : ℕ) (r : GroupMetadata) → ReadMetadata (layout_arrays w) f g r → (b : Bool)
    → Decides b (Over (LAYOUT + r.new_storage_start) (LAYOUT + r.storage_end) (HeadOk z w g (LAYOUT + r.storage_start))) → Decides b (NewOk z w f g)
new_moved z w g f r R b d = rw (R.new, R.end, R.start) at d

pub count_moved : (z : Shape) (w : List ℕ) (g f : ℕ) (r : GroupMetadata) (whole prior : ℕ) → g < GROUP_PLACES → ReadMetadata (layout_arrays w) f g r → length (rows_at z w (LAYOUT + r.storage_start)) ≡ whole
    → ReadPrior w GROUP_COUNTS r.first g whole prior → (b : Bool)
    → Decides b (CountOk z w (slot_of w (get_or w (LAYOUT + r.storage_start) 0)) (LAYOUT + r.new_storage_start) (LAYOUT + r.storage_end) prior (count_at w g)) → Decides b (GroupCounted z w f g)
count_moved z w g f r whole prior h R e q b d =
    let o : prior ≡ prior_of (between GROUP_COUNTS ENTITIES w) (start_of (layout_arrays w).ends f) g (length (rows_at z w (first_at w f))) =
    q.is ∙ sym (prior_count_word w r.first g whole h)
    ∙ ap₂ (λ (s x : ℕ). prior_of (between GROUP_COUNTS ENTITIES w) s g x) R.first (sym e ∙ ap (λ (i : ℕ). length (rows_at z w (LAYOUT + i))) R.start) in
    rw (o, R.new, R.end, R.start) at d

-- where a group of the layout in force stands, by its numbers as they were read
pub record Located (z : Shape) (w : List ℕ) (f g : ℕ) (r : GroupMetadata) : Type 0 where
  pub read : ReadMetadata (layout_arrays w) f g r
  pub low : LAYOUT + r.storage_start < LAYOUT_ARITIES
  pub first : KindAt z w (LAYOUT + r.storage_start)
  pub new : KindsAt z w (LAYOUT + r.new_storage_start) (LAYOUT + r.storage_end)
  pub family : f < GROUP_PLACES
  pub upward : r.storage_start ≤ r.new_storage_start

pub located : (z : Shape) (w : List ℕ) (families f g : ℕ) (r : GroupMetadata) → Force z families w → g < GROUP_PLACES → InFamily (layout_arrays w) f g → ReadMetadata (word_arrays w) f g r → Located z w f g r
located z w families f g r F hg I R =
    let hf : f < GROUP_PLACES = omega (arith, F.few, F.is, I.family) in
    let m = metadata_words w f g r hf hg R in
    let s = F.spans f g I in
    record {
      read = m;
      low = rw m.start s.low;
      first = subst (λ (x : ℕ). KindAt z w (LAYOUT + x)) (sym m.start) s.first;
      new = rw (m.new, m.end) s.new;
      family = hf;
      upward = omega (arith, m.start, m.new);
    }

-- what `(a..b).contains(&x)` answers
range_decided : (a b x : ℕ) (r : Bool) → r ≡ (is_le (nat_cmp a x) && is_lt (nat_cmp x b)) → Decides r ((a ≤ x) × (x < b))
range_decided a b x true e = grind (arith, nat_tests)
range_decided a b x false e = λ p. grind (arith, nat_tests)

-- a group is of a family that the layout has, between its first group and the next family's
pub in_family : (w : List ℕ) (f g families start : ℕ) → families ≡ layout_families w → families ≤ MAX_GROUP_COUNT → f < families → start ≡ start_of (drop LAYOUT_ENDS w) f
    → (b : Bool) → b ≡ (is_le (nat_cmp start g) && is_lt (nat_cmp g (get_or w (LAYOUT_ENDS + f) 0))) → Decides b (InFamily (layout_arrays w) f g)
in_family w f g families start is few h q b e =
    let low = start_word w f (omega arith) in
    let high = end_word w f (omega arith) in
    decides_on b (
      (λ p. record { family = omega (arith, is); low = omega (arith, low, q, p.0); high = omega (arith, high, p.1) }),
      (λ G. (omega (arith, low, q, G.low), omega (arith, high, G.high))),
    )
    (range_decided start (get_or w (LAYOUT_ENDS + f) 0) g b e)

-- ---- words that differ, counted

module _ (w : List ℕ) (a b : ℕ) where
  abbrev pub differs : ℕ → Bool
  differs i = not (eqb (get_or w (a + i) 0) (get_or w (b + i) 0))

  pub none_differ : (e : ℕ) → how_many e differs ≡ 0 → Each e (SameWord w a b)
  none_differ e q i h = eqb-true (get_or w (a + i) 0) (get_or w (b + i) 0) (not-false _ (none_counted differs e q i h))

  pub same_counted : (e : ℕ) → Each e (SameWord w a b) → how_many e differs ≡ 0
  same_counted e f = counted_none differs e (λ i h. ap not (eq-eqb (get_or w (a + i) 0) (get_or w (b + i) 0) (f i h)))

  pub rows_same : (e n : ℕ) → n ≡ how_many e differs → (n ≡ 0) ↔ Each e (SameWord w a b)
  rows_same e n q = (λ none. none_differ e (sym q ∙ none), λ same. q ∙ same_counted e same)

pub decides_not : (P : Type 0) (b : Bool) → Decides b P → Decides (not b) (P → ⊥)
decides_not P true holds = λ denied. denied holds
decides_not P false denied = denied

-- ---- entities and their words

module _ (w : List ℕ) (a b : ℕ) where
  entity_words_law : (i : ℕ) → SameWord w a b (2 * i) → SameWord w a b (2 * i + 1) → entity_in w (a + 2 * i) ≡ entity_in w (b + 2 * i)
  entity_words_law i x v =
      let y : get_or w (a + 2 * i + 1) 0 ≡ get_or w (b + 2 * i + 1) 0 = ap (λ (j : ℕ). get_or w j 0) (omega arith) ∙ v ∙ ap (λ (j : ℕ). get_or w j 0) (omega arith) in
      λ j. record { index = x j; version = y j }

  words_entity : (i : ℕ) → entity_in w (a + 2 * i) ≡ entity_in w (b + 2 * i) → SameWord w a b (2 * i) × SameWord w a b (2 * i + 1)
  words_entity i e = (
    ap (λ (x : Entity). x.index) e,
    ap (λ (j : ℕ). get_or w j 0) (omega arith) ∙ ap (λ (x : Entity). x.version) e ∙ ap (λ (j : ℕ). get_or w j 0) (omega arith),
  )

  pub words_entities : (c : ℕ) → Each (2 * c) (SameWord w a b) → Each c (λ i. entity_in w (a + 2 * i) ≡ entity_in w (b + 2 * i))
  words_entities c f i h = entity_words_law i (f (2 * i) (omega arith)) (f (2 * i + 1) (omega arith))

  pub entities_words : (c : ℕ) → Each c (λ i. entity_in w (a + 2 * i) ≡ entity_in w (b + 2 * i)) → Each (2 * c) (SameWord w a b)
  entities_words c f i h =
      let q = words_entity (i / 2) (f (i / 2) (omega arith)) in
      by-eq (i % 2) 0
      (λ e. let z : 2 * (i / 2) ≡ i = omega arith in rw z at q.0)
      (λ e. let z : 2 * (i / 2) + 1 ≡ i = omega arith in rw z at q.1)

-- ---- two slots, whose columns start at x and y

module _ (z : Shape) (s h c x y : ℕ) (w : List ℕ) (ex : x ≡ column_start z s) (ey : y ≡ column_start z h) (S : Lent z s w) (H : Lent z h w)
    (cs : c ≤ length (rows_of z s w)) (ch : c ≤ length (rows_of z h w)) where
  abbrev first : ℕ → Entity
  first i = entity_in w (x + ROWS + 2 * i)

  abbrev second : ℕ → Entity
  second i = entity_in w (y + ROWS + 2 * i)

  at_first : (i : ℕ) → i < c → key_at z w s i ≡ first i
  at_first i lt = key_word z s w S i (omega arith) ∙ ap (λ (b : ℕ). entity_in w (b + ROWS + 2 * i)) (sym ex)

  at_second : (i : ℕ) → i < c → key_at z w h i ≡ second i
  at_second i lt = key_word z h w H i (omega arith) ∙ ap (λ (b : ℕ). entity_in w (b + ROWS + 2 * i)) (sym ey)

  pub even_words : Each c (λ i. key_at z w s i ≡ key_at z w h i) → Each (2 * c) (SameWord w (x + ROWS) (y + ROWS))
  even_words f = entities_words w (x + ROWS) (y + ROWS) c (λ i lt. sym (at_first i lt) ∙ f i lt ∙ at_second i lt)

  pub words_even : Each (2 * c) (SameWord w (x + ROWS) (y + ROWS)) → Each c (λ i. key_at z w s i ≡ key_at z w h i)
  words_even f i lt = at_first i lt ∙ words_entities w (x + ROWS) (y + ROWS) c f i lt ∙ sym (at_second i lt)

-- the kind at word j, whose slot is s
pub even_decided : (z : Shape) (w : List ℕ) (h c j s x y : ℕ) → s ≡ slot_of w (get_or w j 0) → x ≡ column_start z s → y ≡ column_start z h → Lent z s w → Lent z h w
    → c ≤ length (rows_of z s w) → c ≤ length (rows_of z h w) → (b : Bool) → Decides b (Each (2 * c) (SameWord w (x + ROWS) (y + ROWS))) → Decides b (EvenOk z w h c j)
even_decided z w h c j s x y is ex ey S H cs ch b =
    decides_on b (
      (λ same. record { fits = subst (λ (k : ℕ). c ≤ length (rows_of z k w)) is cs; even = subst (λ (k : ℕ). Each c (λ i. key_at z w k i ≡ key_at z w h i)) is (words_even z s h c x y w ex ey S H cs ch same) }),
      (λ E. even_words z s h c x y w ex ey S H cs ch (subst (λ (k : ℕ). Each c (λ i. key_at z w k i ≡ key_at z w h i)) (sym is) E.even)),
    )

-- ---- a table of the kinds seen

pub seen_own : (z : Shape) (w : List ℕ) (seen : List Bool) (kinds : List ℕ) (reg : ℕ) → Marked seen kinds → ((s : ℕ) → s < reg → head_at z w s COLUMN_KIND < MAX_KINDS)
    → (b : Bool) → Decides b (Each reg (SeenOk z w seen)) → Decides b (Each reg (OwnOk z w kinds))
seen_own z w seen kinds reg M small true O = λ s h o. sym (M (head_at z w s COLUMN_KIND) (small s h)) ∙ O s h o
seen_own z w seen kinds reg M small false N = λ O. N (λ s h o. M (head_at z w s COLUMN_KIND) (small s h) ∙ O s h o)
