-- The arrays of the layout in force as the words have them (docs/WORDS.md). Assumes nothing.
use mathlib.Core.Path.{◌≡◌, ap, ap₂, sym, ◌∙◌}
use mathlib.Core.List.{List}
use Prim.Native.Nat.{ℕ, ◌+◌, ◌≤◌, ◌<◌}
use native.Mathlib.Omega.{arith}
use lib.ListN.{length, get_or, drop}
use lib.Seq.{get_or-drop}
use Rattle.model.specs.Numbers.{MAX_KINDS}
use Rattle.words.specs.Offsets.{ARITIES, BLOCK_LEN, ENDS, ENTITIES, GROUP_COUNTS, GROUP_FAMILIES, GROUP_PLACES, KIND_ENDS, LAYOUT, LAYOUT_ARITIES, LAYOUT_ENDS, LAYOUT_FAMILIES, LAYOUT_KIND_ENDS}
use Rattle.words.specs.Part.{between}
use Rattle.layout.specs.Layout.{start_of}
use Rattle.layout.specs.Group.{arity_of, prior_of, prior_arity}
use Rattle.layout.specs.Reading.{word_arrays, ReadMetadata}
use Rattle.layout.specs.declared.group_metadata.GroupMetadata.{GroupMetadata}
use Rattle.layout.specs.ByValue.{ArraysSized}
use Rattle.layout.proofs.Arrays.{block_at, block_sized}
use Rattle.layout.proofs.Groups.{start_same, prior_same}
use Rattle.memory.specs.Meaning.{layout_arrays}
use Rattle.words.proofs.Part.{get_d_between, length_between}

module _ (w : List ℕ) where
  pub words_sized : ENTITIES ≤ length w → ArraysSized (layout_arrays w)
  words_sized long = block_sized (between LAYOUT GROUP_FAMILIES w) (get_or w LAYOUT_FAMILIES 0) (length_between LAYOUT GROUP_FAMILIES w (omega arith))

  pub kind_word : (i : ℕ) → i < MAX_KINDS → get_or (layout_arrays w).kinds i 0 ≡ get_or w (LAYOUT + i) 0
  kind_word i h = block_at LAYOUT w 0 ARITIES i (omega arith) (omega arith)

  pub arity_word : (g : ℕ) → g < GROUP_PLACES → arity_of (layout_arrays w) g ≡ get_or w (LAYOUT_ARITIES + g) 0
  arity_word g h = block_at LAYOUT w ARITIES KIND_ENDS g (omega arith) (omega arith)

  pub kind_end_word : (f : ℕ) → f < GROUP_PLACES → get_or (layout_arrays w).kind_ends f 0 ≡ get_or w (LAYOUT_KIND_ENDS + f) 0
  kind_end_word f h = block_at LAYOUT w KIND_ENDS ENDS f (omega arith) (omega arith)

  pub end_word : (f : ℕ) → f < GROUP_PLACES → get_or (layout_arrays w).ends f 0 ≡ get_or w (LAYOUT_ENDS + f) 0
  end_word f h = block_at LAYOUT w ENDS BLOCK_LEN f (omega arith) (omega arith)

  -- where family f's kinds and groups start
  pub kind_start_word : (f : ℕ) → f ≤ GROUP_PLACES → start_of (layout_arrays w).kind_ends f ≡ start_of (drop LAYOUT_KIND_ENDS w) f
  kind_start_word = start_same (layout_arrays w).kind_ends (drop LAYOUT_KIND_ENDS w) GROUP_PLACES (λ i h. kind_end_word i h ∙ sym (get_or-drop LAYOUT_KIND_ENDS w i 0))

  pub start_word : (f : ℕ) → f ≤ GROUP_PLACES → start_of (layout_arrays w).ends f ≡ start_of (drop LAYOUT_ENDS w) f
  start_word = start_same (layout_arrays w).ends (drop LAYOUT_ENDS w) GROUP_PLACES (λ i h. end_word i h ∙ sym (get_or-drop LAYOUT_ENDS w i 0))

  -- the arity and the count before group g of family f
  pub prior_word : (f g : ℕ) → g < GROUP_PLACES → prior_arity (layout_arrays w) f g ≡ prior_of (drop LAYOUT_ARITIES w) (start_of (layout_arrays w).ends f) g 0
  prior_word f g h =
      prior_same (layout_arrays w).arities (drop LAYOUT_ARITIES w) GROUP_PLACES (λ i l. arity_word i l ∙ sym (get_or-drop LAYOUT_ARITIES w i 0)) (start_of (layout_arrays w).ends f) g 0 (omega arith)

  pub prior_count_word : (start g none : ℕ) → g < GROUP_PLACES → prior_of (between GROUP_COUNTS ENTITIES w) start g none ≡ prior_of (drop GROUP_COUNTS w) start g none
  prior_count_word start g none h =
      prior_same (between GROUP_COUNTS ENTITIES w) (drop GROUP_COUNTS w) GROUP_PLACES (λ i l. get_d_between GROUP_COUNTS ENTITIES i w 0 (omega arith) ∙ sym (get_or-drop GROUP_COUNTS w i 0)) start g none (omega arith)

  -- a group's numbers as they were read
  pub metadata_words : (f g : ℕ) (r : GroupMetadata) → f < GROUP_PLACES → g < GROUP_PLACES → ReadMetadata (word_arrays w) f g r → ReadMetadata (layout_arrays w) f g r
  metadata_words f g r hf hg R =
      let k : start_of (drop LAYOUT_KIND_ENDS w) f ≡ start_of (layout_arrays w).kind_ends f = sym (kind_start_word f (omega arith)) in
      let s : start_of (drop LAYOUT_ENDS w) f ≡ start_of (layout_arrays w).ends f = sym (start_word f (omega arith)) in
      record {
        start = R.start ∙ k;
        new = R.new ∙ ap₂ (λ (x y : ℕ). x + y) k (ap (λ (x : ℕ). prior_of (drop LAYOUT_ARITIES w) x g 0) s ∙ sym (prior_word f g hg));
        end = R.end ∙ ap₂ (λ (x y : ℕ). x + y) k (get_or-drop LAYOUT_ARITIES w g 0 ∙ sym (arity_word g hg));
        first = R.first ∙ s;
        top = R.top ∙ get_or-drop LAYOUT_ENDS w f 0 ∙ sym (end_word f hf);
        small = R.small;
      }
