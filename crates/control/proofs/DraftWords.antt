-- The draft's block and its two numbers: read and written. Assumes nothing.
use mathlib.Core.Path.{◌≡◌, sym, ap, ◌∙◌, subst}
use mathlib.Core.List.{List, [], ◌∷◌}
use Prim.Native.Nat.{ℕ, ◌-◌, ◌≤◌, ◌<◌}
use native.Mathlib.Omega.{arith}
use lib.ListN.{length, get_or, drop}
use Rattle.words.specs.Offsets.{CALLER, DRAFT, DRAFT_FAMILIES, DRAFT_GROUPS, ENTITIES, EXCLUDED_LEN, LAYOUT, LAYOUT_FAMILIES, STAGED_LEN, VALUE_WIDTH}
use Rattle.model.specs.Model.{Family}
use Rattle.model.specs.Store.{with_control, with_draft}
use Rattle.words.specs.Stores.{stores}
use Rattle.words.proofs.Stores.{length_stores, miss, hit, drop_stores}
use Rattle.words.specs.Part.{between}
use Rattle.words.proofs.Part.{patch, length_between, patch_front, patch_between, patch_rest, patch_length}
use Rattle.layout.specs.declared.group_layout.Layout.{Layout}
use Rattle.layout.specs.Layout.{block_arrays, WellFormed, group_count, families_of}
use Rattle.layout.specs.ByValue.{arrays_of}
use Rattle.layout_block.specs.Blocks.{BlockFormed, ReadFrom, WrittenTo}
use Rattle.memory.specs.Header.{draft_families, draft_groups}
use Rattle.words.specs.Word.{Word}
use Rattle.memory.specs.Meaning.{draft_arrays, draft_in, staged_in, excluded_in, control_in, meaning}
use Rattle.memory.specs.Arranged.{Arranged, Becomes}
use Rattle.memory.proofs.Frames.{staged_same, excluded_same, counts_kept, long}
use Rattle.model.proofs.ListLaws.{drop_later, word_front, word_rest}
use Rattle.memory.proofs.Becomes.{Static, control_becomes}
use Rattle.control.specs.Draft.{IsDraft, drafting}

-- ---- read

pub draft_block : (w : List ℕ) → Arranged w → (f g : ℕ) → Word w DRAFT_FAMILIES f → Word w DRAFT_GROUPS g → BlockFormed (between DRAFT LAYOUT w) f g
draft_block w A f g hf hg =
    record {
      size = length_between DRAFT LAYOUT w (omega (arith, long w A));
      good = rw hf.is A.draft;
      groups = rw (hf.is, hg.is) A.draft_count;
    }

pub is_draft : (w : List ℕ) → (f g : ℕ) → Word w DRAFT_FAMILIES f → (r : Layout) → ReadFrom (between DRAFT LAYOUT w) f g r → IsDraft w r
unfolding meaning draft_in
is_draft w f g hf r R = record { formed = R.formed; means = R.means [] ∙ ap (λ (n : ℕ). families_of [] (block_arrays (between DRAFT LAYOUT w) n)) hf.is }

-- ---- words that differ in the draft alone

record Drafted (w w' : List ℕ) : Type 0 where
  pub size : length w' ≡ length w
  pub low : (i : ℕ) → i < DRAFT_FAMILIES → get_or w' i 0 ≡ get_or w i 0
  pub middle : (i : ℕ) → LAYOUT_FAMILIES ≤ i → i < DRAFT → get_or w' i 0 ≡ get_or w i 0
  pub upper : (i : ℕ) → LAYOUT ≤ i → i < ENTITIES → get_or w' i 0 ≡ get_or w i 0
  pub rest : drop ENTITIES w' ≡ drop ENTITIES w

module _ (w w' : List ℕ) (A : Arranged w) (D : Drafted w w') where
  static : Static w w'
  static =
      record {
        size = D.size;
        limits = λ i h. D.low i (omega arith);
        force = λ i a b. D.middle i a (omega arith);
        told = λ i a b. D.middle i (omega arith) (omega arith);
        table = λ i a b. D.middle i (omega arith) (omega arith);
        layout = λ i a b. D.upper i a (omega arith);
        rest = D.rest;
      }

  drafted_becomes : (fs : List Family) → WellFormed (draft_arrays w') → draft_groups w' ≡ group_count (draft_arrays w') → families_of [] (draft_arrays w') ≡ fs
      → Becomes w w' (with_control (meaning w) (with_draft (meaning w).control fs))
  unfolding meaning draft_in
  drafted_becomes fs good groups e =
      let B =
      control_becomes w w' A static (λ i a b. D.upper i (omega arith) b) (omega (arith, D.low STAGED_LEN (omega arith), A.staged)) (omega (arith, D.low EXCLUDED_LEN (omega arith), A.excluded)) (omega (arith, D.middle CALLER (omega arith) (omega arith), A.caller)) good groups in
      let s : staged_in w' ≡ staged_in w = staged_same w w' D.size A (D.middle VALUE_WIDTH (omega arith) (omega arith)) (D.low STAGED_LEN (omega arith)) (λ i a b. D.middle i (omega arith) (omega arith)) in
      let x : excluded_in w' ≡ excluded_in w = excluded_same w w' D.size A.excluded (D.low EXCLUDED_LEN (omega arith)) (λ i a b. D.middle i (omega arith) (omega arith)) in
      let c = counts_kept w w' (λ i a b. D.middle i (omega arith) (omega arith)) in
      let k : control_in w' ≡ with_draft (control_in w) fs = λ i. record { staged = s i; excluded = x i; draft = e i; counts = c i } in
      record { arranged = B.arranged; means = B.means ∙ ap (with_control (meaning w)) k; size = B.size; past = B.past }

-- ---- written

module _ (w : List ℕ) (A : Arranged w) (l : Layout) (ys : List ℕ) (W : WrittenTo l ys) where
  abbrev ss : List (ℕ × ℕ)
  ss = (DRAFT_FAMILIES, l.families) ∷ (DRAFT_GROUPS, l.groups) ∷ []

  abbrev v : List ℕ
  v = stores w ss

  fits : LAYOUT ≤ length v
  fits = omega (arith, length_stores w ss, long w A)

  sized : length ys ≡ LAYOUT - DRAFT
  sized = W.formed.size

  front : (i : ℕ) → i < DRAFT → get_or (patch DRAFT LAYOUT v ys) i 0 ≡ get_or v i 0
  front i h = word_front DRAFT v (patch DRAFT LAYOUT v ys) (patch_front DRAFT LAYOUT v ys (omega arith) fits sized) i h

  beyond : drop LAYOUT (patch DRAFT LAYOUT v ys) ≡ drop LAYOUT v
  beyond = patch_rest DRAFT LAYOUT v ys (omega arith) fits sized

  written : Drafted w (patch DRAFT LAYOUT v ys)
  written =
      record {
        size = patch_length DRAFT LAYOUT v ys (omega arith) fits sized ∙ length_stores w ss;
        low = λ i h. front i (omega arith) ∙ miss w ss i (omega arith);
        middle = λ i a b. front i b ∙ miss w ss i (omega arith);
        upper = λ i a b. word_rest LAYOUT v (patch DRAFT LAYOUT v ys) beyond i a ∙ miss w ss i (omega arith);
        rest = drop_later LAYOUT ENTITIES v (patch DRAFT LAYOUT v ys) (omega arith) beyond ∙ drop_stores ENTITIES w ss (omega arith);
      }

  arrays : draft_arrays (patch DRAFT LAYOUT v ys) ≡ block_arrays ys l.families
  arrays =
      ap (λ (b : List ℕ). block_arrays b (draft_families (patch DRAFT LAYOUT v ys))) (patch_between DRAFT LAYOUT v ys (omega arith) fits sized)
      ∙ ap (block_arrays ys) (front DRAFT_FAMILIES (omega arith) ∙ hit w ss 0 DRAFT_FAMILIES l.families (omega arith) (omega (arith, long w A)))

  groups : draft_groups (patch DRAFT LAYOUT v ys) ≡ l.groups
  groups = front DRAFT_GROUPS (omega arith) ∙ hit w ss 1 DRAFT_GROUPS l.groups (omega arith) (omega (arith, long w A))

  pub draft_becomes : Becomes w (patch DRAFT LAYOUT v ys) (drafting l (meaning w))
  draft_becomes =
      drafted_becomes w (patch DRAFT LAYOUT v ys) A written (families_of [] (arrays_of l)) (subst WellFormed (sym arrays) W.formed.good)
      (groups ∙ W.formed.groups ∙ sym (ap group_count arrays)) (ap (families_of []) arrays ∙ W.means [])
