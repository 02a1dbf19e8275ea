-- The header while the draft becomes the layout. Assumes nothing.
use mathlib.Core.Path.{◌≡◌, refl, sym, ap, ◌∙◌}
use mathlib.Core.List.{List, [], ◌∷◌, ◌++◌}
use Prim.Native.Nat.{ℕ, zero, suc, ◌+◌, ◌-◌, ◌≤◌, ◌<◌}
use native.Mathlib.Omega.{arith}
use lib.ListN.{length, get_or, take, drop, length-append, length-drop}
use lib.Seq.{length-take-le, get_or-drop, get_or-take}
use Rattle.std.proofs.lemmas.List.{get_or_append_left, get_or-append_right}
use Rattle.model.specs.Numbers.{MAX_GROUP_COUNT}
use Rattle.words.specs.Offsets.{BLOCK_LEN, CALLER, DRAFT, DRAFT_FAMILIES, DRAFT_GROUPS, ENDS, ENTITIES, GROUP_COUNTS, GROUP_FAMILIES, GROUP_PLACES, LAYOUT, LAYOUT_ENDS, LAYOUT_FAMILIES, LAYOUT_GROUPS}
use Rattle.model.proofs.BoolLaws.{by-eq}
use Rattle.model.proofs.ListLaws.{drop_same}
use Rattle.words.proofs.Stores.{length_stores, miss, hit}
use Rattle.layout.specs.Layout.{start_of}
use Rattle.layout.proofs.Arrays.{group_order, groups_inside, block_at}
use Rattle.memory.specs.Header.{draft_families}
use Rattle.memory.specs.Meaning.{draft_arrays}
use Rattle.memory.specs.Arranged.{Arranged}
use Rattle.memory.proofs.Frames.{long}
use Rattle.layout_apply.specs.Steps.{Filled, Copied, FamilyEndsAsk, Numbered, switched, Prepared}
use Rattle.layout.proofs.Groups as groups

-- ---- the loops

-- the words before LAYOUT end with the draft's block: a copy of it stands behind them, and then what stood behind the layout's block
pub copied_block : (w before behind block : List ℕ) → ENTITIES ≤ length w → before ≡ take LAYOUT w → behind ≡ drop LAYOUT w → block ≡ take (length before - DRAFT) (drop DRAFT before)
    → Copied w BLOCK_LEN (before ++ (block ++ drop BLOCK_LEN behind))
copied_block w before behind block l eb ee ek =
    let lb : length before ≡ LAYOUT = ap length eb ∙ length-take-le LAYOUT w (omega arith) in
    let lk : length block ≡ BLOCK_LEN = ap length ek ∙ length-take-le (length before - DRAFT) (drop DRAFT before) (omega (arith, length-drop DRAFT before)) ∙ omega arith in
    let rest = drop BLOCK_LEN behind in
    let before_at : (i : ℕ) → i < LAYOUT → get_or before i 0 ≡ get_or w i 0 = λ i h. ap (λ (t : List ℕ). get_or t i 0) eb ∙ get_or-take LAYOUT w i 0 h in
    let block_is : (i : ℕ) → i < BLOCK_LEN → get_or block i 0 ≡ get_or w (DRAFT + i) 0 =
    λ i h. ap (λ (t : List ℕ). get_or t i 0) ek ∙ get_or-take (length before - DRAFT) (drop DRAFT before) i 0 (omega arith) ∙ get_or-drop DRAFT before i 0 ∙ before_at (DRAFT + i) (omega arith) in
    record {
      size = omega (arith, length-append before (block ++ rest), length-append block rest, length-drop BLOCK_LEN behind, ap length ee, length-drop LAYOUT w);
      here =
          λ i h.
          let here : LAYOUT + i - LAYOUT ≡ i = omega arith in
          get_or-append_right before (block ++ rest) LAYOUT (LAYOUT + i) 0 lb (omega arith) ∙ ap (λ (k : ℕ). get_or (block ++ rest) k 0) here ∙ get_or_append_left block rest 0 i (omega arith) ∙ block_is i h;
      before = λ i h. get_or_append_left before (block ++ rest) 0 i (omega arith) ∙ before_at i h;
      after =
          λ i h.
          let there : LAYOUT + (BLOCK_LEN + (i - LAYOUT - BLOCK_LEN)) ≡ i = omega arith in
          get_or-append_right before (block ++ rest) LAYOUT i 0 lb (omega arith) ∙ get_or-append_right block rest BLOCK_LEN (i - LAYOUT) 0 lk (omega arith)
          ∙ ap (λ (t : List ℕ). get_or (drop BLOCK_LEN t) (i - LAYOUT - BLOCK_LEN) 0) ee ∙ get_or-drop BLOCK_LEN (drop LAYOUT w) (i - LAYOUT - BLOCK_LEN) 0
          ∙ get_or-drop LAYOUT w (BLOCK_LEN + (i - LAYOUT - BLOCK_LEN)) 0 ∙ ap (λ (k : ℕ). get_or w k 0) there;
    }

pub number_none : (w : List ℕ) → Numbered w 0 w
number_none w = record { size = refl; here = λ f g h l u. absurd (omega arith); before = λ i h. refl; after = λ i h. refl }

-- ends that rise
earlier : (w : List ℕ) (n : ℕ) → FamilyEndsAsk w n → (f e : ℕ) → e < f → f ≤ n → get_or w (LAYOUT_ENDS + e) 0 ≤ start_of (drop LAYOUT_ENDS w) f
earlier w n A zero e h l = absurd (omega arith)
earlier w n A (suc f) e h l =
    by-eq e f
    (λ q. rw q (omega (arith, get_or-drop LAYOUT_ENDS w f 0)))
    (λ ne. omega (arith, earlier w n A f e (omega arith) (omega arith), A.rising f (omega arith), get_or-drop LAYOUT_ENDS w f 0))

-- the ends stay, so a family's start is read as it was
start_same : (w₀ w : List ℕ) → ((i : ℕ) → i < GROUP_FAMILIES → get_or w i 0 ≡ get_or w₀ i 0) → (f : ℕ) → f ≤ GROUP_PLACES → start_of (drop LAYOUT_ENDS w) f ≡ start_of (drop LAYOUT_ENDS w₀) f
start_same w₀ w same =
    groups.start_same (drop LAYOUT_ENDS w) (drop LAYOUT_ENDS w₀) GROUP_PLACES (λ i h. get_or-drop LAYOUT_ENDS w i 0 ∙ same (LAYOUT_ENDS + i) (omega arith) ∙ sym (get_or-drop LAYOUT_ENDS w₀ i 0))

-- where family f's groups start and end
pub record Spans (w₀ w : List ℕ) (f s e : ℕ) : Type 0 where
  pub starts : s ≡ start_of (drop LAYOUT_ENDS w₀) f
  pub ends : e ≡ get_or w₀ (LAYOUT_ENDS + f) 0
  pub order : s ≤ e
  pub most : e ≤ GROUP_PLACES
  pub long : ENTITIES ≤ length w

pub spans : (w₀ w : List ℕ) (n f s e : ℕ) → FamilyEndsAsk w₀ n → f < n → Numbered w₀ f w → s ≡ start_of (drop LAYOUT_ENDS w) f → e ≡ get_or w (LAYOUT_ENDS + f) 0 → Spans w₀ w f s e
spans w₀ w n f s e A h N es ee =
    let b : s ≡ start_of (drop LAYOUT_ENDS w₀) f = es ∙ start_same w₀ w N.before f (omega (arith, A.few)) in
    let d : e ≡ get_or w₀ (LAYOUT_ENDS + f) 0 = ee ∙ N.before (LAYOUT_ENDS + f) (omega (arith, A.few)) in
    record { starts = b; ends = d; order = omega (arith, A.rising f h); most = omega (arith, A.most f h); long = omega (arith, A.long, N.size) }

pub number_more : (w₀ w w' : List ℕ) (n f s e : ℕ) → FamilyEndsAsk w₀ n → f < n → Numbered w₀ f w → Spans w₀ w f s e → Filled w (GROUP_FAMILIES + s) (GROUP_FAMILIES + e) f w' → Numbered w₀ (f + 1) w'
number_more w₀ w w' n f s e A h N S F =
    let es = S.starts in
    let ee = S.ends in
    record {
      size = F.size ∙ N.size;
      here =
          λ i g hi l u.
          by-eq i f
          (λ q. F.here (GROUP_FAMILIES + g) (omega (arith, rw q at l)) (omega (arith, rw q at u)) ∙ sym q)
          (λ ne.
          let before : get_or w₀ (LAYOUT_ENDS + i) 0 ≤ start_of (drop LAYOUT_ENDS w₀) f = earlier w₀ n A f i (omega arith) (omega arith) in
          F.before (GROUP_FAMILIES + g) (omega arith) ∙ N.here i g (omega arith) l u);
      before = λ i hi. F.before i (omega arith) ∙ N.before i hi;
      after = λ i hi. F.after i (omega (arith, S.most)) ∙ N.after i hi;
    }

-- ---- the draft in the place of the layout

module _ (w : List ℕ) (A : Arranged w) (w₁ : List ℕ) (C : Copied w BLOCK_LEN w₁) where
  end_at : (f : ℕ) → f < GROUP_PLACES → get_or (draft_arrays w).ends f 0 ≡ get_or w₁ (LAYOUT_ENDS + f) 0
  end_at f h =
      let n : DRAFT + ENDS + f ≡ DRAFT + (ENDS + f) = omega arith in
      let k : LAYOUT + (ENDS + f) ≡ LAYOUT_ENDS + f = omega arith in
      block_at DRAFT w ENDS BLOCK_LEN f (omega arith) (omega arith) ∙ ap (λ (i : ℕ). get_or w i 0) n ∙ sym (C.here (ENDS + f) (omega arith)) ∙ ap (λ (i : ℕ). get_or w₁ i 0) k

  start_at : (f : ℕ) → f ≤ GROUP_PLACES → start_of (draft_arrays w).ends f ≡ start_of (drop LAYOUT_ENDS w₁) f
  start_at = groups.start_same (draft_arrays w).ends (drop LAYOUT_ENDS w₁) GROUP_PLACES (λ i h. end_at i h ∙ sym (get_or-drop LAYOUT_ENDS w₁ i 0))

  families_few : draft_families w ≤ MAX_GROUP_COUNT
  families_few = A.draft.few

  pub ends_ask : (n : ℕ) → n ≡ get_or w₁ DRAFT_FAMILIES 0 → FamilyEndsAsk w₁ n
  ends_ask n e =
      let k : n ≡ draft_families w = e ∙ C.before DRAFT_FAMILIES (omega arith) in
      record {
        long = omega (arith, C.size, long w A);
        few = omega (arith, families_few);
        rising = λ f h. omega (arith, group_order (draft_arrays w) A.draft f (omega arith), start_at f (omega (arith, families_few)), end_at f (omega (arith, families_few)));
        most = λ f h. omega (arith, groups_inside (draft_arrays w) A.draft f (omega arith), A.draft.many, end_at f (omega (arith, families_few)));
      }

  pub prepared : (n : ℕ) (w₂ w₃ w₄ : List ℕ) → n ≡ get_or w₁ DRAFT_FAMILIES 0 → Numbered w₁ n w₂ → Filled w₂ GROUP_COUNTS ENTITIES 0 w₃ → w₄ ≡ switched w₃ → Prepared w w₄
  prepared n w₂ w₃ w₄ e N F q =
      let k : n ≡ draft_families w = e ∙ C.before DRAFT_FAMILIES (omega arith) in
      let size₃ : length w₃ ≡ length w = F.size ∙ N.size ∙ C.size in
      let l : ENTITIES ≤ length w₃ = omega (arith, long w A) in
      let ss : List (ℕ × ℕ) = (LAYOUT_FAMILIES, get_or w₃ DRAFT_FAMILIES 0) ∷ (LAYOUT_GROUPS, get_or w₃ DRAFT_GROUPS 0) ∷ (DRAFT_FAMILIES, 0) ∷ (DRAFT_GROUPS, 0) ∷ [] in
      let low₃ : (i : ℕ) → i < LAYOUT → get_or w₃ i 0 ≡ get_or w i 0 = λ i h. F.before i (omega arith) ∙ N.before i (omega arith) ∙ C.before i h in
      let other : (i : ℕ) → CALLER ≤ i → get_or (switched w₃) i 0 ≡ get_or w₃ i 0 = λ i h. miss w₃ ss i (omega arith) in
      let size₄ : length (switched w₃) ≡ length w = length_stores w₃ ss ∙ size₃ in
      rw q
      (record {
        size = size₄;
        block = λ i h. other (LAYOUT + i) (omega arith) ∙ F.before (LAYOUT + i) (omega arith) ∙ N.before (LAYOUT + i) (omega arith) ∙ C.here i h;
        families = hit w₃ ss 0 LAYOUT_FAMILIES (get_or w₃ DRAFT_FAMILIES 0) (omega arith) (omega arith) ∙ low₃ DRAFT_FAMILIES (omega arith);
        groups = hit w₃ ss 1 LAYOUT_GROUPS (get_or w₃ DRAFT_GROUPS 0) (omega arith) (omega arith) ∙ low₃ DRAFT_GROUPS (omega arith);
        family =
            λ f g G.
            let u : f < GROUP_PLACES = omega (arith, families_few, G.family) in
            let v : get_or (draft_arrays w).ends f 0 ≤ MAX_GROUP_COUNT = omega (arith, groups_inside (draft_arrays w) A.draft f G.family, A.draft.many) in
            let z : g < MAX_GROUP_COUNT = omega (arith, G.high) in
            other (GROUP_FAMILIES + g) (omega arith) ∙ F.before (GROUP_FAMILIES + g) (omega arith)
            ∙ N.here f g (omega (arith, G.family)) (omega (arith, G.low, start_at f (omega arith))) (omega (arith, G.high, end_at f u));
        counts = λ g h. other (GROUP_COUNTS + g) (omega arith) ∙ F.here (GROUP_COUNTS + g) (omega arith) (omega arith);
        none = hit w₃ ss 2 DRAFT_FAMILIES 0 (omega arith) (omega arith);
        no_groups = hit w₃ ss 3 DRAFT_GROUPS 0 (omega arith) (omega arith);
        low = λ i h. miss w₃ ss i (omega arith) ∙ low₃ i (omega arith);
        lists = λ i a b. other i a ∙ low₃ i b;
        rest = drop_same ENTITIES w (switched w₃) size₄ (λ i h. other i (omega arith) ∙ F.after i h ∙ N.after i (omega arith) ∙ C.after i (omega arith));
      })
