-- The staged components, the excluded kinds, the caller and the refusal counts: what is read of them, and what a few stores there make of the store.
-- Assumes nothing.
use mathlib.Core.Path.{◌≡◌, refl, sym, ap, ◌∙◌, subst}
use mathlib.Core.Logic.{◌≢◌}
use mathlib.Core.List.{List, [], ◌∷◌, ◌++◌}
use Prim.Native.Nat.{ℕ, ◌+◌, ◌*◌, ◌≤◌, ◌<◌}
use native.Mathlib.Numerals.{add-one}
use native.Mathlib.Omega.{arith}
use mir.Val.{Fits}
use mir.Syntax.{w32}
use lib.ListN.{length, get_or, set, take, drop}
use lib.Seq.{sets, length-sets, set-get_or, get_or-set_same, get_or-set_other}
use Rattle.model.specs.Numbers.{CALLERS, LAST_CALLER, LIST_CAPACITY, MAX_REFUSALS, MAX_KINDS, stride_of}
use Rattle.words.specs.Offsets.{CALLER, DRAFT, DRAFT_FAMILIES, DRAFT_GROUPS, ENTITIES, EXCLUDED_KINDS, EXCLUDED_LEN, MORE_SETTINGS, REFUSALS, STAGED_KINDS, STAGED_LEN, STAGED_VALUE_LEN, STAGED_VALUES, TABLE, VALUE_WIDTH}
use Rattle.model.specs.Model.{Component, Family}
use Rattle.model.specs.Sound.{no_component}
use Rattle.model.specs.Store.{Counts, Control, with_control, with_counts, with_caller, empty_staged, empty_both, own_refusals, one_more, counted}
use Rattle.model.proofs.Counts.{one_more_up, one_more_full}
use Rattle.words.specs.Table.{table}
use Rattle.words.proofs.Tables.{length_table, get_d_table, table_same, table_set, table_snoc}
use Rattle.words.specs.Stores.{stores}
use Rattle.words.proofs.Stores.{length_stores, miss, hit, Misses, StoresBelow, drop_stores}
use Rattle.words.specs.Shape.{shape_of}
use Rattle.values.specs.declared.Value.{Value}
use Rattle.values.specs.Values.{value_of, digits, words_of}
use Rattle.values.proofs.Numbers.{length_words_of}
use Rattle.values.proofs.Places.{word_before, word_after, drop_after, run_hit, run_before, run_same}
use Rattle.layout.specs.Layout.{WellFormed, group_count, families_of}
use Rattle.memory.specs.Header.{staged_len, excluded_len, caller_of, refusals_at, newer_of, staged_kind_at, staged_value_at, excluded_at}
use Rattle.memory.specs.Meaning.{draft_arrays, draft_in, staged_at, staged_in, excluded_in, counts_in, control_in, meaning, with_refusal}
use Rattle.memory.specs.Arranged.{Arranged, Becomes}
use Rattle.memory.proofs.Frames.{draft_arrays_same, staged_same, excluded_same, counts_kept, long}
use Rattle.memory.proofs.Becomes.{Static, control_becomes}
use Rattle.memory.proofs.KindLists.{staged_length}
use Rattle.control.specs.Lists.{staging, excluding}
use Rattle.control.specs.Refusals.{Caller, CountsRefusal}

-- ---- what is read

module _ (w : List ℕ) where
  pub staged_read : (i : ℕ) → i < length (meaning w).control.staged → get_or (meaning w).control.staged i no_component ≡ staged_at w i
  unfolding meaning staged_in
  staged_read i h = get_d_table (staged_len w) (staged_at w) i no_component (omega (arith, length_table (staged_len w) (staged_at w)))

  module _ (A : Arranged w) where
    pub staged_few : length (meaning w).control.staged ≤ LIST_CAPACITY
    staged_few = omega (arith, staged_length w, A.staged)

-- a kind is a word
pub kind_fits : (k : ℕ) → k < MAX_KINDS → Fits w32 k
kind_fits k h = omega arith

-- ---- words that differ in the two lists and the counts alone

pub record ListsOnly (w w' : List ℕ) : Type 0 where
  pub size : length w' ≡ length w
  pub limits : (i : ℕ) → i < STAGED_LEN → get_or w' i 0 ≡ get_or w i 0
  pub layouts : (i : ℕ) → DRAFT_FAMILIES ≤ i → i < CALLER → get_or w' i 0 ≡ get_or w i 0
  pub told : (i : ℕ) → MORE_SETTINGS ≤ i → i < REFUSALS → get_or w' i 0 ≡ get_or w i 0
  pub table : (i : ℕ) → TABLE ≤ i → i < STAGED_KINDS → get_or w' i 0 ≡ get_or w i 0
  pub blocks : (i : ℕ) → DRAFT ≤ i → i < ENTITIES → get_or w' i 0 ≡ get_or w i 0
  pub rest : drop ENTITIES w' ≡ drop ENTITIES w

stores_listed : (w : List ℕ) (ss : List (ℕ × ℕ)) → ((i : ℕ) → i < STAGED_LEN → Misses ss i) → ((i : ℕ) → DRAFT_FAMILIES ≤ i → i < CALLER → Misses ss i) → ((i : ℕ) → MORE_SETTINGS ≤ i → i < REFUSALS → Misses ss i) → ((i : ℕ) → TABLE ≤ i → i < STAGED_KINDS → Misses ss i)
    → ((i : ℕ) → DRAFT ≤ i → i < ENTITIES → Misses ss i) → StoresBelow ENTITIES ss → ListsOnly w (stores w ss)
stores_listed w ss a b t c d below =
    record {
      size = length_stores w ss;
      limits = λ i h. miss w ss i (a i h);
      layouts = λ i h k. miss w ss i (b i h k);
      told = λ i h k. miss w ss i (t i h k);
      table = λ i h k. miss w ss i (c i h k);
      blocks = λ i h k. miss w ss i (d i h k);
      rest = drop_stores ENTITIES w ss below;
    }

abbrev control : List Component → List ℕ → List Family → Counts → Control
control s e d c = record { staged = s; excluded = e; draft = d; counts = c }

module _ (w w' : List ℕ) (A : Arranged w) (L : ListsOnly w w') where
  static : Static w w'
  static =
      record {
        size = L.size;
        limits = L.limits;
        force = λ i a b. L.layouts i (omega arith) b;
        told = L.told;
        table = L.table;
        layout = λ i a b. L.blocks i (omega arith) (omega arith);
        rest = L.rest;
      }

  arrays : draft_arrays w' ≡ draft_arrays w
  arrays = draft_arrays_same w w' L.size (long w A) (L.layouts DRAFT_FAMILIES (omega arith) (omega arith)) (λ i a b. L.blocks i a (omega arith))

  listed_becomes : (s : List Component) (e : List ℕ) (c : Counts) → staged_len w' ≤ LIST_CAPACITY → excluded_len w' ≤ LIST_CAPACITY → c.caller ≤ LAST_CALLER → staged_in w' ≡ s → excluded_in w' ≡ e → counts_in w' ≡ c
      → Becomes w w' (with_control (meaning w) (control s e (meaning w).control.draft c))
  unfolding meaning draft_in
  listed_becomes s e c st ex ca es ee ec =
      let called : caller_of w' ≡ c.caller = λ i. (ec i).caller in
      let B =
      control_becomes w w' A static (λ i a b. L.blocks i (omega arith) b) st ex (rw called ca) (subst WellFormed (sym arrays) A.draft)
      (L.layouts DRAFT_GROUPS (omega arith) (omega arith) ∙ A.draft_count ∙ sym (ap group_count arrays)) in
      let d : draft_in w' ≡ draft_in w = ap (families_of []) arrays in
      let k : control_in w' ≡ control s e (draft_in w) c = λ i. record { staged = es i; excluded = ee i; draft = d i; counts = ec i } in
      record { arranged = B.arranged; means = B.means ∙ ap (with_control (meaning w)) k; size = B.size; past = B.past }

-- ---- one component more

module _ (w : List ℕ) (A : Arranged w) (k : ℕ) (x : Value) (few : staged_len w < LIST_CAPACITY) where
  abbrev n : ℕ
  n = staged_len w

  abbrev ss : List (ℕ × ℕ)
  ss = (STAGED_LEN, n + 1) ∷ (STAGED_KINDS + n, k) ∷ []

  abbrev p : ℕ
  p = STAGED_VALUES + STAGED_VALUE_LEN * n

  abbrev d : ℕ
  d = (shape_of w).stride

  abbrev xs : List ℕ
  xs = words_of d x

  abbrev w' : List ℕ
  w' = sets (stores w ss) p xs

  narrow : d ≤ STAGED_VALUE_LEN
  narrow = A.columns.shaped.words.most

  size : length w' ≡ length w
  size = length-sets (stores w ss) p xs ∙ length_stores w ss

  before : (i : ℕ) → i < p → get_or w' i 0 ≡ get_or (stores w ss) i 0
  before i h = word_before xs (stores w ss) p i h

  after : (i : ℕ) → EXCLUDED_KINDS ≤ i → get_or w' i 0 ≡ get_or (stores w ss) i 0
  after i h = word_after xs (stores w ss) p i (omega (arith, narrow, length_words_of d x narrow))

  stage_listed : ListsOnly w w'
  stage_listed =
      record {
        size = size;
        limits = λ i h. before i (omega arith) ∙ miss w ss i (omega arith);
        layouts = λ i h b. before i (omega arith) ∙ miss w ss i (omega arith);
        told = λ i h b. before i (omega arith) ∙ miss w ss i (omega arith);
        table = λ i h b. before i (omega arith) ∙ miss w ss i (omega arith);
        blocks = λ i h b. after i (omega arith) ∙ miss w ss i (omega arith);
        rest = drop_after xs (stores w ss) p ENTITIES (omega (arith, narrow, length_words_of d x narrow)) ∙ drop_stores ENTITIES w ss (omega arith);
      }

  stage_length : staged_len w' ≡ n + 1
  stage_length = before STAGED_LEN (omega arith) ∙ hit w ss 0 STAGED_LEN (n + 1) (omega arith) (omega (arith, long w A))

  -- a value of the words after is read at the width of those before
  at_width : (i : ℕ) → staged_value_at w' i ≡ digits (take d (drop (STAGED_VALUES + STAGED_VALUE_LEN * i) w'))
  at_width i = ap (λ (v : ℕ). digits (take (stride_of v) (drop (STAGED_VALUES + STAGED_VALUE_LEN * i) w'))) (before VALUE_WIDTH (omega arith) ∙ miss w ss VALUE_WIDTH (omega arith))

  stage_last : staged_at w' n ≡ record { kind = k; value = value_of d x }
  stage_last =
      let a : staged_kind_at w' n ≡ k = before (STAGED_KINDS + n) (omega arith) ∙ hit w ss 1 (STAGED_KINDS + n) k (omega arith) (omega (arith, long w A)) in
      let b : staged_value_at w' n ≡ value_of d x = at_width n ∙ ap digits (run_hit xs (stores w ss) p d (length_words_of d x narrow) (omega (arith, narrow, length_stores w ss, long w A))) in
      λ i. record { kind = a i; value = b i }

  stage_other : (i : ℕ) → i < n → staged_at w' i ≡ staged_at w i
  stage_other i hi =
      let q = STAGED_VALUES + STAGED_VALUE_LEN * i in
      let a : staged_kind_at w' i ≡ staged_kind_at w i = before (STAGED_KINDS + i) (omega arith) ∙ miss w ss (STAGED_KINDS + i) (omega arith) in
      let b : staged_value_at w' i ≡ staged_value_at w i =
      at_width i ∙ ap digits (run_before xs (stores w ss) p q d (omega (arith, narrow)) ∙ run_same w (stores w ss) q d (length_stores w ss) (λ j l h. miss w ss j (omega (arith, narrow)))) in
      λ j. record { kind = a j; value = b j }

  stage_staged : staged_in w' ≡ staged_in w ++ (record { kind = k; value = value_of d x } ∷ [])
  unfolding staged_in
  stage_staged =
      ap (λ (m : ℕ). table m (staged_at w')) stage_length
      ∙ table_snoc no_component (record { kind = k; value = value_of d x }) n (staged_at w) (staged_at w') stage_last stage_other

  pub stage_becomes : Becomes w w' (staging k (value_of d x) (meaning w))
  unfolding meaning
  stage_becomes =
      listed_becomes w w' A stage_listed (staged_in w ++ (record { kind = k; value = value_of d x } ∷ [])) (excluded_in w) (counts_in w)
      (omega (arith, stage_length))
      (omega (arith, before EXCLUDED_LEN (omega arith), miss w ss EXCLUDED_LEN (omega arith), A.excluded))
      A.caller
      stage_staged
      (excluded_same w w' size A.excluded (before EXCLUDED_LEN (omega arith) ∙ miss w ss EXCLUDED_LEN (omega arith)) (λ i a b. after i a ∙ miss w ss i (omega arith)))
      (counts_kept w w' (λ i a b. before i (omega arith) ∙ miss w ss i (omega arith)))

-- ---- one excluded kind more

module _ (w : List ℕ) (A : Arranged w) (k : ℕ) (few : excluded_len w < LIST_CAPACITY) where
  abbrev m : ℕ
  m = excluded_len w

  abbrev ts : List (ℕ × ℕ)
  ts = (EXCLUDED_LEN, m + 1) ∷ (EXCLUDED_KINDS + m, k) ∷ []

  exclude_listed : ListsOnly w (stores w ts)
  exclude_listed = stores_listed w ts (λ i a. omega arith) (λ i a b. omega arith) (λ i a b. omega arith) (λ i a b. omega arith) (λ i a b. omega arith) (omega arith)

  exclude_length : excluded_len (stores w ts) ≡ m + 1
  exclude_length = hit w ts 0 EXCLUDED_LEN (m + 1) (omega arith) (omega (arith, long w A))

  exclude_excluded : excluded_in (stores w ts) ≡ excluded_in w ++ (k ∷ [])
  unfolding excluded_in
  exclude_excluded =
      ap (λ (j : ℕ). table j (excluded_at (stores w ts))) exclude_length
      ∙ table_snoc 0 k m (excluded_at w) (excluded_at (stores w ts))
      (hit w ts 1 (EXCLUDED_KINDS + m) k (omega arith) (omega (arith, long w A)))
      (λ i h. miss w ts (EXCLUDED_KINDS + i) (omega arith))

  pub exclude_becomes : Becomes w (stores w ts) (excluding k (meaning w))
  unfolding meaning
  exclude_becomes =
      listed_becomes w (stores w ts) A exclude_listed (staged_in w) (excluded_in w ++ (k ∷ [])) (counts_in w)
      (omega (arith, miss w ts STAGED_LEN (omega arith), A.staged))
      (omega (arith, exclude_length))
      A.caller
      (staged_same w (stores w ts) (length_stores w ts) A (miss w ts VALUE_WIDTH (omega arith)) (miss w ts STAGED_LEN (omega arith)) (λ i a b. miss w ts i (omega arith)))
      exclude_excluded
      (counts_kept w (stores w ts) (λ i a b. miss w ts i (omega arith)))

-- ---- the lists emptied

module _ (w : List ℕ) (A : Arranged w) where
  staged_none : (ss : List (ℕ × ℕ)) → staged_len (stores w ss) ≡ 0 → staged_in (stores w ss) ≡ []
  unfolding staged_in table
  staged_none ss e = ap (λ (m : ℕ). table m (staged_at (stores w ss))) e

  excluded_none : (ss : List (ℕ × ℕ)) → excluded_len (stores w ss) ≡ 0 → excluded_in (stores w ss) ≡ []
  unfolding excluded_in table
  excluded_none ss e = ap (λ (m : ℕ). table m (excluded_at (stores w ss))) e

  abbrev us : List (ℕ × ℕ)
  us = (STAGED_LEN, 0) ∷ []

  abbrev vs : List (ℕ × ℕ)
  vs = (STAGED_LEN, 0) ∷ (EXCLUDED_LEN, 0) ∷ []

  pub clear_staged_becomes : Becomes w (stores w us) (with_control (meaning w) (empty_staged (meaning w).control))
  unfolding meaning
  clear_staged_becomes =
      let z : staged_len (stores w us) ≡ 0 = hit w us 0 STAGED_LEN 0 (omega arith) (omega (arith, long w A)) in
      listed_becomes w (stores w us) A
      (stores_listed w us (λ i a. omega arith) (λ i a b. omega arith) (λ i a b. omega arith) (λ i a b. omega arith) (λ i a b. omega arith) (omega arith))
      [] (excluded_in w) (counts_in w)
      (omega arith)
      (omega (arith, miss w us EXCLUDED_LEN (omega arith), A.excluded))
      A.caller
      (staged_none us z)
      (excluded_same w (stores w us) (length_stores w us) A.excluded (miss w us EXCLUDED_LEN (omega arith)) (λ i a b. miss w us i (omega arith)))
      (counts_kept w (stores w us) (λ i a b. miss w us i (omega arith)))

  pub clear_lists_becomes : Becomes w (stores w vs) (with_control (meaning w) (empty_both (meaning w).control))
  unfolding meaning
  clear_lists_becomes =
      let z : staged_len (stores w vs) ≡ 0 = hit w vs 0 STAGED_LEN 0 (omega arith) (omega (arith, long w A)) in
      let y : excluded_len (stores w vs) ≡ 0 = hit w vs 1 EXCLUDED_LEN 0 (omega arith) (omega (arith, long w A)) in
      listed_becomes w (stores w vs) A
      (stores_listed w vs (λ i a. omega arith) (λ i a b. omega arith) (λ i a b. omega arith) (λ i a b. omega arith) (λ i a b. omega arith) (omega arith))
      [] [] (counts_in w)
      (omega arith)
      (omega arith)
      A.caller
      (staged_none vs z)
      (excluded_none vs y)
      (counts_kept w (stores w vs) (λ i a b. miss w vs i (omega arith)))

-- ---- the caller and the counts

module _ (w : List ℕ) (A : Arranged w) where
  -- the caller's word, or a count's
  word_becomes : (i x : ℕ) → CALLER ≤ i → i < TABLE → ((j : ℕ) → MORE_SETTINGS ≤ j → j < REFUSALS → j ≢ i) → (c : Counts) → c.caller ≤ LAST_CALLER → counts_in (set w i x) ≡ c
      → Becomes w (set w i x) (with_control (meaning w) (with_counts (meaning w).control c))
  unfolding meaning
  word_becomes i x from below apart c ca e =
      let rs : List (ℕ × ℕ) = (i, x) ∷ [] in
      listed_becomes w (set w i x) A
      (stores_listed w rs (λ j a. omega arith) (λ j a b. omega arith) (λ j a b. (apart j a b, tt)) (λ j a b. omega arith) (λ j a b. omega arith) (omega arith))
      (staged_in w) (excluded_in w) c
      (omega (arith, miss w rs STAGED_LEN (omega arith), A.staged))
      (omega (arith, miss w rs EXCLUDED_LEN (omega arith), A.excluded))
      ca
      (staged_same w (set w i x) (length_stores w rs) A (miss w rs VALUE_WIDTH (apart VALUE_WIDTH (omega arith) (omega arith), tt)) (miss w rs STAGED_LEN (omega arith)) (λ j a b. miss w rs j (omega arith)))
      (excluded_same w (set w i x) (length_stores w rs) A.excluded (miss w rs EXCLUDED_LEN (omega arith)) (λ j a b. miss w rs j (omega arith)))
      e

  pub newer_read : newer_of w ≡ (meaning w).settings.newer
  unfolding meaning
  newer_read = refl

  pub caller_read : Caller w (caller_of w)
  unfolding meaning
  caller_read = record { is = refl; word = refl; low = A.caller }

  pub refusals_read : refusals_at w (caller_of w) ≡ own_refusals (meaning w).control
  unfolding meaning
  refusals_read = sym (get_d_table CALLERS (refusals_at w) (caller_of w) 0 (omega (arith, A.caller)))

  -- another caller
  pub called_becomes : (c : ℕ) → c ≤ LAST_CALLER → Becomes w (set w CALLER c) (with_control (meaning w) (with_caller (meaning w).control c))
  unfolding meaning
  called_becomes c h =
      let is : caller_of (set w CALLER c) ≡ c = get_or-set_same w CALLER c 0 (omega (arith, long w A)) in
      let same = table_same 0 CALLERS (refusals_at w) (refusals_at (set w CALLER c)) (λ i b. get_or-set_other w CALLER (REFUSALS + i) c 0 (omega arith)) in
      word_becomes CALLER c (omega arith) (omega arith) (λ j a b. omega arith) (record { caller = c; refusals = table CALLERS (refusals_at w) }) h
      (λ i. record { caller = is i; refusals = same i })

  -- one refusal more
  refusal_becomes : Becomes w (with_refusal w) (with_control (meaning w) (counted (meaning w).control))
  unfolding meaning
  refusal_becomes =
      let c = caller_of w in
      let x = one_more (refusals_at w c) in
      let y = one_more (own_refusals (meaning w).control) in
      let up : x ≡ y = ap one_more refusals_read in
      let v = set w (REFUSALS + c) x in
      let is : caller_of v ≡ c = get_or-set_other w (REFUSALS + c) CALLER x 0 (omega arith) in
      let more : table CALLERS (refusals_at v) ≡ set (table CALLERS (refusals_at w)) c y =
      table_set 0 y CALLERS (refusals_at w) (refusals_at v) c (omega (arith, A.caller)) (get_or-set_same w (REFUSALS + c) x 0 (omega (arith, A.caller, long w A)) ∙ up) (λ i b ne. get_or-set_other w (REFUSALS + c) (REFUSALS + i) x 0 (omega arith)) in
      word_becomes (REFUSALS + c) x (omega arith) (omega (arith, A.caller)) (λ j a b. omega arith) (record { caller = c; refusals = set (table CALLERS (refusals_at w)) c y }) A.caller
      (λ i. record { caller = is i; refusals = more i })

  counts : (w' : List ℕ) → w' ≡ with_refusal w → CountsRefusal w w'
  counts w' e = record { becomes = subst (λ (u : List ℕ). Becomes w u (with_control (meaning w) (counted (meaning w).control))) (sym e) refusal_becomes; word = e }

  -- the count of the caller that was read
  module _ (c : ℕ) (R : Caller w c) where
    pub count_inside : REFUSALS + c < length w
    count_inside = omega (arith, R.low, long w A)

    pub count_read : get_or w (REFUSALS + c) 0 ≡ own_refusals (meaning w).control
    count_read = ap (refusals_at w) R.word ∙ refusals_read

    pub counts_more : get_or w (REFUSALS + c) 0 < MAX_REFUSALS → CountsRefusal w (set w (REFUSALS + c) (get_or w (REFUSALS + c) 0 + 1))
    counts_more h =
        counts (set w (REFUSALS + c) (refusals_at w c + 1))
        (ap (set w (REFUSALS + c)) (add-one (refusals_at w c) ∙ sym (one_more_up (refusals_at w c) h)) ∙ ap (λ (d : ℕ). set w (REFUSALS + d) (one_more (refusals_at w d))) R.word)

    pub counts_most : MAX_REFUSALS ≤ get_or w (REFUSALS + c) 0 → CountsRefusal w w
    counts_most h =
        counts w
        (sym (set-get_or w (REFUSALS + c) 0) ∙ ap (set w (REFUSALS + c)) (sym (one_more_full (refusals_at w c) h)) ∙ ap (λ (d : ℕ). set w (REFUSALS + d) (one_more (refusals_at w d))) R.word)
