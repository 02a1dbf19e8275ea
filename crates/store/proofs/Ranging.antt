-- RANGE over the words: what its ten answer bytes tell, and what *column* hands back from the start to the end that they tell. Theorems over the
-- contracts of *run* and *column* alone (specs/Entries.antt). Assumes nothing.
use mathlib.Core.Path.{◌≡◌, refl, sym, ap, ◌∙◌, subst}
use mathlib.Core.Logic.{◌↔◌}
use mathlib.Core.Bool.{Bool, true, false}
use mathlib.Core.Option.{Option, some, none}
use mathlib.Core.List.{List, [], ◌∷◌, ◌++◌, map, append_assoc, append-nil, head-eq_of_cons-eq, tail-eq_of_cons-eq, cons≢nil}
use Prim.Native.Nat.{ℕ, zero, suc, ◌+◌, ◌*◌, ◌-◌, ◌≤◌, ◌<◌}
use native.Mathlib.Omega.{arith}
use borrow.Author.Tests.{ltb-false}
use lib.Dec.{ltb}
use lib.ListN.{length, get_or, take, drop, length-append, length-map}
use lib.Seq.{take_at, drop_at, length-slice}
use denote.Ref.{Bor}
use Rattle.model.specs.Numbers.{NOROOM, RANGE_BYTE, stride_of}
use Rattle.model.specs.Model.{Entity, SparseSet, no_entity, same_entity, set_of, keys, entity_of}
use Rattle.model.specs.Store.{Store, Bytes, staged_kinds, with_control, empty_both}
use Rattle.model.specs.Commands.{Command, RANGE, accepted}
use Rattle.model.specs.Refusals.{First, number_of, lines_of}
use Rattle.model.specs.Run.{Outcome, store_after, answer_of, Step, stops, goes, step, halt, more, run_for, run}
use Rattle.model.specs.Run as model
use Rattle.model.specs.Snapshot.{value_at}
use Rattle.model.specs.Entries.{entity_words, row_value, part, part_words, column_refusal}
use Rattle.model.specs.Sound.{In, key, StoreSound}
use Rattle.model.specs.Shown.{Showing, found_in, start_in, end_in, RangeAnswer, Hold}
use Rattle.model.proofs.BoolLaws.{bool_cases}
use Rattle.model.proofs.ListLaws.{count_at_law}
use Rattle.model.proofs.SparseSets.{entity_same}
use Rattle.model.proofs.Entries.{column_accepted}
use Rattle.model.proofs.Lengths.{run_fits}
use Rattle.model.proofs.Lines.{first_exact}
use Rattle.model.proofs.Outcomes.{range_does}
use Rattle.model.proofs.Ranges.{rows_hold}
use Rattle.model.proofs.Rules.{range_answer, range_stays}
use Rattle.model.proofs.Sound.{bytes_take, run_keeps}
use Rattle.words.specs.Decides.{Decides}
use Rattle.words.proofs.Decides.{decides_same}
use Rattle.tapes.specs.Pieces.{in_turn}
use Rattle.tapes.proofs.Pieces.{run_pieces}
use Rattle.tapes.proofs.Tapes.{run_commands}
use Rattle.memory.specs.Meaning.{meaning}
use Rattle.memory.specs.Arranged.{Sound}
use Rattle.run.specs.declared.Ran.{Ran}
use Rattle.store.specs.Course.{Course, ended, stopped, refused, done, EachAnswer}
use Rattle.store.specs.Entries.{column_refused, ColumnNumbered, column_words, ColumnPart, ran_of, Runs}
use Rattle.store.specs.Ranging.{RangeRan, ColumnsShown, RowOf, OneEntity}
use Rattle.columns.proofs.Items.{index_at, version_at_law, value_at_law}
use Rattle.values.specs.Values.{digits}
use Rattle.words.proofs.Offsets.{two_or_four}
use Rattle.columns.proofs.Columns.{column_within}
use Rattle.store.proofs.Demands.{run_course, run_keeps_sound}

-- ---- the ten bytes of each RANGE of a run

range_unrefused : (s : Store) (n : ℕ) → First (lines_of RANGE) s n → ⊥
unfolding lines_of
range_unrefused s n f = let no : none ≡ some n = (first_exact [] s n).1 f in let z : ◌≡◌ {A = ℕ} 0 1 = cc in omega arith

range_bytes_law : (s : Store) (rest : List ℕ) → StoreSound s → RangeAnswer (staged_kinds s) s.control.excluded s (take 10 (0 ∷ (accepted RANGE s).answer ++ rest))
range_bytes_law s rest S =
    let A : RangeAnswer (staged_kinds s) s.control.excluded s (0 ∷ (accepted RANGE s).answer) = range_answer s S in
    subst (RangeAnswer (staged_kinds s) s.control.excluded s) (sym (take_at (0 ∷ (accepted RANGE s).answer) rest 10 A.size)) A

ranges_in : {w t w' bytes : List ℕ} {room stop commands read : ℕ} → Sound w → (c : Course w t room w' stop commands read bytes)
    → EachAnswer (λ v k l. k ≡ RANGE → RangeAnswer (staged_kinds (meaning v)) (meaning v).control.excluded (meaning v) (take 10 l)) c
ranges_in S ended = tt
ranges_in S (stopped f) = tt
ranges_in S (refused w {t = t} {b = b} {n = n} h f m s c) =
    ((λ e. absurd (range_unrefused (meaning w) n (subst (λ (k : Command). First (lines_of k) (meaning w) n) e f))), ranges_in s c)
ranges_in S (done w w₁ {t = t} {bytes = bytes} {b = b} h n m s c) = (
  λ e.
      subst (λ (k : Command). RangeAnswer (staged_kinds (meaning w)) (meaning w).control.excluded (meaning w) (take 10 (0 ∷ (accepted k (meaning w)).answer ++ bytes))) (sym e)
      (range_bytes_law (meaning w) bytes S.means),
  ranges_in s c,
)

-- wherever it stands in the run: for the hand and the bar before it, of the store before it
pub ranges_in_run : (w w' t o o' : List ℕ) (r : Ran) (R : Runs w w' t o o' r) (S : Sound w)
    → EachAnswer (λ v k l. k ≡ RANGE → RangeAnswer (staged_kinds (meaning v)) (meaning v).control.excluded (meaning v) (take 10 l)) (run_course w w' t o o' r R S)
ranges_in_run w w' t o o' r R S = ranges_in S (run_course w w' t o o' r R S)

-- ---- RANGE at a tape's end

range_room : (room : ℕ) (s : Store) → (run (RANGE_BYTE ∷ []) room s).stop ≡ 0 → 10 ≤ room
unfolding run run_for step
range_room room s z =
    bool_cases (ltb room 10)
    (λ short.
    let six : step RANGE_BYTE [] room s ≡ stops NOROOM = rw short in
    let halted : run (RANGE_BYTE ∷ []) room s ≡ halt NOROOM s =
    ap (λ (p : Step). elim p as (λ p. model.Ran) [ stops n ↦ halt n s | goes w a s' ↦ more w a (run_for 0 (drop w (RANGE_BYTE ∷ [])) (room - length a) s') ]) six in
    absurd (omega (arith, z, ap (λ (x : model.Ran). x.stop) halted)))
    (λ fits. ltb-false room 10 fits)

range_last : (room : ℕ) (s : Store) → 10 ≤ room
    → run (RANGE_BYTE ∷ []) room s ≡ record { store = with_control s (empty_both s.control); stop = 0; commands = 1; read = 1; bytes = 0 ∷ (accepted RANGE s).answer }
unfolding accepted
range_last room s h =
    run_commands (RANGE ∷ []) room s (tt, tt) (omega arith)
    ∙ (λ i.
    record {
      store = store_after s (range_does s i);
      stop = 0;
      commands = 1;
      read = 1;
      bytes = (ap (λ (x : Outcome). answer_of x ++ []) (range_does s) ∙ append-nil (0 ∷ (accepted RANGE s).answer)) i;
    })

-- the part of a list that stands behind a
part_behind : (a b c : List ℕ) (n : ℕ) → length b ≡ n → take n (drop (length a) (a ++ (b ++ c))) ≡ b
part_behind a b c n e = ap (take n) (drop_at a (b ++ c) (length a) refl) ∙ take_at b c n e

-- behind a tape t of whole commands, whose run with this room comes to its end
module _ (w w' t o o' : List ℕ) (r : Ran) (S : Sound w) (R : Runs w w' (t ++ (RANGE_BYTE ∷ [])) o o' r) (whole : (run t (length o) (meaning w)).stop ≡ 0) where
  abbrev x : model.Ran
  x = run t (length o) (meaning w)

  abbrev s₁ : Store
  s₁ = x.store

  abbrev free : ℕ
  free = length o - length x.bytes

  abbrev ten : List ℕ
  ten = 0 ∷ (accepted RANGE s₁).answer

  abbrev ended_run : model.Ran
  ended_run = ran_of R.sound (t ++ (RANGE_BYTE ∷ [])) (length o) (meaning w)

  in_turn_law : ended_run ≡ in_turn x (run (RANGE_BYTE ∷ []) free s₁)
  in_turn_law =
      let yes : R.sound ≡ true = decides_same R.sound true R.decides S ((λ d. d), (λ d. d)) in
      ap (λ (c : Bool). ran_of c (t ++ (RANGE_BYTE ∷ [])) (length o) (meaning w)) yes
      ∙ run_pieces t (RANGE_BYTE ∷ []) (length o) (length o) (meaning w) (omega arith)
      ∙ ap (λ (l : List ℕ). in_turn x (run l free s₁)) (drop_at t (RANGE_BYTE ∷ []) x.read (sym ((run_fits t (length o) (meaning w)).end whole)))

  -- it comes to the tape's end exactly if ten bytes are free for it
  pub range_ends : (r.stop ≡ 0) ↔ (length x.bytes + 10 ≤ length o)
  range_ends =
      let is : r.stop ≡ (run (RANGE_BYTE ∷ []) free s₁).stop = R.answered.stop ∙ (λ i. (in_turn_law i).stop) in
      ((λ z. omega (arith, range_room free s₁ (sym is ∙ z))), (λ room. is ∙ (λ i. (range_last free s₁ (omega (arith, room)) i).stop)))

  module _ (z : r.stop ≡ 0) where
    is : ended_run ≡ in_turn x (record { store = with_control s₁ (empty_both s₁.control); stop = 0; commands = 1; read = 1; bytes = ten })
    is = in_turn_law ∙ ap (in_turn x) (range_last free s₁ (omega (arith, range_ends.0 z)))

    sound_before : StoreSound s₁
    sound_before = run_keeps t (length o) (meaning w) (subst Bytes (take_at t (RANGE_BYTE ∷ []) (length t) refl) (bytes_take (length t) (t ++ (RANGE_BYTE ∷ [])) R.tape)) S.means

    answers : RangeAnswer (staged_kinds s₁) s₁.control.excluded s₁ ten
    answers = range_answer s₁ sound_before

    means : meaning w' ≡ with_control s₁ (empty_both s₁.control)
    means = R.means ∙ (λ i. (is i).store)

    long : length (x.bytes ++ ten) ≡ length x.bytes + 10
    long = length-append x.bytes ten ∙ ap (λ (n : ℕ). length x.bytes + n) answers.size

    wrote : r.written ≡ length x.bytes + 10
    wrote = R.answered.written ∙ (λ i. length (is i).bytes) ∙ long

    left_as : o' ≡ (x.bytes ++ ten) ++ drop r.written o
    left_as = R.answered.bytes ∙ (λ i. (is i).bytes ++ drop (length (is i).bytes) o) ∙ ap (λ (n : ℕ). (x.bytes ++ ten) ++ drop n o) (long ∙ sym wrote)

    parts : o' ≡ x.bytes ++ (ten ++ drop r.written o)
    parts = left_as ∙ append_assoc x.bytes ten (drop r.written o)

    told : take 10 (drop (r.written - 10) o') ≡ ten
    told =
        let at : r.written - 10 ≡ length x.bytes = omega (arith, wrote) in
        ap (λ (n : ℕ). take 10 (drop n o')) at ∙ ap (λ (l : List ℕ). take 10 (drop (length x.bytes) l)) parts ∙ part_behind x.bytes ten (drop r.written o) 10 answers.size

    -- its ten bytes stand last, and tell of the store that is left
    pub range_ran : RangeRan x w' o o' r
    range_ran =
        record {
          commands = R.answered.commands ∙ (λ i. (is i).commands);
          read = R.answered.read ∙ (λ i. (is i).read);
          written = wrote;
          before = ap (take (length x.bytes)) parts ∙ take_at x.bytes (ten ++ drop r.written o) (length x.bytes) refl;
          rest = ap (drop r.written) left_as ∙ drop_at (x.bytes ++ ten) (drop r.written o) r.written (long ∙ sym wrote);
          sound = run_keeps_sound w w' (t ++ (RANGE_BYTE ∷ [])) o o' r R S;
          store = means;
          answer =
              rw told
              (range_stays (staged_kinds s₁) s₁.control.excluded s₁ (meaning w') ten (sym (λ i. (means i).settings)) (sym (λ i. (means i).storage)) (sym (λ i. (means i).entities.live)) answers);
          known = λ k i. subst (λ (y : Store). In y.kinds k) (sym means) (sound_before.staged.known k i);
        }

-- alone on the tape
pub range_alone : (w w' o o' : List ℕ) (r : Ran) → Sound w → Runs w w' (RANGE_BYTE ∷ []) o o' r → r.stop ≡ 0 → RangeRan (halt 0 (meaning w)) w' o o' r
unfolding run run_for
range_alone w w' o o' r S R z = range_ran w w' [] o o' r S R refl z

-- ---- a row of a part

hold_at : (rows : SparseSet) (es : List Entity) (vs : List ℕ) → Hold rows es vs → (i : ℕ) → i < length es → value_at (get_or es i no_entity) rows ≡ some (get_or vs i 0)
hold_at rows [] vs H i h = absurd (omega arith)
hold_at rows (x ∷ es) [] H i h = absurd (cons≢nil H)
hold_at rows (x ∷ es) (y ∷ vs) H zero h = head-eq_of_cons-eq H
hold_at rows (x ∷ es) (y ∷ vs) H (suc i) h = hold_at rows es vs (tail-eq_of_cons-eq H) i (omega arith)

-- ---- the columns of a kind in a range that shows

module _ (v : Bor (List ℕ)) (S : Sound v.now) (h b : List ℕ) (k a e : ℕ) (i : In h k) (known : In (meaning v.now).kinds k) (W : Showing (meaning v.now).settings.newer (meaning v.now).storage.sets (meaning v.now).entities.live h b a e) where
  abbrev s : Store
  s = meaning v.now

  abbrev rows : SparseSet
  rows = set_of s.storage.sets k

  taken : column_refusal k a e s ≡ none
  taken = column_within k a e s (omega (arith, S.means.kinds.small k known)) known (omega (arith, W.start)) (omega (arith, W.places k i, length-map rows entity_of))

  number_zero : (n : ℕ) → ColumnNumbered v.now k a e n → n ≡ 0
  number_zero n C = go C.sound C.decides C.number
    where
      go : (c : Bool) → Decides c (Sound v.now) → n ≡ number_of (column_refused c k a e s) → n ≡ 0
      go false d p = absurd (d S)
      go true d p = p ∙ ap number_of taken

  part_words_law : (r : Bor (List ℕ)) (values : Bool) → ColumnPart v r values k a e → r.now ≡ part_words s.settings.value_bytes values a e rows
  part_words_law r values P = go P.sound P.decides P.words
    where
      go : (c : Bool) → Decides c (Sound v.now) → r.now ≡ column_words c values k a e s → r.now ≡ part_words s.settings.value_bytes values a e rows
      go false d p = absurd (d S)
      go true d p = p ∙ (column_accepted values k a e s taken).words

  holds : Hold rows (part a e (keys rows)) (part a e (map row_value rows))
  holds = rows_hold rows (λ x. S.means.sets.once x k) a e

  columns_shown : (p q : Bor (List ℕ)) (n : ℕ) → ColumnNumbered v.now k a e n → ColumnPart v p false k a e → ColumnPart v q true k a e → ColumnsShown s k a e n p.now q.now
  columns_shown p q n C P Q =
      record { number = number_zero n C; entities_are = part_words_law p false P; held = part a e (map row_value rows); values_are = part_words_law q true Q; hold = holds }

  row_of : (p q : Bor (List ℕ)) (j : ℕ) → j < e - a → ColumnPart v p false k a e → ColumnPart v q true k a e → RowOf s (get_or (part a e (keys rows)) j no_entity) k j p.now q.now
  row_of p q j t P Q =
      let es = part a e (keys rows) in
      let vs = part a e (map row_value rows) in
      let le : e ≤ length (keys rows) = W.places k i in
      let ne : j < length es = omega (arith, t, length-slice a e (keys rows) le) in
      let nv : j < length vs = omega (arith, t, length-slice a e (map row_value rows) (omega (arith, le, length-map rows entity_of, length-map rows row_value))) in
      let d = stride_of s.settings.value_bytes in
      let some_words = (two_or_four s.settings.value_bytes S.means.limits.width).least in
      let ew : p.now ≡ entity_words es = part_words_law p false P in
      let is : get_or vs j 0 ≡ digits (take d (drop (d * j) q.now)) =
      sym (value_at_law d vs j (omega (arith, some_words)) nv) ∙ ap (λ (l : List ℕ). digits (take d (drop (d * j) l))) (sym (part_words_law q true Q)) in
      record {
        index = ap (λ (l : List ℕ). get_or l (2 * j) 0) ew ∙ index_at no_entity es j ne;
        version = ap (λ (l : List ℕ). get_or l (2 * j + 1) 0) ew ∙ version_at_law no_entity es j ne;
        value = hold_at rows es vs holds j ne ∙ ap {B = Option ℕ} some is;
      }

-- ---- over sound words, ten bytes that tell of their store that a range is found: column of a kind of the hand, from the start to the end that they tell

module _ (v : Bor (List ℕ)) (S : Sound v.now) (h b bytes : List ℕ) (A : RangeAnswer h b (meaning v.now) bytes) (f : found_in bytes ≡ 1) (known : (k : ℕ) → In h k → In (meaning v.now).kinds k) where
  abbrev a : ℕ
  a = start_in bytes

  abbrev e : ℕ
  e = end_in bytes

  abbrev left : Store
  left = meaning v.now

  shows : Showing left.settings.newer left.storage.sets left.entities.live h b a e
  shows = A.shows f

  -- it is accepted, its entities are those at these places, and its values are those that these entities hold
  pub range_columns : (p q : Bor (List ℕ)) (k n : ℕ) → In h k → ColumnNumbered v.now k a e n → ColumnPart v p false k a e → ColumnPart v q true k a e → ColumnsShown left k a e n p.now q.now
  range_columns p q k n i C P Q = columns_shown v S h b k a e i (known k i) shows p q n C P Q

  -- two columns side by side: the same row is of the same entity, which hand and bar describe, with its values of both kinds
  pub same_entity_law : (p q p' q' : Bor (List ℕ)) (j k i : ℕ) → In h j → In h k → i < e - a → ColumnPart v p false j a e → ColumnPart v q true j a e → ColumnPart v p' false k a e → ColumnPart v q' true k a e
      → OneEntity left h b j k i p.now q.now p'.now q'.now
  same_entity_law p q p' q' j k i hj hk t P Q P' Q' =
      let es = part a e (key left.storage.sets j) in
      let there : i < length es = omega (arith, t, length-slice a e (key left.storage.sets j) (shows.places j hj)) in
      record {
        entity = get_or es i no_entity;
        among = omega (arith, shows.exact j hj (get_or es i no_entity), count_at_law same_entity entity_same no_entity es i there);
        first = row_of v S h b j a e hj (known j hj) shows p q i t P Q;
        second =
            subst (λ (l : List Entity). RowOf left (get_or l i no_entity) k i p'.now q'.now) (sym (shows.aligned j k hj hk))
            (row_of v S h b k a e hk (known k hk) shows p' q' i t P' Q');
      }
