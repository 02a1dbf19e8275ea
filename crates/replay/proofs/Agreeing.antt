-- Why a part that is said to agree does: from what the store's entries promise and what the comparisons decide. Assumes nothing.
use mathlib.Core.Path.{◌≡◌, refl, ap, sym, subst, ◌∙◌}
use mathlib.Core.Bool.{Bool, true, false, false≢true, ◌&&◌}
use mathlib.Core.List.{List, ◌++◌}
use Prim.Native.Nat.{ℕ, ◌+◌, ◌-◌, ◌*◌, ◌≤◌}
use native.Mathlib.Omega.{arith}
use lib.Dec.{eqb}
use mir.Val.{bool_byte}
use borrow.Author.Tests.{eqb-true}
use lib.ListN.{length, get_or, take, drop, length-append}
use lib.Seq.{length-take-le}
use Rattle.std.specs.Prelude.{None}
use denote.Ref.{Bor}
use Rattle.model.specs.Store.{Settings, Store, empty_with}
use Rattle.model.specs.Entries.{Started, refuses_start, makes, start_with, roll}
use Rattle.model.proofs.ListLaws.{front_of}
use Rattle.model.proofs.Entries.{start_makes}
use Rattle.model.proofs.BoolLaws.{and_left, and_right}
use Rattle.model.proofs.Emitting.{emits_few}
use Rattle.words.specs.Decides.{Decides}
use Rattle.words.proofs.Decides.{yes_of, decides_true}
use Rattle.memory.specs.Meaning.{meaning}
use Rattle.memory.specs.Arranged.{Sound}
use Rattle.run.specs.declared.Ran.{Ran}
use Rattle.store.specs.declared.Rolled.{Rolled}
use Rattle.store.specs.Entries.{start_number, StartsWith, StartLeaves, ColumnNumbered, ColumnPart, ran_of, Answered, RunLeaves, Runs, emitted_over, Rolls}
use Rattle.store.proofs.Starting.{start_number_law}
use Rattle.store.proofs.Demands.{rolled_snapshot}
use Rattle.replay.specs.declared.recorded.Step.{Step}
use Rattle.replay.specs.declared.Tally.{Tally}
use Rattle.replay.specs.Recorded.{short, tape_at, numbers_at, RunRecorded, run_at, RunAgrees, RunsAgree, no_runs, more_runs, RollAgrees, SameWords, SameColumn, ColumnAgrees, ColumnsAgree, no_columns, more_columns, told_at, CaseAgrees, CasesAgree, no_cases, more_cases}
use Rattle.replay.specs.Agreement.{GaveSame, Compared, RolledSame, StepAgrees, CaseStepped, CountedCase, Replayed}
use Rattle.words.proofs.Part.{part_size}
use Rattle.model.specs.Run as model
use Rattle.model.specs.Numbers.{BEYOND}

-- ---- a file that ends too soon

pub cut_compared : (f : List ℕ) (at : ℕ) (q : Ran) (o : List ℕ) (r : Step) → r ≡ record { at = length f; agrees = false } → Compared f at q o r
cut_compared f at q o r e =
    record {
      within = let h : r.at ≡ length f = ap (λ (s : Step). s.at) e in omega arith;
      same = λ a. absurd (false≢true (sym (ap (λ (s : Step). s.agrees) e) ∙ a));
      end = λ a. absurd (false≢true (sym (ap (λ (s : Step). s.agrees) e) ∙ a));
    }

pub cut_stepped : (f w w' : List ℕ) (r : Step) (P : ℕ → Type 0) → r ≡ record { at = length f; agrees = false } → StepAgrees f w w' r P
cut_stepped f w w' r P e =
    record {
      within = let h : r.at ≡ length f = ap (λ (s : Step). s.at) e in omega arith;
      agreed = λ a. absurd (false≢true (sym (ap (λ (s : Step). s.agrees) e) ∙ a));
    }

-- ---- a run

pub compared : (f : List ℕ) (at n : ℕ) (q : Ran) (o : List ℕ) (b : Bool) → Decides b (GaveSame f at q o) → n ≡ short f (at + 5) → at + 7 + n ≤ length f
    → Compared f at q o (record { at = at + 7 + n; agrees = b })
compared f at n q o b d e h = record { within = h; same = λ a. yes_of b d a; end = λ a. ap (λ (k : ℕ). at + 7 + k) e }

-- no more bytes than there are
pub gave_few : (w w' t o o₁ p : List ℕ) (q : Ran) → Runs w w' t o o₁ q → q.written ≤ length (o₁ ++ p)
gave_few w w' t o o₁ p q h =
    let x = ran_of h.sound t (length o) (meaning w) in
    omega (arith, h.answered.written, ap length h.answered.bytes ∙ length-append x.bytes (drop (length x.bytes) o), length-append o₁ p)

module _ (f w w' o o₁ : List ℕ) (at n m : ℕ) (q : Ran) (r : Step) (tape : n ≡ short f at) (room : m ≡ short f (at + 2)) (lent : m ≤ length o) where
  -- the code's run is the model's
  answered : Sound w → Runs w w' (take (at + 4 + n - (at + 4)) (drop (at + 4) f)) (take m o) o₁ q → Answered (take m o) o₁ q (run_at f at (meaning w))
  unfolding run_at
  answered S h =
      let t : take (at + 4 + n - (at + 4)) (drop (at + 4) f) ≡ tape_at f at = part_size f (at + 4) n ∙ ap (λ (k : ℕ). take k (drop (at + 4) f)) tape in
      let k : length (take m o) ≡ short f (at + 2) = length-take-le m o lent ∙ room in
      rw (← t, ← k) (rw (decides_true h.sound h.decides S) at h.answered)

  left : Sound w → Runs w w' (take (at + 4 + n - (at + 4)) (drop (at + 4) f)) (take m o) o₁ q → Sound w'
  left S h =
      let l : RunLeaves true (take (at + 4 + n - (at + 4)) (drop (at + 4) f)) (length (take m o)) w w' =
      subst (λ (b : Bool). RunLeaves b (take (at + 4 + n - (at + 4)) (drop (at + 4) f)) (length (take m o)) w w') (decides_true h.sound h.decides S) h.leaves in
      l.0

  stored : Sound w → Runs w w' (take (at + 4 + n - (at + 4)) (drop (at + 4) f)) (take m o) o₁ q → meaning w' ≡ (run_at f at (meaning w)).store
  unfolding run_at
  stored S h =
      let t : take (at + 4 + n - (at + 4)) (drop (at + 4) f) ≡ tape_at f at = part_size f (at + 4) n ∙ ap (λ (k : ℕ). take k (drop (at + 4) f)) tape in
      let k : length (take m o) ≡ short f (at + 2) = length-take-le m o lent ∙ room in
      rw (← t, ← k) (rw (decides_true h.sound h.decides S) at h.means)

  same_run : (x : model.Ran) (e : ℕ) → Answered (take m o) o₁ q x → GaveSame f e q (o₁ ++ drop m o) → RunRecorded f e x
  same_run x e a g =
      record {
        stop = sym a.stop ∙ g.stop;
        commands = sym a.commands ∙ g.commands;
        read = sym a.read ∙ g.read;
        written = sym a.written ∙ g.written;
        bytes = sym (front_of x.bytes _ o₁ (drop m o) q.written a.bytes a.written) ∙ sym g.bytes ∙ ap (λ (k : ℕ). take k (drop (e + 7) f)) g.written;
      }

  pub run_agrees : Runs w w' (take (at + 4 + n - (at + 4)) (drop (at + 4) f)) (take m o) o₁ q → Compared f (at + 4 + n) q (o₁ ++ drop m o) r
      → StepAgrees f w w' r (λ e. RunAgrees f at (meaning w) e (meaning w'))
  run_agrees h c =
      let e : at + 4 + n ≡ numbers_at f at = ap (λ (k : ℕ). at + 4 + k) tape in
      record {
        within = c.within;
        agreed = λ a S. (
          left S h,
          record {
            same = subst (λ (k : ℕ). RunRecorded f k (run_at f at (meaning w))) e (same_run (run_at f at (meaning w)) (at + 4 + n) (answered S h) (c.same a));
            store = stored S h;
            end = c.end a ∙ ap (λ (k : ℕ). k + 7 + short f (k + 5)) e;
          },
        );
      }

-- ---- the roll

-- no more bytes than there are
pub rolled_few : (w o o₁ : List ℕ) (q : Rolled) → Rolls w o o₁ q → q.written ≤ length o₁
rolled_few w o o₁ q h = emits_few o o₁ q.number q.written (emitted_over h.sound (roll (length o) (meaning w))) h.emits

pub roll_agrees : (f w o o₁ : List ℕ) (at n : ℕ) (q : Rolled) (b : Bool) → n ≡ short f at → at + 2 + n ≤ length f → Rolls w o o₁ q
    → Decides b (RolledSame (take (at + 2 + n - (at + 2)) (drop (at + 2) f)) q o₁) → StepAgrees f w w (record { at = at + 2 + n; agrees = b }) (λ e. RollAgrees f at (meaning w) e)
roll_agrees f w o o₁ at n q b size fits h d =
    record {
      within = fits;
      agreed = λ a S. let g = yes_of b d a in (
        S,
        record {
          bytes = sym (rolled_snapshot w o o₁ q h g.number).1 ∙ sym g.bytes ∙ part_size f (at + 2) n ∙ ap (λ (k : ℕ). take k (drop (at + 2) f)) size;
          end = ap (λ (k : ℕ). at + 2 + k) size;
        },
      );
    }

-- ---- a column

pub same_column : (v r : Bor (List ℕ)) (k n p q : ℕ) (values : Bool) (b : List ℕ) → Sound v.now → ColumnNumbered v.now k 0 n p → p ≡ 0
    → ColumnNumbered v.now k 0 (n + 1) q → q ≡ BEYOND → ColumnPart v r values k 0 n → SameWords r.now b → SameColumn (meaning v.now) k values n b
same_column v r k n p q values b S h p0 l q16 c s =
    record {
      known = sym (rw (decides_true h.sound h.decides S) at h.number) ∙ p0;
      last = sym (rw (decides_true l.sound l.decides S) at l.number) ∙ q16;
      words = subst (λ (x : List ℕ). SameWords x b) (rw (decides_true c.sound c.decides S) at c.words) s;
    }

pub column_agrees : (f w : List ℕ) (at v n : ℕ) (a b : Bool) → n ≡ short f (at + 1) → at + 3 + 8 * n + v * n ≤ length f
    → (a ≡ true → Sound w → SameColumn (meaning w) (get_or f at 0) false n (take (at + 3 + 8 * n - (at + 3)) (drop (at + 3) f)))
    → (b ≡ true → Sound w → SameColumn (meaning w) (get_or f at 0) true n (take (at + 3 + 8 * n + v * n - (at + 3 + 8 * n)) (drop (at + 3 + 8 * n) f)))
    → StepAgrees f w w (record { at = at + 3 + 8 * n + v * n; agrees = a && b }) (λ e. ColumnAgrees f at v (meaning w) e)
column_agrees f w at v n a b size fits h k =
    record {
      within = fits;
      agreed = λ t S. (
        S,
        record {
          entities = rw (← size) (rw (part_size f (at + 3) (8 * n)) at (h (and_left a b t) S));
          values = rw (← size) (rw (part_size f (at + 3 + 8 * n) (v * n)) at (k (and_right a b t) S));
          end = ap (λ (m : ℕ). at + 3 + 8 * m + v * m) size;
        },
      );
    }

-- ---- a start

started_zero : (c : Settings) (m : ℕ) (x : Started) → start_with c m ≡ x → start_number x ≡ 0 → start_with c m ≡ makes (empty_with c)
started_zero c m (refuses_start r) e z = absurd (omega (arith, (start_number_law c m r e).0, z))
started_zero c m (makes s) e z = e ∙ ap makes (start_makes c m s e).store

pub started : (c : Settings) (w w' : List ℕ) (r : ℕ) → StartsWith c w w' r → r ≡ 0 → start_with c (length w) ≡ makes (empty_with c)
started c w w' r h z = started_zero c (length w) (start_with c (length w)) refl (sym h.number ∙ z)

pub fresh : (c : Settings) (w w' : List ℕ) (r : ℕ) → StartsWith c w w' r → r ≡ 0 → Sound w' × (meaning w' ≡ empty_with c)
fresh c w w' r h z = subst (StartLeaves w w') (started c w w' r h z) h.leaves

-- ---- one after another

pub no_runs_law : (f w : List ℕ) (at : ℕ) → at ≤ length f → StepAgrees f w w (record { at = at; agrees = true }) (λ e. RunsAgree f at (meaning w) 0 e (meaning w))
no_runs_law f w at h = record { within = h; agreed = λ a S. (S, no_runs) }

pub more_runs_law : (f w₀ w w' : List ℕ) (at i m : ℕ) (a : Bool) (r : Step) → StepAgrees f w₀ w (record { at = m; agrees = a }) (λ e. RunsAgree f at (meaning w₀) i e (meaning w))
    → StepAgrees f w w' r (λ e. RunAgrees f m (meaning w) e (meaning w'))
    → StepAgrees f w₀ w' (record { at = r.at; agrees = a && r.agrees }) (λ e. RunsAgree f at (meaning w₀) (i + 1) e (meaning w'))
more_runs_law f w₀ w w' at i m a r h k =
    record {
      within = k.within;
      agreed = λ t S. let p = h.agreed (and_left a r.agrees t) S in let q = k.agreed (and_right a r.agrees t) p.0 in (q.0, more_runs p.1 q.1);
    }

pub no_columns_law : (f w : List ℕ) (at v : ℕ) → at ≤ length f → StepAgrees f w w (record { at = at; agrees = true }) (λ e. ColumnsAgree f at v (meaning w) 0 e)
no_columns_law f w at v h = record { within = h; agreed = λ a S. (S, no_columns) }

pub more_columns_law : (f w : List ℕ) (at v i m : ℕ) (a : Bool) (r : Step) → StepAgrees f w w (record { at = m; agrees = a }) (λ e. ColumnsAgree f at v (meaning w) i e)
    → StepAgrees f w w r (λ e. ColumnAgrees f m v (meaning w) e) → StepAgrees f w w (record { at = r.at; agrees = a && r.agrees }) (λ e. ColumnsAgree f at v (meaning w) (i + 1) e)
more_columns_law f w at v i m a r h k =
    record {
      within = k.within;
      agreed = λ t S. let p = h.agreed (and_left a r.agrees t) S in let q = k.agreed (and_right a r.agrees t) S in (S, more_columns p.1 q.1);
    }

pub all_runs : (f w₀ w : List ℕ) (at i n : ℕ) (r : Step) → i ≡ n → StepAgrees f w₀ w r (λ e. RunsAgree f at (meaning w₀) i e (meaning w)) → StepAgrees f w₀ w r (λ e. RunsAgree f at (meaning w₀) n e (meaning w))
all_runs f w₀ w at i n r e h = subst (λ (k : ℕ). StepAgrees f w₀ w r (λ m. RunsAgree f at (meaning w₀) k m (meaning w))) e h

pub all_columns : (f w : List ℕ) (at v i n : ℕ) (r : Step) → i ≡ n → StepAgrees f w w r (λ e. ColumnsAgree f at v (meaning w) i e) → StepAgrees f w w r (λ e. ColumnsAgree f at v (meaning w) n e)
all_columns f w at v i n r e h = subst (λ (k : ℕ). StepAgrees f w w r (λ m. ColumnsAgree f at v (meaning w) k m)) e h

-- ---- a case

pub cut_case : (f : List ℕ) (at : ℕ) (r : Step) → r ≡ record { at = length f; agrees = false } → CaseStepped f at r
cut_case f at r e =
    record {
      within = let h : r.at ≡ length f = ap (λ (s : Step). s.at) e in omega arith;
      agreed = λ a. absurd (false≢true (sym (ap (λ (s : Step). s.agrees) e) ∙ a));
    }

-- a start gave z over the words w, and left w₁; the runs leave w₂
module _ (f w w₁ w₂ : List ℕ) (at z : ℕ) (runs roll columns : Step) (size : length w ≡ 8192) (begun : StartsWith (told_at f at) w w₁ z)
    (ran : StepAgrees f w₁ w₂ runs (λ e. RunsAgree f (at + 5) (meaning w₁) (get_or f (at + 4) 0) e (meaning w₂)))
    (rolled : StepAgrees f w₂ w₂ roll (λ e. RollAgrees f runs.at (meaning w₂) e))
    (shown : StepAgrees f w₂ w₂ columns (λ e. ColumnsAgree f (roll.at + 1) (get_or f (at + 3) 0) (meaning w₂) (get_or f roll.at 0) e)) where
  agreeing : z ≡ 0 → runs.agrees ≡ true → roll.agrees ≡ true → columns.agrees ≡ true → CaseAgrees f at columns.at
  agreeing z0 a b c =
      let told = told_at f at in
      let made = fresh told w w₁ z begun z0 in
      let p = ran.agreed a made.0 in
      record {
        store = meaning w₂;
        runs_end = runs.at;
        roll_end = roll.at;
        starts = subst (λ (m : ℕ). start_with told m ≡ makes (empty_with told)) size (started told w w₁ z begun z0);
        runs = subst (λ (s : Store). RunsAgree f (at + 5) s (get_or f (at + 4) 0) runs.at (meaning w₂)) made.1 p.1;
        roll = (rolled.agreed b p.0).1;
        columns = (shown.agreed c p.0).1;
      }

  pub case_agrees : CaseStepped f at (record { at = columns.at; agrees = ((eqb z 0 && runs.agrees) && roll.agrees) && columns.agrees })
  case_agrees =
      record {
        within = shown.within;
        agreed = λ t.
            let c = and_left ((eqb z 0 && runs.agrees) && roll.agrees) columns.agrees t in
            let b = and_left (eqb z 0 && runs.agrees) roll.agrees c in
            agreeing (eqb-true z 0 (and_left (eqb z 0) runs.agrees b)) (and_right (eqb z 0) runs.agrees b) (and_right (eqb z 0 && runs.agrees) roll.agrees c) (and_right ((eqb z 0 && runs.agrees) && roll.agrees) columns.agrees t);
      }

-- ---- all cases: the first i of them end at `at`, and where all of them agree, they do

abbrev pub Going : List ℕ → Tally → ℕ → ℕ → Type 0
Going f t at i = (t.cases ≡ i) × ((t.agree ≤ t.cases) × ((at ≤ length f) × (t.agree ≡ t.cases → CasesAgree f 12 i at)))

pub no_cases_law : (f : List ℕ) → 12 ≤ length f → Going f (record { cases = 0; agree = 0; first = None }) 12 0
no_cases_law f h = (refl, (omega arith, (h, λ e. no_cases)))

pub more_cases_law : (f : List ℕ) (t r : Tally) (at i : ℕ) (s : Step) → Going f t at i → CaseStepped f at s → CountedCase t s.agrees r → Going f r s.at (i + 1)
more_cases_law f t r at i s g h c = go s.agrees refl c.agree
  where
    go : (b : Bool) → s.agrees ≡ b → r.agree ≡ t.agree + bool_byte b → Going f r s.at (i + 1)
    go true e k = (
      omega (arith, c.cases, g.0),
      (omega (arith, k, c.cases, g.1.0), (h.within, λ a. more_cases (g.1.1.1 (omega (arith, k, c.cases, a))) (h.agreed e))),
    )
    go false e k =
        (omega (arith, c.cases, g.0), (omega (arith, k, c.cases, g.1.0), (h.within, λ a. absurd (omega (arith, k, c.cases, a, g.1.0)))))

pub all_cases : (f : List ℕ) (t : Tally) (at i n : ℕ) → Going f t at i → i ≡ n → Replayed f n t
all_cases f t at i n g e =
    record { cases = g.0 ∙ e; few = g.1.0; end = at; all = λ a. subst (λ (k : ℕ). CasesAgree f 12 k at) e (g.1.1.1 a) }
