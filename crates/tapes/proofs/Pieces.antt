-- A run goes on where it stopped: a tape run in pieces, each from the byte where the last stopped, does what one run does. Assumes nothing.
use mathlib.Core.Path.{◌≡◌, refl, ap, ap₂, sym, ◌∙◌, subst}
use mathlib.Core.Logic.{◌≢◌}
use mathlib.Core.Bool.{false}
use mathlib.Core.Option.{Option}
use mathlib.Core.List.{List, [], ◌∷◌, ◌++◌, append_assoc, append-nil}
use Prim.Native.Nat.{ℕ, zero, suc, ◌+◌, ◌-◌, ◌≤◌}
use native.Mathlib.Omega.{arith}
use native.Mathlib.Nat.{zero-add, add_assoc, suc-add, sub-zero}
use borrow.Author.Tests.{ltb-false, le-ltb}
use lib.Dec.{ltb}
use lib.ListN.{length, take, drop, length-append, length-drop}
use lib.Seq.{take-append-le, drop-append-le, drop-drop}
use Rattle.model.specs.Numbers.{NOROOM}
use Rattle.model.specs.Store.{Store}
use Rattle.model.specs.Commands.{is_command, command_at, answer_length, command_on, operands_len}
use Rattle.model.specs.Refusals.{NoneHolds, before_lines}
use Rattle.model.specs.Run.{does, Step, stops, goes, step_of, step_if, step, Ran, halt, more, run_for, run}
use Rattle.model.specs.Theorems.{IfGoes, StepFits}
use Rattle.model.proofs.BoolLaws.{bool_cases}
use Rattle.model.proofs.Lines.{none_from}
use Rattle.model.proofs.Lengths.{step_case, step_lengths}
use Rattle.tapes.specs.Pieces.{in_turn}

-- ---- one step

-- a command that is done is done alike with more of the tape behind it, and with more room
step_longer : (b : ℕ) (t u : List ℕ) (room room' : ℕ) (s : Store) → room ≤ room' → IfGoes (λ w a s'. step b (t ++ u) room' s ≡ goes w a s') (step b t room s)
unfolding step
step_longer b t u room room' s h = step_case (IfGoes (λ w a s'. step b (t ++ u) room' s ≡ goes w a s')) b t room s (λ n. tt) go
  where
    go : NoneHolds before_lines (record { byte = b; rest = t; room = room; store = s }) → step b (t ++ u) room' s ≡ step_of (suc (operands_len b s)) s (does (command_on b t s) s)
    go n =
        let whole : operands_len b s ≤ length t = ltb-false (length t) (operands_len b s) n.1.0 in
        let same : take (operands_len b s) (t ++ u) ≡ take (operands_len b s) t = take-append-le (operands_len b s) t u whole in
        let longer : ltb (length (t ++ u)) (operands_len b s) ≡ false = le-ltb (length (t ++ u)) (operands_len b s) (omega (arith, whole, length-append t u)) in
        let fits : answer_length (command_on b t s) s ≤ room = ltb-false room (answer_length (command_on b t s) s) n.1.1.0 in
        let roomier : ltb room' (answer_length (command_on b t s) s) ≡ false = le-ltb room' (answer_length (command_on b t s) s) (omega (arith, fits, h)) in
        let still : ltb room' (answer_length (command_on b (t ++ u) s) s) ≡ false = ap (λ (ops : List ℕ). ltb room' (answer_length (command_at b ops) s)) same ∙ roomier in
        ap (λ (r : Option ℕ). step_if r (step_of (suc (operands_len b s)) s (does (command_on b (t ++ u) s) s)))
        (none_from before_lines (record { byte = b; rest = t ++ u; room = room'; store = s }) (n.0, (longer, (still, tt))))
        ∙ ap (λ (ops : List ℕ). step_of (suc (operands_len b s)) s (does (command_at b ops) s)) same

-- a stop for another reason than want of room comes with more room too
step_stopped : (b : ℕ) (t : List ℕ) (room room' : ℕ) (s : Store) (n : ℕ) → step b t room s ≡ stops n → n ≢ NOROOM → step b t room' s ≡ stops n
unfolding step
step_stopped b t room room' s n e h =
    bool_cases (is_command b)
    (λ known.
    bool_cases (ltb (length t) (operands_len b s))
    (λ cut. rw (known, cut) (rw (known, cut) at e))
    (λ whole.
    bool_cases (ltb room (answer_length (command_on b t s) s))
    (λ short. let p : stops NOROOM ≡ stops n = rw (known, whole, short) at e in let z : n ≡ NOROOM = cc in absurd (h z))
    (λ fits.
    let p : step_of (suc (operands_len b s)) s (does (command_on b t s) s) ≡ stops n = rw (known, whole, fits) at e in
    let z : ◌≡◌ {A = ℕ} 0 1 = cc in
    absurd (omega arith))))
    (λ unknown. rw unknown (rw unknown at e))

-- ---- a run, by its next step

pub run_stop : (fuel b : ℕ) (t : List ℕ) (room : ℕ) (s : Store) (n : ℕ) → step b t room s ≡ stops n → run_for (suc fuel) (b ∷ t) room s ≡ halt n s
unfolding run_for
run_stop fuel b t room s n e =
    ap (λ (p : Step). elim p as (λ p. Ran) [ stops n ↦ halt n s | goes w a s' ↦ more w a (run_for fuel (drop w (b ∷ t)) (room - length a) s') ]) e

pub run_step : (fuel b : ℕ) (t : List ℕ) (room : ℕ) (s : Store) (w : ℕ) (a : List ℕ) (s' : Store) → step b t room s ≡ goes w a s'
    → run_for (suc fuel) (b ∷ t) room s ≡ more w a (run_for fuel (drop w (b ∷ t)) (room - length a) s')
unfolding run_for
run_step fuel b t room s w a s' e =
    ap (λ (p : Step). elim p as (λ p. Ran) [ stops n ↦ halt n s | goes w a s' ↦ more w a (run_for fuel (drop w (b ∷ t)) (room - length a) s') ]) e

-- fuel for each byte of the tape is enough: more of it changes nothing
run_fuel : (f g : ℕ) (t : List ℕ) (room : ℕ) (s : Store) → length t ≤ f → length t ≤ g → run_for f t room s ≡ run_for g t room s
unfolding run_for
run_fuel zero zero t room s hf hg = refl
run_fuel zero (suc g) [] room s hf hg = refl
run_fuel zero (suc g) (b ∷ t) room s hf hg = absurd (omega arith)
run_fuel (suc f) zero [] room s hf hg = refl
run_fuel (suc f) zero (b ∷ t) room s hf hg = absurd (omega arith)
run_fuel (suc f) (suc g) [] room s hf hg = refl
run_fuel (suc f) (suc g) (b ∷ t) room s hf hg = go (step b t room s) refl (step_lengths b t room s) (run_fuel f g)
  where
    go : (p : Step) → step b t room s ≡ p → IfGoes (λ w a s'. StepFits b t room s w a) p → ((t : List ℕ) (room : ℕ) (s : Store) → length t ≤ f → length t ≤ g → run_for f t room s ≡ run_for g t room s)
        → run_for (suc f) (b ∷ t) room s ≡ run_for (suc g) (b ∷ t) room s
    go (stops n) e h rec = run_stop f b t room s n e ∙ sym (run_stop g b t room s n e)
    go (goes w a s') e h rec =
        let d : length (drop w (b ∷ t)) ≡ suc (length t) - w = length-drop w (b ∷ t) in
        run_step f b t room s w a s' e
        ∙ ap (more w a) (rec (drop w (b ∷ t)) (room - length a) s' (omega (arith, d, h.read, hf)) (omega (arith, d, h.read, hg)))
        ∙ sym (run_step g b t room s w a s' e)

-- the first command, and a run of what is behind it
pub run_goes : (b : ℕ) (t : List ℕ) (room : ℕ) (s : Store) (w : ℕ) (a : List ℕ) (s' : Store) → step b t room s ≡ goes w a s' → run (b ∷ t) room s ≡ more w a (run (drop w (b ∷ t)) (room - length a) s')
unfolding run
run_goes b t room s w a s' e =
    let z : StepFits b t room s w a = rw e at (step_lengths b t room s) in
    let d : length (drop w (b ∷ t)) ≡ suc (length t) - w = length-drop w (b ∷ t) in
    run_step (length t) b t room s w a s' e
    ∙ ap (more w a) (run_fuel (length t) (length (drop w (b ∷ t))) (drop w (b ∷ t)) (room - length a) s' (omega (arith, d, z.read)) (omega arith))

-- ---- in two pieces

-- a run of the tape t with so much room is r, and then a run of what r left of the tape and of the room
abbrev BeginsWith : List ℕ → ℕ → Store → Ran → Type 0
BeginsWith t room s r = run t room s ≡ in_turn r (run (drop r.read t) (room - length r.bytes) r.store)

-- a stop reads nothing: its command is tried again
again : (n : ℕ) (t : List ℕ) (room : ℕ) (s : Store) → BeginsWith t room s (halt n s)
again n t room s = rw (sub-zero room, zero-add (run t room s).commands, zero-add (run t room s).read)

more_in_turn : (w : ℕ) (a : List ℕ) (x y : Ran) → more w a (in_turn x y) ≡ in_turn (more w a x) y
more_in_turn w a x y = rw (suc-add x.commands y.commands, add_assoc w x.read y.read, append_assoc a x.bytes y.bytes)

-- a command before a run
begins_more : (b : ℕ) (t u : List ℕ) (room : ℕ) (s : Store) (w : ℕ) (a : List ℕ) (s' : Store) (r : Ran) → step b (t ++ u) room s ≡ goes w a s' → w ≤ suc (length t)
    → BeginsWith (drop w (b ∷ t) ++ u) (room - length a) s' r → BeginsWith (b ∷ (t ++ u)) room s (more w a r)
begins_more b t u room s w a s' r e whole rest =
    let back : drop w (b ∷ (t ++ u)) ≡ drop w (b ∷ t) ++ u = drop-append-le w (b ∷ t) u whole in
    let left : drop (w + r.read) (b ∷ (t ++ u)) ≡ drop r.read (drop w (b ∷ t) ++ u) = sym (drop-drop r.read w (b ∷ (t ++ u))) ∙ ap (drop r.read) back in
    let free : room - length (a ++ r.bytes) ≡ room - length a - length r.bytes = omega (arith, length-append a r.bytes) in
    run_goes b (t ++ u) room s w a s' e
    ∙ ap (λ (l : List ℕ). more w a (run l (room - length a) s')) back
    ∙ ap (more w a) rest
    ∙ more_in_turn w a r (run (drop r.read (drop w (b ∷ t) ++ u)) (room - length a - length r.bytes) r.store)
    ∙ ap₂ (λ (l : List ℕ) (k : ℕ). in_turn (more w a r) (run l k r.store)) (sym left) (sym free)

pieces_for : (fuel : ℕ) (t u : List ℕ) (room room' : ℕ) (s : Store) → length t ≤ fuel → room ≤ room' → BeginsWith (t ++ u) room' s (run_for fuel t room s)
unfolding run_for
pieces_for zero [] u room room' s f h = again 0 u room' s
pieces_for zero (b ∷ t) u room room' s f h = absurd (omega arith)
pieces_for (suc fuel) [] u room room' s f h = again 0 u room' s
pieces_for (suc fuel) (b ∷ t) u room room' s f h = go (step b t room s) refl (step_lengths b t room s) (step_longer b t u room room' s h) (λ l. pieces_for fuel l u)
  where
    go : (p : Step) → step b t room s ≡ p → IfGoes (λ w a s'. StepFits b t room s w a) p → IfGoes (λ w a s'. step b (t ++ u) room' s ≡ goes w a s') p
        → ((l : List ℕ) (k k' : ℕ) (s' : Store) → length l ≤ fuel → k ≤ k' → BeginsWith (l ++ u) k' s' (run_for fuel l k s')) → BeginsWith (b ∷ (t ++ u)) room' s (run_for (suc fuel) (b ∷ t) room s)
    go (stops n) e z on rec = subst (BeginsWith (b ∷ (t ++ u)) room' s) (sym (run_stop fuel b t room s n e)) (again n (b ∷ (t ++ u)) room' s)
    go (goes w a s') e z on rec =
        let d : length (drop w (b ∷ t)) ≡ suc (length t) - w = length-drop w (b ∷ t) in
        subst (BeginsWith (b ∷ (t ++ u)) room' s) (sym (run_step fuel b t room s w a s' e))
        (begins_more b t u room' s w a s' (run_for fuel (drop w (b ∷ t)) (room - length a) s') on z.whole
        (rec (drop w (b ∷ t)) (room - length a) (room' - length a) s' (omega (arith, d, z.read, f)) (omega (arith, h))))

-- However a tape is cut, and wherever its first piece stops (at its end, by 4, 5 or 6): a run of the whole, with as much room or more, is the run of the
-- first piece and then a run from the byte where that stopped, in the room that it left.
pub run_pieces : (t u : List ℕ) (room room' : ℕ) (s : Store) → room ≤ room'
    → run (t ++ u) room' s ≡ in_turn (run t room s) (run (drop (run t room s).read (t ++ u)) (room' - length (run t room s).bytes) (run t room s).store)
unfolding run
run_pieces t u room room' s h = pieces_for (length t) t u room room' s (omega arith) h

-- ---- with more room

roomier_for : (fuel : ℕ) (t : List ℕ) (room room' : ℕ) (s : Store) → room ≤ room' → (run_for fuel t room s).stop ≢ NOROOM → run_for fuel t room' s ≡ run_for fuel t room s
unfolding run_for
roomier_for zero t room room' s h n = refl
roomier_for (suc fuel) [] room room' s h n = refl
roomier_for (suc fuel) (b ∷ t) room room' s h n = go (step b t room s) refl (step_longer b t [] room room' s h) (roomier_for fuel) n
  where
    go : (p : Step) → step b t room s ≡ p → IfGoes (λ w a s'. step b (t ++ []) room' s ≡ goes w a s') p
        → ((l : List ℕ) (k k' : ℕ) (s' : Store) → k ≤ k' → (run_for fuel l k s').stop ≢ NOROOM → run_for fuel l k' s' ≡ run_for fuel l k s')
        → (run_for (suc fuel) (b ∷ t) room s).stop ≢ NOROOM
        → run_for (suc fuel) (b ∷ t) room' s ≡ run_for (suc fuel) (b ∷ t) room s
    go (stops m) e on rec n =
        let is : run_for (suc fuel) (b ∷ t) room s ≡ halt m s = run_stop fuel b t room s m e in
        run_stop fuel b t room' s m (step_stopped b t room room' s m e (λ q. n (ap (λ (r : Ran). r.stop) is ∙ q))) ∙ sym is
    go (goes w a s') e on rec n =
        let is : run_for (suc fuel) (b ∷ t) room s ≡ more w a (run_for fuel (drop w (b ∷ t)) (room - length a) s') = run_step fuel b t room s w a s' e in
        run_step fuel b t room' s w a s' (rw (append-nil t) at on)
        ∙ ap (more w a) (rec (drop w (b ∷ t)) (room - length a) (room' - length a) s' (omega (arith, h)) (λ q. n (ap (λ (r : Ran). r.stop) is ∙ q)))
        ∙ sym is

-- a run that does not stop for want of room is the same with more of it
pub run_roomier : (t : List ℕ) (room room' : ℕ) (s : Store) → room ≤ room' → (run t room s).stop ≢ NOROOM → run t room' s ≡ run t room s
unfolding run
run_roomier t room room' s h n = roomier_for (length t) t room room' s h n
