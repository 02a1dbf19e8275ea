-- A tape of whole commands is read back as those commands, and a run of it that has room for all their accepted answers does them one after another to
-- the tape's end. Assumes nothing.
use mathlib.Core.Path.{◌≡◌, refl, ap, ap₂, ◌∙◌, subst}
use mathlib.Core.Bool.{true, false}
use mathlib.Core.List.{List, [], ◌∷◌, ◌++◌}
use Prim.Native.Nat.{ℕ, zero, suc, ◌+◌, ◌-◌, ◌≤◌, ◌<◌}
use native.Mathlib.Omega.{arith}
use borrow.Author.Tests.{le-ltb, leb-true}
use lib.Dec.{leb, ltb}
use lib.ListN.{length, take, drop, length-append}
use lib.Seq.{take_at, drop_at}
use Rattle.model.specs.Numbers.{LAST_COMMAND}
use Rattle.model.specs.Model.{Entity}
use Rattle.model.specs.Store.{Settings, Store, Bytes, bytes_of, number}
use Rattle.model.specs.Commands.{Command, REG, HOLD, NEW, PUT, TAKE, DROP, KILL, WIPE, GROUP, APPLY, BAR, RANGE, EMPTY, TALLY, TRAY, SETCALLER, width, is_command, entity_of_bytes, command_at, answer_length, operands_len}
use Rattle.model.specs.Run.{does, goes, step, answer_of, Ran, more, run_for, run}
use Rattle.model.proofs.BoolLaws.{and_right}
use Rattle.model.proofs.Encoding.{number_bytes, bytes_of_law, bytes_append}
use Rattle.model.proofs.Lengths.{bytes_of_length, answer_fits}
use Rattle.model.proofs.Settings.{command_settings}
use Rattle.tapes.proofs.Pieces.{run_step}
use Rattle.tapes.specs.Tapes.{byte_of, entity_bytes, operands_of, EntityFits, Encodable, AllEncodable, tape_of, after_one, after_all, answers_to, room_for, ran_all}

-- ---- a command and its bytes

entity_back : (e : Entity) → EntityFits e → entity_of_bytes (entity_bytes e) ≡ e
entity_back e h =
    let a : take 4 (entity_bytes e) ≡ bytes_of 4 e.index = take_at (bytes_of 4 e.index) (bytes_of 4 e.version) 4 (bytes_of_length 4 e.index) in
    let b : drop 4 (entity_bytes e) ≡ bytes_of 4 e.version = drop_at (bytes_of 4 e.index) (bytes_of 4 e.version) 4 (bytes_of_length 4 e.index) in
    λ i. record { index = (ap number a ∙ number_bytes 4 e.index h.0) i; version = (ap number b ∙ number_bytes 4 e.version h.1) i }

entity_length : (e : Entity) → length (entity_bytes e) ≡ 8
entity_length e = length-append (bytes_of 4 e.index) (bytes_of 4 e.version) ∙ ap₂ ◌+◌ (bytes_of_length 4 e.index) (bytes_of_length 4 e.version)

entity_of_bytes_law : (e : Entity) → Bytes (entity_bytes e)
entity_of_bytes_law e = bytes_append (bytes_of 4 e.index) (bytes_of 4 e.version) (bytes_of_law 4 e.index) (bytes_of_law 4 e.version)

-- it is read back
pub command_back : (v : ℕ) (c : Command) → Encodable v c → command_at (byte_of c) (operands_of v c) ≡ c
command_back v (REG k) h = refl
command_back v (HOLD k x) h = ap (HOLD k) (number_bytes v x h.1)
command_back v NEW h = refl
command_back v (PUT e) h = ap PUT (entity_back e h)
command_back v (TAKE e) h = ap TAKE (entity_back e h)
command_back v (DROP e) h = ap DROP (entity_back e h)
command_back v (KILL e) h = ap KILL (entity_back e h)
command_back v WIPE h = refl
command_back v GROUP h = refl
command_back v APPLY h = refl
command_back v (BAR k) h = refl
command_back v RANGE h = refl
command_back v EMPTY h = refl
command_back v TALLY h = refl
command_back v (TRAY n) h = ap TRAY (number_bytes 2 n h)
command_back v (SETCALLER c) h = refl

is_command_law : (c : Command) → is_command (byte_of c) ≡ true
is_command_law (REG k) = refl
is_command_law (HOLD k v) = refl
is_command_law NEW = refl
is_command_law (PUT e) = refl
is_command_law (TAKE e) = refl
is_command_law (DROP e) = refl
is_command_law (KILL e) = refl
is_command_law WIPE = refl
is_command_law GROUP = refl
is_command_law APPLY = refl
is_command_law (BAR k) = refl
is_command_law RANGE = refl
is_command_law EMPTY = refl
is_command_law TALLY = refl
is_command_law (TRAY n) = refl
is_command_law (SETCALLER c) = refl

-- it has all its operands
is_whole : (v : ℕ) (c : Command) → length (operands_of v c) ≡ width v (byte_of c)
is_whole v (REG k) = refl
is_whole v (HOLD k x) = omega (arith, bytes_of_length v x)
is_whole v NEW = refl
is_whole v (PUT e) = entity_length e
is_whole v (TAKE e) = entity_length e
is_whole v (DROP e) = entity_length e
is_whole v (KILL e) = entity_length e
is_whole v WIPE = refl
is_whole v GROUP = refl
is_whole v APPLY = refl
is_whole v (BAR k) = refl
is_whole v RANGE = refl
is_whole v EMPTY = refl
is_whole v TALLY = refl
is_whole v (TRAY n) = bytes_of_length 2 n
is_whole v (SETCALLER c) = refl

byte_small : (c : Command) → byte_of c < 256
byte_small c = omega (arith, leb-true (byte_of c) LAST_COMMAND (and_right (leb 1 (byte_of c)) (leb (byte_of c) LAST_COMMAND) (is_command_law c)))

operand_bytes : (v : ℕ) (c : Command) → Encodable v c → Bytes (operands_of v c)
operand_bytes v (REG k) h = (h, tt)
operand_bytes v (HOLD k x) h = (h.0, bytes_of_law v x)
operand_bytes v NEW h = tt
operand_bytes v (PUT e) h = entity_of_bytes_law e
operand_bytes v (TAKE e) h = entity_of_bytes_law e
operand_bytes v (DROP e) h = entity_of_bytes_law e
operand_bytes v (KILL e) h = entity_of_bytes_law e
operand_bytes v WIPE h = tt
operand_bytes v GROUP h = tt
operand_bytes v APPLY h = tt
operand_bytes v (BAR k) h = (h, tt)
operand_bytes v RANGE h = tt
operand_bytes v EMPTY h = tt
operand_bytes v TALLY h = tt
operand_bytes v (TRAY n) h = bytes_of_law 2 n
operand_bytes v (SETCALLER c) h = (h, tt)

-- a tape of commands is of bytes
pub tape_bytes : (v : ℕ) (cs : List Command) → AllEncodable v cs → Bytes (tape_of v cs)
tape_bytes v [] h = tt
tape_bytes v (c ∷ cs) h = (byte_small c, bytes_append (operands_of v c) (tape_of v cs) (operand_bytes v c h.0) (tape_bytes v cs h.1))

-- ---- lists of commands

pub encodable_append : (v : ℕ) (a b : List Command) → AllEncodable v a → AllEncodable v b → AllEncodable v (a ++ b)
encodable_append v [] b h i = i
encodable_append v (c ∷ a) b h i = (h.0, encodable_append v a b h.1 i)

pub after_append : (a b : List Command) (s : Store) → after_all (a ++ b) s ≡ after_all b (after_all a s)
after_append [] b s = refl
after_append (c ∷ a) b s = after_append a b (after_one c s)

-- ---- a run, in a store whose values are of v bytes

step_own : (c : Command) (rest : List ℕ) (room : ℕ) (s : Store) → answer_length c s ≤ room → Encodable s.settings.value_bytes c
    → step (byte_of c) (operands_of s.settings.value_bytes c ++ rest) room s ≡ goes (suc (operands_len (byte_of c) s)) (answer_of (does c s)) (after_one c s)
unfolding step
step_own c rest room s h f =
    let ops : List ℕ = operands_of s.settings.value_bytes c in
    let n : length ops ≡ operands_len (byte_of c) s = is_whole s.settings.value_bytes c in
    let t : take (operands_len (byte_of c) s) (ops ++ rest) ≡ ops = take_at ops rest (operands_len (byte_of c) s) n in
    let l : ltb (length (ops ++ rest)) (operands_len (byte_of c) s) ≡ false = le-ltb (length (ops ++ rest)) (operands_len (byte_of c) s) (omega (arith, n, length-append ops rest)) in
    rw (is_command_law c, l, t, command_back s.settings.value_bytes c f, le-ltb room (answer_length c s) h)

step_whole : (v : ℕ) (c : Command) (rest : List ℕ) (room : ℕ) (s : Store) → s.settings.value_bytes ≡ v → Encodable v c → answer_length c s ≤ room
    → step (byte_of c) (operands_of v c ++ rest) room s ≡ goes (suc (width v (byte_of c))) (answer_of (does c s)) (after_one c s)
step_whole v c rest room s e f h =
    subst (λ (v : ℕ). Encodable v c → step (byte_of c) (operands_of v c ++ rest) room s ≡ goes (suc (width v (byte_of c))) (answer_of (does c s)) (after_one c s)) e (step_own c rest room s h) f

-- what it gives: ran_all is this for the store's own v
abbrev ran_by : ℕ → List Command → Store → Ran
ran_by v cs s = record { store = after_all cs s; stop = 0; commands = length cs; read = length (tape_of v cs); bytes = answers_to cs s }

-- no command changes v
run_commands_for : (fuel v : ℕ) (cs : List Command) (room : ℕ) (s : Store) → s.settings.value_bytes ≡ v → AllEncodable v cs → length (tape_of v cs) ≤ fuel → room_for cs s ≤ room → run_for fuel (tape_of v cs) room s ≡ ran_by v cs s
unfolding run_for
run_commands_for zero v [] room s e W f h = refl
run_commands_for (suc fuel) v [] room s e W f h = refl
run_commands_for zero v (c ∷ cs) room s e W f h = absurd (omega arith)
run_commands_for (suc fuel) v (c ∷ cs) room s e W f h =
    let a = answer_of (does c s) in
    let w = suc (width v (byte_of c)) in
    let st = step_whole v c (tape_of v cs) room s e W.0 (omega (arith, h)) in
    let d : drop (suc (width v (byte_of c))) (byte_of c ∷ (operands_of v c ++ tape_of v cs)) ≡ tape_of v cs = drop_at (operands_of v c) (tape_of v cs) (width v (byte_of c)) (is_whole v c) in
    let fits = answer_fits c s (does c s) refl in
    let n : length (operands_of v c ++ tape_of v cs) ≡ length (operands_of v c) + length (tape_of v cs) = length-append (operands_of v c) (tape_of v cs) in
    let still : (after_one c s).settings.value_bytes ≡ v = ap (λ (x : Settings). x.value_bytes) (command_settings c s (does c s) refl) ∙ e in
    let rest = run_commands_for fuel v cs (room - length (answer_of (does c s))) (after_one c s) still W.1 (omega (arith, n)) (omega (arith, h, fits)) in
    let q : suc (width v (byte_of c)) + length (tape_of v cs) ≡ suc (length (operands_of v c ++ tape_of v cs)) = omega (arith, n, is_whole v c) in
    run_step fuel (byte_of c) (operands_of v c ++ tape_of v cs) room s w a (after_one c s) st
    ∙ ap (λ (t : List ℕ). more w a (run_for fuel t (room - length a) (after_one c s))) d
    ∙ ap (more w a) rest
    ∙ (λ i. record { store = after_all (c ∷ cs) s; stop = 0; commands = suc (length cs); read = q i; bytes = answers_to (c ∷ cs) s })

-- commands that can stand on a tape, and room for all their accepted answers
pub run_commands : (cs : List Command) (room : ℕ) (s : Store) → AllEncodable s.settings.value_bytes cs → room_for cs s ≤ room → run (tape_of s.settings.value_bytes cs) room s ≡ ran_all cs s
unfolding run
run_commands cs room s W h = run_commands_for (length (tape_of s.settings.value_bytes cs)) s.settings.value_bytes cs room s refl W (omega arith) h
