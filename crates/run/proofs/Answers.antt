-- How many bytes a command's accepted answer takes. Assumes nothing.
use mathlib.Core.Path.{◌≡◌, refl, sym, ◌∙◌}
use mathlib.Core.Logic.{◌≢◌}
use mathlib.Core.List.{List}
use Prim.Native.Nat.{ℕ, ◌+◌, ◌*◌, ◌≤◌}
use native.Mathlib.Omega.{arith}
use lib.ListN.{length, get_or, set, get_or-map}
use lib.Seq.{get_or-set_other}
use Rattle.model.specs.Store.{Store}
use Rattle.model.specs.Commands.{Command, TALLY, commands, command_at, answer_length}
use Rattle.model.proofs.ListLaws.{default_any}
use Rattle.model.proofs.KindLists.{all_most}
use Rattle.run.specs.Stepping.{answers}
use Rattle.model.specs.Numbers.{TAKE_BYTE, LAST_COMMAND}

pub answers_small : (b : ℕ) → get_or answers b 0 ≤ 10
answers_small b = all_most 10 answers refl b

module _ (s : Store) (ops : List ℕ) where
  by_byte : (b : ℕ) → answer_length (command_at b ops) s ≡ get_or (set answers TAKE_BYTE (1 + (1 + s.settings.value_bytes) * length s.control.staged)) b 5
  by_byte b =
      sym (get_or-map (λ (c : Command). answer_length c s) (commands ops) b TALLY)

  pub take_answer : (b n : ℕ) → b ≡ TAKE_BYTE → n ≡ length s.control.staged → get_or answers b 0 + (1 + s.settings.value_bytes) * n ≡ answer_length (command_at b ops) s
  take_answer b n e f = rw (e, f)

  pub fixed_answer : (b : ℕ) → b ≢ TAKE_BYTE → b ≤ LAST_COMMAND → get_or answers b 0 ≡ answer_length (command_at b ops) s
  fixed_answer b ne h = default_any answers b 0 5 (omega arith) ∙ sym (get_or-set_other answers TAKE_BYTE b (1 + (1 + s.settings.value_bytes) * length s.control.staged) 5 ne) ∙ sym (by_byte b)
