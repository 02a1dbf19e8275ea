-- TRAY over the words: what each TRAY of a run answers and leaves. A theorem over the contract of *run* alone (specs/Entries.antt). Assumes nothing.
use mathlib.Core.Path.{◌≡◌, sym, subst}
use mathlib.Core.List.{List, ◌++◌}
use Prim.Native.Nat.{ℕ}
use Rattle.model.specs.Commands.{Command, TRAY}
use Rattle.model.specs.Run.{does, store_after, answer_of}
use Rattle.tapes.specs.Trays.{TrayTold}
use Rattle.tapes.proofs.Trays.{tray_told}
use Rattle.memory.specs.Meaning.{meaning}
use Rattle.memory.specs.Arranged.{Sound}
use Rattle.run.specs.declared.Ran.{Ran}
use Rattle.store.specs.Course.{EachDone}
use Rattle.store.specs.Entries.{Runs}
use Rattle.store.proofs.Demands.{run_course, told_in_run}

-- wherever it stands in the run: for the hand and the numbers before it
pub trays_in_run : (w w' t o o' : List ℕ) (r : Ran) (R : Runs w w' t o o' r) (S : Sound w)
    → EachDone (λ v k v' l. (n : ℕ) → k ≡ TRAY n → TrayTold n (meaning v) (meaning v') l) (run_course w w' t o o' r R S)
trays_in_run w w' t o o' r R S =
    told_in_run (λ k s s' l. (n : ℕ) → k ≡ TRAY n → TrayTold n s s' l)
    (λ k s rest M n e. subst (λ (c : Command). TrayTold n s (store_after s (does c s)) (answer_of (does c s) ++ rest)) (sym e) (tray_told n s rest M)) w w' t o o' r R S
