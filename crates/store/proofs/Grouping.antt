-- GROUP over the words: what each GROUP of a run answers and leaves, and the groups of a job sheet in any order. Theorems over the contract of *run* alone
-- (specs/Entries.antt). Assumes nothing.
use mathlib.Core.Path.{◌≡◌, sym, ap, ◌∙◌, subst}
use mathlib.Core.Bool.{Bool, true}
use mathlib.Core.List.{List, [], ◌++◌}
use Prim.Native.Nat.{ℕ, ◌≤◌}
use lib.ListN.{length}
use Rattle.model.specs.Model.{Component}
use Rattle.model.specs.Forms.{SameGroups}
use Rattle.model.specs.Store.{Store}
use Rattle.model.specs.Commands.{Command, GROUP}
use Rattle.model.specs.Run.{does, store_after, answer_of}
use Rattle.words.proofs.Decides.{decides_same}
use Rattle.tapes.specs.Tapes.{AllEncodable, tape_of, after_all, room_for, ran_all}
use Rattle.tapes.proofs.Tapes.{run_commands}
use Rattle.drafts.specs.Grouped.{GroupTold}
use Rattle.drafts.specs.Drafted.{two_or_more}
use Rattle.drafts.specs.Sheets.{sheet_commands, sheet_groups, SheetSound, NoneRefused, SameSheet}
use Rattle.drafts.proofs.Grouping.{group_told}
use Rattle.drafts.proofs.Sheets.{sheet_encodable, sheets_in_any_order}
use Rattle.memory.specs.Meaning.{meaning}
use Rattle.memory.specs.Arranged.{Sound}
use Rattle.run.specs.declared.Ran.{Ran}
use Rattle.store.specs.Course.{EachDone}
use Rattle.store.specs.Entries.{ran_of, Runs}
use Rattle.store.proofs.Demands.{run_course, told_in_run}

-- ---- each GROUP of a run

-- wherever it stands in the run: for the hand and the draft before it
pub groups_in_run : (w w' t o o' : List ℕ) (r : Ran) (R : Runs w w' t o o' r) (S : Sound w) → EachDone (λ v k v' l. k ≡ GROUP → GroupTold (meaning v) (meaning v') l) (run_course w w' t o o' r R S)
groups_in_run w w' t o o' r R S =
    told_in_run (λ k s s' l. k ≡ GROUP → GroupTold s s' l) (λ k s rest M e. subst (λ (c : Command). GroupTold s (store_after s (does c s)) (answer_of (does c s) ++ rest)) (sym e) (group_told s M rest)) w w' t o o' r R S

-- ---- a job sheet

-- what whole commands leave, where the buffer has room for their answers
left_by : (cs : List Command) (w w' o o' : List ℕ) (r : Ran) → Sound w → AllEncodable (meaning w).settings.value_bytes cs → Runs w w' (tape_of (meaning w).settings.value_bytes cs) o o' r → room_for cs (meaning w) ≤ length o → meaning w' ≡ after_all cs (meaning w)
left_by cs w w' o o' r S e R h =
    let yes : R.sound ≡ true = decides_same R.sound true R.decides S ((λ d. d), (λ d. d)) in
    let all : ran_of R.sound (tape_of (meaning w).settings.value_bytes cs) (length o) (meaning w) ≡ ran_all cs (meaning w) = ap (λ (c : Bool). ran_of c (tape_of (meaning w).settings.value_bytes cs) (length o) (meaning w)) yes ∙ run_commands cs (length o) (meaning w) e h in
    R.means ∙ (λ i. (all i).store)

-- the groups of a sheet in another order, run on the same words, which have an empty hand: the one sheet leaves words w₁, none of it refused; then none of the
-- other is refused, and it leaves words w₂ with the same list of the draft's groups, and nothing else differs
pub sheets_in_words : (w w₁ w₂ o o₁ p p₁ : List ℕ) (r q : Ran) (hs js : List (List Component)) → Sound w → (meaning w).control.staged ≡ []
    → SheetSound (meaning w).settings.value_bytes (meaning w).kinds hs → SheetSound (meaning w).settings.value_bytes (meaning w).kinds js → SameGroups (two_or_more (sheet_groups hs)) (two_or_more (sheet_groups js))
    → Runs w w₁ (tape_of (meaning w).settings.value_bytes (sheet_commands hs)) o o₁ r → room_for (sheet_commands hs) (meaning w) ≤ length o
    → Runs w w₂ (tape_of (meaning w).settings.value_bytes (sheet_commands js)) p p₁ q → room_for (sheet_commands js) (meaning w) ≤ length p
    → NoneRefused (sheet_commands hs) (meaning w) → SameSheet js (meaning w) (meaning w₁) (meaning w₂)
sheets_in_words w w₁ w₂ o o₁ p p₁ r q hs js S bare H J same R room Q room' n =
    let small = S.means.kinds.small in
    let first = left_by (sheet_commands hs) w w₁ o o₁ r S (sheet_encodable (meaning w).settings.value_bytes (meaning w).kinds small hs H) R room in
    let second = left_by (sheet_commands js) w w₂ p p₁ q S (sheet_encodable (meaning w).settings.value_bytes (meaning w).kinds small js J) Q room' in
    subst (SameSheet js (meaning w) (meaning w₁)) (sym second)
    (subst (λ (t : Store). SameSheet js (meaning w) t (after_all (sheet_commands js) (meaning w))) (sym first) (sheets_in_any_order (meaning w) S.means bare hs js H J same n))
