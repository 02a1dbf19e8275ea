-- "hand, bar, draft and layout of registered kinds, such as commands can build", on the words: over the contracts of start and run alone. Assumes nothing.
use mathlib.Core.Path.{◌≡◌, sym, ◌∙◌}
use mathlib.Core.Bool.{Bool, true, false}
use mathlib.Core.List.{List}
use Prim.Native.Nat.{ℕ, ◌≤◌}
use lib.ListN.{length}
use Rattle.model.specs.Store.{Settings, Store, empty_with}
use Rattle.model.specs.Run.{run}
use Rattle.words.specs.Decides.{Decides}
use Rattle.tapes.specs.Built.{Build, built_store, BuildSound, build_of, TapeLeaves, build_tape, build_room}
use Rattle.tapes.proofs.Built.{tape_builds, own_sound, own_whole}
use Rattle.memory.specs.Meaning.{meaning}
use Rattle.memory.specs.Arranged.{Sound}
use Rattle.run.specs.declared.Ran.{Ran}
use Rattle.store.specs.Entries.{StartsWith, ran_of, Runs}
use Rattle.store.specs.Course.{Reached}
use Rattle.store.specs.Theorems.{Alike, LeftInWords}
use Rattle.store.proofs.Demands.{run_keeps_sound, started_empty, reached_sound}

-- what a tape leaves from the empty store, it leaves over any words after an accepted start
pub left_in_words : (c : Settings) (t : List ℕ) (room : ℕ) (s : Store) (w w₁ w₂ o o' : List ℕ) (r : Ran) → TapeLeaves c t room s → StartsWith c w w₁ 0 → Runs w₁ w₂ t o o' r → room ≤ length o → LeftInWords s w₂ r
left_in_words c t room s w w₁ w₂ o o' r T St R h = go R.sound R.decides R.answered.stop R.means
  where
    start : Sound w₁ × (meaning w₁ ≡ empty_with c)
    start = started_empty c w w₁ St

    go : (b : Bool) → Decides b (Sound w₁) → r.stop ≡ (ran_of b t (length o) (meaning w₁)).stop → meaning w₂ ≡ (ran_of b t (length o) (meaning w₁)).store → LeftInWords s w₂ r
    go false d e m = absurd (d start.0)
    go true d e m =
        record {
          stop = e ∙ (λ i. (run t (length o) (start.1 i)).stop) ∙ T.stop (length o) h;
          sound = run_keeps_sound w₁ w₂ t o o' r R start.0;
          means = m ∙ (λ i. (run t (length o) (start.1 i)).store) ∙ T.store (length o) h;
        }

-- after an accepted start of these settings over any words, a run of the building tape with its room leaves words that mean what is built
pub built_in_words : (c : Settings) (b : Build) (w w₁ w₂ o o' : List ℕ) (r : Ran) → BuildSound c.kind_capacity c.value_bytes b → StartsWith c w w₁ 0 → Runs w₁ w₂ (build_tape c.value_bytes b) o o' r → build_room c b ≤ length o → LeftInWords (built_store c b) w₂ r
built_in_words c b w w₁ w₂ o o' r B = left_in_words c (build_tape c.value_bytes b) (build_room c b) (built_store c b) w w₁ w₂ o o' r (tape_builds c b B)

-- and what stands in any words that a start and runs reach is such as this tape builds
pub reached_buildable : {w : List ℕ} → Reached w → BuildSound (meaning w).settings.kind_capacity (meaning w).settings.value_bytes (build_of (meaning w))
reached_buildable {w} c = own_sound (meaning w) (reached_sound c).means

-- sound words in which no number is issued are built anew over any words, by an accepted start of its width, under its rule, and one run: the two are alike
pub rebuilt_in_words : (w v v₁ v₂ o o' : List ℕ) (r : Ran) → Sound w → (meaning w).entities.issued ≡ 0 → StartsWith (meaning w).settings v v₁ 0
    → Runs v₁ v₂ (build_tape (meaning w).settings.value_bytes (build_of (meaning w))) o o' r → build_room (meaning w).settings (build_of (meaning w)) ≤ length o → Alike w v₂
rebuilt_in_words w v v₁ v₂ o o' r S none St R h =
    let s = meaning w in
    let L = built_in_words s.settings (build_of s) v v₁ v₂ o o' r (own_sound s S.means) St R h in
    record { means = sym (L.means ∙ own_whole s S.means none); sound = ((λ x. L.sound), (λ x. S)) }
