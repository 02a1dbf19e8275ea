-- 02, No. 8 and No. 13, over the words: "A store is started with part width 8 or 16, and a sound one has one of the two"; "A store may be started under the newer rule, told by a bool and fixed for its life, and a sound one has one of the two
-- rules"; where the newer finds a range and what it shows. Theorems over the entries' contracts alone (specs/Entries.antt). Assumes nothing.
use mathlib.Core.Path.{◌≡◌, refl, ap, ◌∙◌, subst}
use mathlib.Core.Logic.{◌↔◌, ◌≢◌}
use mathlib.Core.Bool.{Bool, true, false, cond}
use mathlib.Core.List.{List, ◌∷◌, ◌++◌}
use Prim.Native.Nat.{ℕ, zero, suc, ◌≤◌, ◌<◌}
use native.Mathlib.Omega.{arith}
use lib.Dec.{eqb}
use lib.ListN.{length, take}
use Rattle.model.specs.Numbers.{LONG_VALUE_BYTES, VALUE_BYTES}
use Rattle.model.specs.Store.{Settings, Store, empty_with, staged_kinds}
use Rattle.model.specs.Commands.{Command, RANGE, accepted, command_on}
use Rattle.model.specs.Entries.{part}
use Rattle.model.specs.Sound.{cnt, In, key}
use Rattle.model.specs.Model.{Entity}
use Rattle.model.specs.Shown.{AllAndNone, described, ShowsUnder, ShowsNewer, Showing, found_in, start_in, end_in, RangeAnswer}
use Rattle.model.proofs.Widths.{neither}
use Rattle.model.proofs.Settings.{accepted_settings, run_settings}
use Rattle.model.proofs.Rules.{newer_describes, newer_exactly}
use Rattle.words.specs.Offsets.{NEWER}
use Rattle.memory.specs.Header.{rule_of, value_bytes_of}
use Rattle.memory.specs.Meaning.{meaning, with_refusal}
use Rattle.memory.specs.Arranged.{Sound}
use Rattle.run.specs.declared.Ran.{Ran}
use Rattle.store.specs.Course.{Course, ended, stopped, refused, done, EachDone, EachAnswer, Reached, started, ran, settings_in}
use Rattle.store.specs.Entries.{StartsWith, ran_of, Runs}
use Rattle.store.specs.Ranging.{NewerTold, OneEntity}
use Rattle.store.specs.Theorems.{UnsoundAt, Ruled}
use Rattle.store.proofs.Demands.{run_course, run_keeps_sound, started_empty, reached_sound}
use Rattle.store.proofs.Ranging.{ranges_in_run}
use Rattle.store.proofs.Unsound.{unsound_at}

-- ---- "a sound one has one of the two rules": 2 or more in word 10 is 3 at every entry

pub other_rule : (w : List ℕ) → NEWER < rule_of w → UnsoundAt w
other_rule w h = unsound_at w (λ S. omega (arith, S.arranged.rule))

-- and 0 or 1 there says which
rule_word : (w : List ℕ) → Sound w → rule_of w ≡ cond (meaning w).settings.newer NEWER 0
unfolding meaning
rule_word w S = go (rule_of w) S.arranged.rule
  where
    go : (x : ℕ) → x ≤ NEWER → x ≡ cond (eqb x NEWER) NEWER 0
    go zero h = refl
    go (suc zero) h = refl
    go (suc (suc x)) h = absurd (omega arith)

-- 8 or 16 in word 11 is the width, and any other number there is 3 at every entry
width_word : (w : List ℕ) → value_bytes_of w ≡ (meaning w).settings.value_bytes
unfolding meaning
width_word w = refl

pub other_width_law : (w : List ℕ) → value_bytes_of w ≢ VALUE_BYTES → value_bytes_of w ≢ LONG_VALUE_BYTES → UnsoundAt w
other_width_law w a b = unsound_at w (λ S. neither (value_bytes_of w) a b S.arranged.limits.width)

pub sound_ruled : (w : List ℕ) → Sound w → Ruled (meaning w).settings w
sound_ruled w S = record { settings = refl; word = rule_word w S; width = width_word w; widths = S.means.limits.width }

ruled_as : (w : List ℕ) (c : Settings) → Sound w → (meaning w).settings ≡ c → Ruled c w
ruled_as w c S e = subst (λ (x : Settings). Ruled x w) e (sound_ruled w S)

-- ---- "told by a bool": the store that an accepted start makes

pub started_ruled : (c : Settings) (w w' : List ℕ) → StartsWith c w w' 0 → Ruled c w'
unfolding empty_with
started_ruled c w w' S = let e = started_empty c w w' S in ruled_as w' c e.0 (ap (λ (s : Store). s.settings) e.1)

-- ---- "and fixed for its life": at each command of a run, and after the run

ruled_in : (c : Settings) {w t w' bytes : List ℕ} {room stop commands read : ℕ} (d : Course w t room w' stop commands read bytes) → Sound w → (meaning w).settings ≡ c → EachDone (λ v k v' l. Ruled c v × Ruled c v') d
ruled_in c ended S e = tt
ruled_in c (stopped f) S e = tt
ruled_in c (refused w h f m s d) S e = let is = ap (λ (x : Store). x.settings) m.means ∙ e in ((ruled_as w c S e, ruled_as (with_refusal w) c s is), ruled_in c d s is)
ruled_in c (done w w₁ {t = t} {b = b} h n m s d) S e =
    let is = ap (λ (x : Store). x.settings) m.means ∙ accepted_settings (command_on b t (meaning w)) (meaning w) ∙ e in
    ((ruled_as w c S e, ruled_as w₁ c s is), ruled_in c d s is)

-- before each command and after it
pub ruled_in_run : (w w' t o o' : List ℕ) (r : Ran) (R : Runs w w' t o o' r) (S : Sound w) → EachDone (λ v k v' l. Ruled (meaning w).settings v × Ruled (meaning w).settings v') (run_course w w' t o o' r R S)
ruled_in_run w w' t o o' r R S = ruled_in (meaning w).settings (run_course w w' t o o' r R S) S refl

settings_after_run : (w w' t o o' : List ℕ) (r : Ran) → Runs w w' t o o' r → (meaning w').settings ≡ (meaning w).settings
settings_after_run w w' t o o' r R = ap (λ (s : Store). s.settings) R.means ∙ go R.sound
  where
    go : (b : Bool) → (ran_of b t (length o) (meaning w)).store.settings ≡ (meaning w).settings
    go true = run_settings (meaning w) t (length o) R.tape
    go false = refl

pub ruled_after_run : (w w' t o o' : List ℕ) (r : Ran) → Runs w w' t o o' r → Sound w → Ruled (meaning w).settings w'
ruled_after_run w w' t o o' r R S = ruled_as w' (meaning w).settings (run_keeps_sound w w' t o o' r R S) (settings_after_run w w' t o o' r R)

-- from a start, after any runs: what that start was told
settings_reached : {w : List ℕ} (d : Reached w) → (meaning w).settings ≡ settings_in d
settings_reached (started {c} {w} {w'} S) = (started_ruled c w w' S).settings
settings_reached (ran {w} {w'} {t} {o} {o'} {r} d R) = settings_after_run w w' t o o' r R ∙ settings_reached d

pub ruled_reached : {w : List ℕ} (d : Reached w) → Ruled (settings_in d) w
ruled_reached {w} d = ruled_as w (settings_in d) (reached_sound d) (settings_reached d)

-- ---- a store under the newer rule: RANGE's ten bytes, of the hand h and the bar b

module _ (s : Store) (newer : s.settings.newer ≡ true) (h b bytes : List ℕ) (A : RangeAnswer h b s bytes) where
  -- found exactly where 01 does and the larger group's ring is one kind
  pub newer_found : (found_in bytes ≡ 1) ↔ ShowsNewer h b s.storage.layout
  newer_found = subst (λ (x : Bool). (found_in bytes ≡ 1) ↔ ShowsUnder x h b s.storage.layout) newer A.found

  -- and then exactly the live entities with all of the hand and none of the barred stand there, in each sparse set of the hand
  pub newer_there : found_in bytes ≡ 1 → (k : ℕ) → In h k → (x : Entity) → (1 ≤ cnt x (part (start_in bytes) (end_in bytes) (key s.storage.sets k))) ↔ AllAndNone s.storage.sets s.entities.live h b x
  newer_there f k i x =
      newer_exactly s.storage.sets s.entities.live h b (start_in bytes) (end_in bytes)
      (subst (λ (y : Bool). Showing y s.storage.sets s.entities.live h b (start_in bytes) (end_in bytes)) newer (A.shows f)) k i x

-- so is the one of a row that two columns show side by side, with its values of both kinds (same_entity_law in proofs/Ranging.antt)
pub newer_row : (s : Store) (h b : List ℕ) (j k i : ℕ) (entities values entities' values' : List ℕ) → s.settings.newer ≡ true → (E : OneEntity s h b j k i entities values entities' values')
    → AllAndNone s.storage.sets s.entities.live h b E.entity
newer_row s h b j k i entities values entities' values' newer E =
    (newer_describes h b s.storage.sets s.entities.live E.entity).0
    (subst (λ (y : Bool). 1 ≤ cnt E.entity (described y h b s.storage.sets s.entities.live)) newer E.among)

-- ---- and of every RANGE in every run of such a store

-- what is said of each command by two statements
each_both : {P Q R : List ℕ → Command → List ℕ → List ℕ → Type 0} → ((v : List ℕ) (k : Command) (v' l : List ℕ) → P v k v' l → Q v k v' l → R v k v' l)
    → {w t w' bytes : List ℕ} {room stop commands read : ℕ} (c : Course w t room w' stop commands read bytes) → EachDone P c → EachDone Q c → EachDone R c
each_both f ended p q = tt
each_both f (stopped g) p q = tt
each_both f (refused w {t = t} {bytes = bytes} {b = b} {n = n} h g m s c) p q = (f w (command_on b t (meaning w)) (with_refusal w) (n ∷ bytes) p.0 q.0, each_both f c p.1 q.1)
each_both f (done w w₁ {t = t} {bytes = bytes} {b = b} h n m s c) p q =
    (f w (command_on b t (meaning w)) w₁ (0 ∷ (accepted (command_on b t (meaning w)) (meaning w)).answer ++ bytes) p.0 q.0, each_both f c p.1 q.1)

pub newer_in_run : (w w' t o o' : List ℕ) (r : Ran) (R : Runs w w' t o o' r) (S : Sound w) → (meaning w).settings.newer ≡ true
    → EachAnswer (λ v k l. k ≡ RANGE → NewerTold (meaning v) (take 10 l)) (run_course w w' t o o' r R S)
newer_in_run w w' t o o' r R S newer = each_both told (run_course w w' t o o' r R S) (ruled_in_run w w' t o o' r R S) (ranges_in_run w w' t o o' r R S)
  where
    told : (v : List ℕ) (k : Command) (v' l : List ℕ) → Ruled (meaning w).settings v × Ruled (meaning w).settings v'
        → (k ≡ RANGE → RangeAnswer (staged_kinds (meaning v)) (meaning v).control.excluded (meaning v) (take 10 l)) → k ≡ RANGE → NewerTold (meaning v) (take 10 l)
    told v k v' l p A e =
        let is : (meaning v).settings.newer ≡ true = ap (λ (x : Settings). x.newer) p.0.settings ∙ newer in
        record {
          found = newer_found (meaning v) is (staged_kinds (meaning v)) (meaning v).control.excluded (take 10 l) (A e);
          there = newer_there (meaning v) is (staged_kinds (meaning v)) (meaning v).control.excluded (take 10 l) (A e);
        }
