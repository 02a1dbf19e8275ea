-- "told by a bool and fixed for its life": no command changes what a start was told. Assumes nothing.
use mathlib.Core.Path.{◌≡◌, refl, ◌∙◌}
use mathlib.Core.List.{List}
use Prim.Native.Nat.{ℕ, suc}
use Rattle.model.specs.Model.{adds_nothing}
use Rattle.model.specs.Store.{Store, Bytes, is_kind, staged_kinds}
use Rattle.model.specs.Commands.{Command, REG, HOLD, NEW, PUT, TAKE, DROP, KILL, WIPE, GROUP, APPLY, BAR, RANGE, EMPTY, TALLY, TRAY, SETCALLER, Done, accepted, command_on, operands_len}
use Rattle.model.specs.Run.{Outcome, refuses, accepts, does, Step, stops, goes, step_of, step, store_after, run}
use Rattle.model.specs.History.{trail, EachStore}
use Rattle.model.specs.Theorems.{SameSettings}
use Rattle.model.proofs.BoolLaws.{cond_case}
use Rattle.model.proofs.Lines.{accepted_exact}
use Rattle.model.proofs.Lengths.{step_case}
use Rattle.model.proofs.Sound.{After, each_keeps, all_keeps}

pub accepted_settings : (c : Command) (s : Store) → SameSettings s (accepted c s).store
unfolding accepted
accepted_settings (REG k) s = cond_case (λ (d : Done). SameSettings s d.store) (is_kind k s) _ _ (λ t. refl) (λ t. refl)
accepted_settings (HOLD k v) s = refl
accepted_settings NEW s = refl
accepted_settings (PUT e) s = refl
accepted_settings (TAKE e) s = refl
accepted_settings (DROP e) s = refl
accepted_settings (KILL e) s = refl
accepted_settings WIPE s = refl
accepted_settings GROUP s = cond_case (λ (d : Done). SameSettings s d.store) (adds_nothing (staged_kinds s) s.control.draft) _ _ (λ t. refl) (λ t. refl)
accepted_settings APPLY s = refl
accepted_settings (BAR k) s = refl
accepted_settings RANGE s = refl
accepted_settings EMPTY s = refl
accepted_settings TALLY s = refl
accepted_settings (TRAY n) s = refl
accepted_settings (SETCALLER c) s = refl

-- nor does a refused one
pub command_settings : (c : Command) (s : Store) (x : Outcome) → does c s ≡ x → SameSettings s (store_after s x)
command_settings c s (refuses n) e = refl
command_settings c s (accepts s' a) e = rw ((accepted_exact c s s' a).0 e).1 at (accepted_settings c s)

settings_by : (k : ℕ) (c : Command) (s : Store) (x : Outcome) → does c s ≡ x → After (SameSettings s) (step_of k s x)
settings_by k c s (refuses n) e = command_settings c s (refuses n) e
settings_by k c s (accepts s' a) e = command_settings c s (accepts s' a) e

pub step_settings : (b : ℕ) (t : List ℕ) (room : ℕ) (s : Store) → After (SameSettings s) (step b t room s)
step_settings b t room s =
    step_case (After (SameSettings s)) b t room s (λ n. tt)
    (λ h. settings_by (suc (operands_len b s)) (command_on b t s) s (does (command_on b t s) s) refl)

-- ---- runs

module _ (s : Store) where
  still : (b : ℕ) (t : List ℕ) (room : ℕ) (s₁ : Store) → Bytes t → SameSettings s s₁ → After (SameSettings s) (step b t room s₁)
  still b t room s₁ h e = go (step b t room s₁) (step_settings b t room s₁)
    where
      go : (p : Step) → After (SameSettings s₁) p → After (SameSettings s) p
      go (stops n) k = tt
      go (goes w a s₂) k = k ∙ e

  -- after each command of every run
  pub trail_settings : (t : List ℕ) (room : ℕ) → Bytes t → EachStore (SameSettings s) (trail t room s)
  trail_settings t room h = each_keeps (SameSettings s) still t room s h refl

  pub run_settings : (t : List ℕ) (room : ℕ) → Bytes t → SameSettings s (run t room s).store
  run_settings t room h = all_keeps (SameSettings s) still t room s h refl
