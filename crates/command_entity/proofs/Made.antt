-- What the commands over the world leave, beside what the world's functions do. Assumes nothing.
use mathlib.Core.Path.{◌≡◌, subst}
use mathlib.Core.Bool.{false}
use mathlib.Core.List.{List, [], ◌∷◌, ◌++◌}
use Prim.Native.Nat.{ℕ, ◌≤◌, ◌<◌}
use borrow.Author.Tests.{lt-ltb, le-ltb}
use Rattle.model.specs.Model.{Entity, clear_all, create, entity, is_full, free_numbers}
use Rattle.model.specs.Store.{Store, bytes_of, with_control, empty_staged, on_storage}
use Rattle.model.specs.Commands.{WIPE, APPLY, NEW, TRAY, accepted}
use Rattle.model.specs.Numbers.{FULL}
use Rattle.model.specs.Run.{refuses, accepts, does}
use Rattle.model.proofs.Outcomes.{wipe_does, apply_does, new_created, tray_full, tray_made}
use Rattle.world.specs.World.{created}
use Rattle.world.specs.Insert.{extended}
use Rattle.layout_apply.specs.Steps.{applied}
use Rattle.command.specs.Acted.{Written}

pub wiped : (s : Store) → does WIPE s ≡ accepts (on_storage clear_all s) []
unfolding accepted
wiped s = wipe_does s

pub applies : (s : Store) → does APPLY s ≡ accepts (applied s) []
unfolding accepted
applies s = apply_does s

-- NEW: the created entity's store, with nothing staged, and its number and version told
pub new_made : (s : Store) → is_full s.settings.capacity s.entities ≡ false → does NEW s ≡ accepts (with_control (created s) (empty_staged s.control)) (bytes_of 4 (create s.entities).entity.index ++ bytes_of 4 (create s.entities).entity.version)
unfolding accepted
new_made s h = new_created s h

pub told : {o o' : List ℕ} {at r : ℕ} (i v : ℕ) {e : Entity} → entity i v ≡ e → Written o o' at r (0 ∷ bytes_of 4 i ++ bytes_of 4 v) → Written o o' at r (0 ∷ bytes_of 4 e.index ++ bytes_of 4 e.version)
told {o} {o'} {at} {r} i v q h = subst (λ (x : Entity). Written o o' at r (0 ∷ bytes_of 4 x.index ++ bytes_of 4 x.version)) q h

-- TRAY: f numbers are left
module _ (s : Store) (n f : ℕ) (q : f ≡ free_numbers s.settings.capacity s.entities) where
  pub tray_refused : f < n → does (TRAY n) s ≡ refuses FULL
  tray_refused h = tray_full s n (lt-ltb (free_numbers s.settings.capacity s.entities) n (subst (λ (m : ℕ). m < n) q h))

  -- the extended store, with nothing staged, and the count told
  pub tray_extended : n ≤ f → does (TRAY n) s ≡ accepts (with_control (extended n s) (empty_staged s.control)) (bytes_of 2 n)
  unfolding accepted
  tray_extended h = tray_made s n (le-ltb (free_numbers s.settings.capacity s.entities) n (subst (λ (m : ℕ). n ≤ m) q h))
