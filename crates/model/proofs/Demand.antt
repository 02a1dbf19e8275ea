-- Demand 3's statement of the groups, after each command of every tape from an empty store. Assumes nothing.
use mathlib.Core.Path.{◌≡◌, refl, ap}
use mathlib.Core.List.{List, [], ◌∷◌, ◌++◌}
use Prim.Native.Nat.{ℕ, zero, suc, ◌+◌, ◌-◌, ◌≤◌}
use native.Mathlib.Omega.{arith}
use lib.ListN.{length, take, drop, take-append-drop}
use lib.Seq.{take-take}
use Rattle.model.proofs.ListLaws.{count_append}
use Rattle.model.specs.Model.{Entity, SparseSet, Family, same_entity}
use Rattle.model.specs.Store.{Settings, Store, empty_with, Bytes}
use Rattle.model.specs.Run.{Step, stops, goes, step, Ran, halt, more, run_for, run}
use Rattle.model.specs.History.{trail_for, trail, EachStore}
use Rattle.model.specs.Sound.{cnt, In, key, holders, Limits, Right, RightFrom, AllRight, Between, BetweenFrom, AllBetween, GroupsRight, GroupsBetween, StoreSound}
use Rattle.model.proofs.KindLists.{in_left}
use Rattle.model.proofs.Held.{holders_fewer}
use Rattle.model.proofs.Sound.{trail_sound}
use Rattle.model.specs.Theorems.{Passes}

-- ---- the trail is what the run passes through: a store for each command, the last one the run's

passes_for : (fuel : ℕ) (t : List ℕ) (room : ℕ) (s : Store) → Passes s (run_for fuel t room s) (trail_for fuel t room s)
unfolding run_for trail_for
passes_for zero t room s = record { commands = refl; last = refl }
passes_for (suc fuel) [] room s = record { commands = refl; last = refl }
passes_for (suc fuel) (b ∷ t) room s = go (step b t room s) (λ w r s'. passes_for fuel (drop w (b ∷ t)) r s')
  where
    go : (p : Step) → ((w r : ℕ) (s' : Store) → Passes s' (run_for fuel (drop w (b ∷ t)) r s') (trail_for fuel (drop w (b ∷ t)) r s')) → Passes s (elim p as (λ p. Ran) [ stops n ↦ halt n s | goes w a s' ↦ more w a (run_for fuel (drop w (b ∷ t)) (room - length a) s') ]) (elim p as (λ p. List Store) [ stops n ↦ [] | goes w a s' ↦ s' ∷ trail_for fuel (drop w (b ∷ t)) (room - length a) s' ])
    go (stops n) rec = record { commands = refl; last = refl }
    go (goes w a s') rec = let P = rec w (room - length a) s' in record { commands = ap suc P.commands; last = P.last }

pub trail_passes : (t : List ℕ) (room : ℕ) (s : Store) → Passes s (run t room s) (trail t room s)
unfolding run trail
trail_passes t room s = passes_for (length t) t room s

-- ---- the groups after each command

each_right : (ss : List Store) → EachStore StoreSound ss → EachStore GroupsRight ss
each_right [] h = tt
each_right (s ∷ ss) h = (h.0.groups, each_right ss h.1)

-- after each command of every tape from an empty store, each group's count is the number of live entities holding all its kinds, and the first that
-- many places of each of its sparse sets hold exactly those, once each, the same at the same place
pub after_each_command : (t : List ℕ) (room : ℕ) (c : Settings) → Bytes t → Limits c.capacity c.kind_capacity c.value_bytes → EachStore GroupsRight (trail t room (empty_with c))
after_each_command t room c h l = each_right (trail t room (empty_with c)) (trail_sound t room c h l)

-- ---- between a group and the next larger one

-- stand exactly the entities with all kinds of the smaller that lack one or more of the larger
between_at : (sets : List SparseSet) (live : List Entity) (g h : List ℕ) (c d k : ℕ) → In g k → In h k → d ≤ c → Right sets live g c → Right sets live h d → (x : Entity) → cnt x (drop d (take c (key sets k))) + cnt x (holders h sets live) ≡ cnt x (holders g sets live)
between_at sets live g h c d k i j le R S x =
    let a = count_append same_entity x (take d (take c (key sets k))) (drop d (take c (key sets k))) in
    let b = ap (cnt x) (take-append-drop d (take c (key sets k))) in
    let t = ap (cnt x) (take-take d c (key sets k) le) in
    omega (arith, R.exact k i x, S.exact k j x)

module _ (sets : List SparseSet) (live : List Entity) where
  pub between : (g more : List ℕ) (c d : ℕ) → Right sets live g c → Right sets live (g ++ more) d → Between sets live g more c d
  between g more c d R S =
      let le : d ≤ c = omega (arith, R.number, S.number, holders_fewer g more sets live) in
      record { falls = le; exact = λ k i x. between_at sets live g (g ++ more) c d k i (in_left g more k i) le R S x }

  between_from : (acc : List ℕ) (rs : Family) → RightFrom sets live acc rs → BetweenFrom sets live acc rs
  between_from acc [] R = tt
  between_from acc (r ∷ []) R = tt
  between_from acc (r ∷ q ∷ rs) R = (between (acc ++ r.new_kinds) q.new_kinds r.count q.count R.0 R.1.0, between_from (acc ++ r.new_kinds) (q ∷ rs) R.1)

  pub all_between : (fs : List Family) → AllRight sets live fs → AllBetween sets live fs
  all_between [] R = tt
  all_between (f ∷ fs) R = (between_from [] f R.0, all_between fs R.1)

each_between : (ss : List Store) → EachStore GroupsRight ss → EachStore GroupsBetween ss
each_between [] h = tt
each_between (s ∷ ss) h = (all_between s.storage.sets s.entities.live s.storage.layout h.0, each_between ss h.1)

pub between_after_each_command : (t : List ℕ) (room : ℕ) (c : Settings) → Bytes t → Limits c.capacity c.kind_capacity c.value_bytes → EachStore GroupsBetween (trail t room (empty_with c))
between_after_each_command t room c h l = each_between (trail t room (empty_with c)) (after_each_command t room c h l)
