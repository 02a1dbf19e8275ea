-- "A roll's bytes don't tell its width": the two stores of specs/Wide.antt, of width 8 and of width 16, write the same 175 bytes and are not the same.
-- Assumes nothing.
use Rattle.std.specs.Prelude.{◌≡◌, refl, ℕ, length}
use Rattle.std.proofs.Common.{ap, sym, ◌∙◌, arith}
use Rattle.std.proofs.Math.Option.{Option, some, none}
use Rattle.model.specs.Lists.{count_of}
use Rattle.model.specs.Model.{same_entity, entity, set_of}
use Rattle.model.specs.Snapshot.{snapshot, Same, value_at}
use Rattle.model.specs.Wide.{store_of_eight, store_of_sixteen, snapshot_of_both}

pub snapshot_of_eight : snapshot store_of_eight ≡ snapshot_of_both
unfolding snapshot store_of_eight snapshot_of_both
snapshot_of_eight = refl

pub snapshot_of_sixteen : snapshot store_of_sixteen ≡ snapshot_of_both
unfolding snapshot store_of_sixteen snapshot_of_both
snapshot_of_sixteen = refl

pub snapshot_of_175 : length snapshot_of_both ≡ 175
unfolding snapshot_of_both
snapshot_of_175 = refl

pub same_snapshot : snapshot store_of_eight ≡ snapshot store_of_sixteen
same_snapshot = snapshot_of_eight ∙ sym snapshot_of_sixteen

-- and they are not the same: entity 0 holds another value of kind 0
live_of_eight : count_of same_entity (entity 0 1) store_of_eight.entities.live ≡ 1
unfolding store_of_eight
live_of_eight = refl

value_of_eight : value_at (entity 0 1) (set_of store_of_eight.storage.sets 0) ≡ some 0
unfolding store_of_eight
value_of_eight = refl

value_of_sixteen : value_at (entity 0 1) (set_of store_of_sixteen.storage.sets 0) ≡ some 79228162532711081667253501952
unfolding store_of_sixteen
value_of_sixteen = refl

number_in : Option ℕ → ℕ
number_in none = 0
number_in (some x) = x

pub not_same : Same store_of_eight store_of_sixteen → ⊥
unfolding number_in
not_same h =
    let e : ◌≡◌ {A = Option ℕ} (some 0) (some 79228162532711081667253501952) = sym value_of_eight ∙ h.values (entity 0 1) (omega (arith, live_of_eight)) 0 ∙ value_of_sixteen in
    let z : ◌≡◌ {A = ℕ} 0 79228162532711081667253501952 = ap number_in e in
    omega (arith, z)
