use mathlib.Core.Path.{refl, ap, subst}
use Prim.Native.Nat.{ℕ, ◌<◌, ◌≤◌}
use native.Mathlib.Omega.{arith}
use lib.ListN.{length}
use Rattle.model.specs.Model.{entity}
use Rattle.masks.specs.Masks.{bits_of}
use Rattle.group.proofs.Storing.{live_same}
use Rattle.group.proofs.Each.{grouping_start, grouping_ask, grouping_turn, grouping_end}
use Rattle.group.proofs.Kept.{walk_same}
use Rattle.group.proofs.group_each_by.Goals as goal

pub loop-place-init : goal.loop-place-init
loop-place-init g c =
    let a = c.args in
    (grouping_start a.words.now (bits_of 64 a.mask.0) a.start c.requires.arranged c.requires.below c.requires.ready_each, refl)

pub live_at-entity-requires : goal.live_at-entity-requires
live_at-entity-requires g c =
    let l = c.loop-place in
    record { arranged = l.invariant.0.so_far.arranged; place_in_bounds = omega (arith, c.live_len-len.ensures, c.loop-place-test.true, ap length (live_same l.invariant.0.so_far)) }

pub group_by-requires : goal.group_by-requires
group_by-requires g c =
    let a = c.args in
    let l = c.loop-place in
    let e = c.live_at-entity.result in
    let h = subst (λ (m : ℕ). l.place < m) c.live_len-len.ensures c.loop-place-test.true in
    let valid = g.met.L.Lookups.kept a.lookups a.words.now l.words c.requires.arranged l.invariant.0.so_far l.invariant.1 c.requires.lookups in
    record {
      arranged = l.invariant.0.so_far.arranged;
      lookups = valid;
      below = l.invariant.0.below;
      ready_up = grouping_ask a.words.now (bits_of 64 a.mask.0) a.start l.words l.place l.invariant.0 (entity e.index e.version) h c.live_at-entity.ensures;
      covered = g.met.L.Lookups.covers_live a.lookups l.words l.place e.index e.version l.invariant.0.so_far.arranged valid (omega (arith, h, ap length (live_same l.invariant.0.so_far))) c.live_at-entity.ensures;
    }

pub loop-place-preserved : goal.loop-place-preserved
loop-place-preserved g c =
    let a = c.args in
    let l = c.loop-place in
    let e = c.live_at-entity.result in
    let h = subst (λ (m : ℕ). l.place < m) c.live_len-len.ensures c.loop-place-test.true in
    let G = c.group_by in
    (grouping_turn a.words.now (bits_of 64 a.mask.0) a.start l.words l.place l.invariant.0 (entity e.index e.version) h c.live_at-entity.ensures G.new.words G.ensures, walk_same a.words.now l.words G.new.words l.invariant.1 (entity e.index e.version) (bits_of 64 a.mask.0) G.ensures)

pub shape_of-words : goal.shape_of-words
shape_of-words g c = c.loop-place.invariant.0.so_far.size

pub returns : goal.returns
returns g c =
    let a = c.args in
    let l = c.loop-place in
    grouping_end a.words.now (bits_of 64 a.mask.0) a.start l.words l.place l.invariant.0 (subst (λ (m : ℕ). m ≤ l.place) c.live_len-len.ensures c.loop-place-test.false)
