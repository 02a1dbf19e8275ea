use mathlib.Core.Path.{◌≡◌, refl}
use mathlib.Core.List.{List}
use Prim.Native.Nat.{ℕ, ◌≤◌}
use Rattle.layout.specs.Grow.{FillAsk}
use Rattle.layout.specs.declared.group_layout.Layout.{Layout}
use lib.ListN.{length, take}
use lib.Seq.{length-take-le}
use Rattle.layout.specs.ByValue.{arrays_of, ArraysSized}
use Rattle.layout.proofs.Arrays.{end_inside}
use Rattle.layout.proofs.Placing.{kind_inside, group_inside, kind_room, changes, family_other, family_here, width_after, groups_after, well_formed_after}
use Rattle.layout.proofs.Raising.{part_asked, whole_raised}
use native.Mathlib.Omega.{arith}
use borrow.Author.Rules.{rules}
use Rattle.layout.proofs.group_layout.filled.Goals as goal

-- the front that the layout's numbers say is within its arrays
kinds_long : {l : Layout} {f : ℕ} {ks : List ℕ} {at s : ℕ} → FillAsk l f ks at s → ArraysSized (arrays_of l) → l.width ≤ length l.kinds
kinds_long p z = omega (arith, z.kinds, p.width, p.loose.wide)

arities_long : {l : Layout} {f : ℕ} {ks : List ℕ} {at s : ℕ} → FillAsk l f ks at s → ArraysSized (arrays_of l) → l.groups ≤ length l.arities
arities_long p z = omega (arith, z.arities, p.groups, p.loose.many)

pub spread-requires : goal.spread-requires
spread-requires c =
    let z : ArraysSized (arrays_of c.args.l) = search rules in
    let p = c.requires in
    let a = arrays_of c.args.l in
    let f = c.args.f in
    let k = c.start_of-kind_start.ensures in
    let long : length (take c.args.l.width c.args.l.kinds) ≡ c.args.l.width = length-take-le _ _ (kinds_long c.requires z) in (
      omega (arith, k, p.loose.kind_order f p.loose.inside),
      omega (arith, kind_inside a f p.loose z, p.width),
      omega (arith, k, p.width, kind_room a f p.loose z c.args.kinds.now p.kind_set),
    )

pub overflow_add-place : goal.overflow_add-place
overflow_add-place c =
    let z : ArraysSized (arrays_of c.args.l) = search rules in
    omega (arith, c.start_of.ensures, c.requires.place, group_inside (arrays_of c.args.l) c.args.f c.requires.loose z, c.requires.loose.many)

pub spread-requires-2 : goal.spread-requires-2
spread-requires-2 c =
    let z : ArraysSized (arrays_of c.args.l) = search rules in
    let p = c.requires in
    let a = arrays_of c.args.l in
    let f = c.args.f in
    let g = c.start_of.ensures in
    let long : length (take c.args.l.groups c.args.l.arities) ≡ c.args.l.groups = length-take-le _ _ (arities_long c.requires z) in (
      omega arith,
      omega (arith, g, p.place, group_inside a f p.loose z, p.groups),
      omega (arith, g, p.place, group_inside a f p.loose z, p.groups, p.loose.many),
    )

pub raise-requires : goal.raise-requires
raise-requires c =
    let z : ArraysSized (arrays_of c.args.l) = search rules in
    let p = c.requires in
    let a = arrays_of c.args.l in
    let k = c.start_of-kind_start.ensures in
    let room = kind_room a c.args.f p.loose z c.args.kinds.now p.kind_set in
    part_asked a.kind_ends c.args.f a.families _ (omega (arith, p.loose.inside))
    (record {
      within = omega (arith, p.loose.few, z.kind_ends);
      fits = λ i lo hi. omega (arith, end_inside a.kind_ends a.families p.loose.kind_order i hi, p.loose.kind_order c.args.f p.loose.inside, p.more, kind_inside a c.args.f p.loose z);
    })

pub raise-requires-2 : goal.raise-requires-2
raise-requires-2 c =
    let z : ArraysSized (arrays_of c.args.l) = search rules in
    let p = c.requires in
    let a = arrays_of c.args.l in
    part_asked a.ends c.args.f a.families 1 (omega (arith, p.loose.inside))
    (record {
      within = omega (arith, p.loose.few, z.ends);
      fits = λ i lo hi. omega (arith, end_inside a.ends a.families p.loose.order i hi, p.loose.many);
    })

pub returns : goal.returns
returns c =
    let z : ArraysSized (arrays_of c.args.l) = search rules in
    let p = c.requires in
    let l = c.args.l in
    let a = arrays_of l in
    let f = c.args.f in
    let kinds = c.args.kinds.now in
    let k = c.start_of-kind_start.ensures in
    let room = kind_room a f p.loose z kinds p.kind_set in
    let o = p.loose.kind_order f p.loose.inside in
    let few : f ≤ a.families = omega (arith, p.loose.inside) in
    let kinds_raised = whole_raised a.kind_ends _ f a.families _ few (omega (arith, p.loose.few, z.kind_ends)) c.raise.ensures in
    let groups_raised = whole_raised a.ends _ f a.families 1 few (omega (arith, p.loose.few, z.ends)) c.raise-2.ensures in
    let C = changes a f p.loose z kinds c.args.at c.args.arity _ _ _ _ _ _ _ _ k c.start_of.ensures p.more p.place (rw p.width at c.spread.ensures) (rw p.groups at c.spread-2.ensures) kinds_raised groups_raised in
    record {
      formed = record {
        good = well_formed_after a f kinds c.args.at c.args.arity _ C p.least p.most p.rising (omega (arith, room, o, p.more, kind_inside a f p.loose z)) p.kind_set;
        width = let e = width_after a f kinds c.args.at c.args.arity _ C in omega (arith, e, p.width, k);
        groups = let e = groups_after a f kinds c.args.at c.args.arity _ C in omega (arith, e, p.groups);
      };
      families = refl;
      others = family_other a f kinds c.args.at c.args.arity _ C;
      here = family_here a f kinds c.args.at c.args.arity _ C;
    }
