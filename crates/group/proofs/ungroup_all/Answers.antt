use mathlib.Core.Path.{◌≡◌, ap, sym, ◌∙◌, subst}
use mathlib.Core.List.{List, reverse}
use Prim.Native.Nat.{ℕ, ◌-◌}
use native.Mathlib.Omega.{arith}
use Rattle.model.specs.Model.{groups_of, entity}
use Rattle.model.specs.Store.{on_storage}
use Rattle.masks.specs.Masks.{bits_of, up_from}
use Rattle.masks.proofs.Lists.{up_parts}
use Rattle.memory.specs.Meaning.{meaning}
use Rattle.memory.specs.Arranged.{Becomes}
use Rattle.group.specs.Flat.{walk_down}
use Rattle.group.specs.Ready.{ReadyDown}
use Rattle.group.specs.Steps.{Below}
use Rattle.group.proofs.InWords.{groups_few}
use Rattle.group.proofs.ungroup_all.Goals as goal

pub from_to-mask-requires : goal.from_to-mask-requires
from_to-mask-requires c =
    record { rising = omega arith; inside = omega (arith, c.group_count-n.ensures, groups_few c.args.words.now c.requires.arranged) }

pub ungroup-requires : goal.ungroup-requires
ungroup-requires c =
    let all : up_from 0 (groups_of (meaning c.args.words.now).storage.layout) ≡ bits_of 64 c.from_to-mask.result.0 = (
    let q : c.group_count-n.result - 0 ≡ groups_of (meaning c.args.words.now).storage.layout = omega (arith, c.group_count-n.ensures) in
    sym (c.from_to-mask.ensures ∙ ap (up_from 0) q)) in
    let w = c.args.words.now in
    let e = entity c.args.e.index c.args.e.version in
    let n = groups_of (meaning w).storage.layout in record { arranged = c.requires.arranged; shape_is = c.requires.shape_is; below = subst (λ (ps : List ℕ). Below ps (meaning w).storage) all (λ i h. omega (arith, (up_parts 0 n i h).1)); ready_down = subst (λ (ps : List ℕ). ReadyDown e (reverse ps) (meaning w).storage) all c.requires.ready_down }

pub returns : goal.returns
returns c =
    let all : up_from 0 (groups_of (meaning c.args.words.now).storage.layout) ≡ bits_of 64 c.from_to-mask.result.0 = (
    let q : c.group_count-n.result - 0 ≡ groups_of (meaning c.args.words.now).storage.layout = omega (arith, c.group_count-n.ensures) in
    sym (c.from_to-mask.ensures ∙ ap (up_from 0) q)) in
    let w = c.args.words.now in
    let e = entity c.args.e.index c.args.e.version in
    subst (λ (ps : List ℕ). Becomes w c.ungroup.new.words (on_storage (walk_down e (reverse ps)) (meaning w))) (sym all) c.ungroup.ensures
