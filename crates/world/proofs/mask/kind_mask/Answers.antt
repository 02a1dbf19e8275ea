use mathlib.Core.Path.{ap, sym, ◌∙◌, subst}
use Prim.Native.Nat.{ℕ, ◌-◌, ◌≤◌, ◌<◌}
use Rattle.masks.specs.Masks.{up_from}
use Rattle.words.specs.declared.Found.{Found}
use Rattle.kinds.specs.Kinds.{OwnGroup}
use Rattle.kinds.proofs.Owned.{Owned, own_group}
use Rattle.world.proofs.Owning.{own_below, mask_some, mask_is, mask_nothing}
use Rattle.world.proofs.mask.kind_mask.Goals as goal

pub returns-in_default : goal.returns-in_default
returns-in_default c =
    let a = c.args in
    c.empty.ensures
    ∙ sym (mask_nothing a.words.now c.requires.arranged a.kind (subst (λ (r : Found). OwnGroup a.words.now a.kind r) c.in_default.is c.own_group-found.ensures) a.walk)

pub metadata-metadata-requires-clause-g_bound : goal.metadata-metadata-requires-clause-g_bound
metadata-metadata-requires-clause-g_bound c =
    let owned : Owned c.args.words.now c.args.kind c.in-At.place = (
    let a = c.args in
    own_group a.words.now c.requires.arranged a.kind c.in-At.place c.requires.kind_known (subst (λ (r : Found). OwnGroup a.words.now a.kind r) c.in-At.is c.own_group-found.ensures)) in
    own_below c.args.words.now c.requires.arranged c.args.kind c.in-At.place owned

pub some_from_to-requires : goal.some_from_to-requires
some_from_to-requires c =
    let owned : Owned c.args.words.now c.args.kind c.in-At.place = (
    let a = c.args in
    own_group a.words.now c.requires.arranged a.kind c.in-At.place c.requires.kind_known (subst (λ (r : Found). OwnGroup a.words.now a.kind r) c.in-At.is c.own_group-found.ensures)) in
    let a = c.args in
    let d = c.metadata-metadata in
    subst (λ (f : ℕ). (f < d.result.top) × (d.result.top ≤ 64)) (sym c.lowest-from.ensures)
    (mask_some a.words.now c.requires.arranged a.kind c.in-At.place owned d.result d.ensures a.walk)

pub returns : goal.returns
returns c =
    let owned : Owned c.args.words.now c.args.kind c.in-At.place = (
    let a = c.args in
    own_group a.words.now c.requires.arranged a.kind c.in-At.place c.requires.kind_known (subst (λ (r : Found). OwnGroup a.words.now a.kind r) c.in-At.is c.own_group-found.ensures)) in
    let a = c.args in
    let d = c.metadata-metadata in
    mask_is a.words.now c.requires.arranged a.kind c.in-At.place owned d.result d.ensures a.walk c.some_from_to.result.0
    (c.some_from_to.ensures ∙ ap (λ (f : ℕ). up_from f (d.result.top - f)) c.lowest-from.ensures)
