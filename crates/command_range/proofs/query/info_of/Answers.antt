use mathlib.Core.Path.{subst}
use Prim.Native.Nat.{ℕ}
use Rattle.words.specs.declared.Found.{Found}
use Rattle.kinds.specs.Kinds.{OwnGroup}
use Rattle.kinds.proofs.Owned.{Owned, own_group, no_group}
use Rattle.group_info.specs.Info.{KindInfo}
use Rattle.command_range.proofs.Views.{ungrouped, real, small, grouped}
use Rattle.command_range.proofs.query.info_of.Goals as goal

pub returns-in_default : goal.returns-in_default
returns-in_default c =
    let w = c.args.words.now in
    ungrouped w c.requires.arranged c.args.kind (no_group w c.requires.arranged c.args.kind (subst (λ (r : Found). OwnGroup w c.args.kind r) c.in_default.is c.own_group-found.ensures))

pub metadata-metadata-requires-clause-g_bound : goal.metadata-metadata-requires-clause-g_bound
metadata-metadata-requires-clause-g_bound c =
    let owned : Owned c.args.words.now c.args.kind c.in-At.place = (
    let w = c.args.words.now in
    own_group w c.requires.arranged c.args.kind c.in-At.place c.requires.kind_known (subst (λ (r : Found). OwnGroup w c.args.kind r) c.in-At.is c.own_group-found.ensures)) in
    real c.args.words.now c.requires.arranged c.args.kind c.in-At.place owned

pub of_kind-requires : goal.of_kind-requires
of_kind-requires c =
    let owned : Owned c.args.words.now c.args.kind c.in-At.place = (
    let w = c.args.words.now in
    own_group w c.requires.arranged c.args.kind c.in-At.place c.requires.kind_known (subst (λ (r : Found). OwnGroup w c.args.kind r) c.in-At.is c.own_group-found.ensures)) in
    let l = small c.args.words.now c.requires.arranged c.args.kind c.in-At.place owned in
    (l.0, rw c.place_in_family-storage_place.ensures l.1)

pub returns : goal.returns
returns c =
    let owned : Owned c.args.words.now c.args.kind c.in-At.place = (
    let w = c.args.words.now in
    own_group w c.requires.arranged c.args.kind c.in-At.place c.requires.kind_known (subst (λ (r : Found). OwnGroup w c.args.kind r) c.in-At.is c.own_group-found.ensures)) in
    let w = c.args.words.now in
    let g = c.in-At.place in
    let d = c.metadata-metadata in
    grouped w c.requires.arranged c.args.kind g owned d.result.first c.of_kind.result d.ensures.first
    (subst (λ (p : ℕ). KindInfo d.result.first g p c.of_kind.result) c.place_in_family-storage_place.ensures c.of_kind.ensures)
