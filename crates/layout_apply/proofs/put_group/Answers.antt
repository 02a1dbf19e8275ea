use native.Mathlib.Omega.{arith}
use Rattle.layout_apply.proofs.HeadLoops.{group_few, group_none, next_kind, group_more, group_done}
use Rattle.layout_apply.proofs.put_group.Goals as goal

pub overflow_add-g : goal.overflow_add-g
overflow_add-g c =
    omega (arith, group_few c.args.words.now c.requires.heads_ready c.args.f c.args.g c.requires.in_family)

pub word-arity-requires : goal.word-arity-requires
word-arity-requires c =
    omega (arith, c.requires.heads_ready.long, group_few c.args.words.now c.requires.heads_ready c.args.f c.args.g c.requires.in_family)

pub loop-j-init : goal.loop-j-init
loop-j-init c =
    let a = c.args in
    group_none a.words.now a.z a.f a.g a.prior c.start_of-start.result c.word-arity.result c.requires.heads_ready c.requires.shape_is c.requires.in_family c.requires.prior_is c.requires.upto c.start_of-start.ensures c.word-arity.ensures.is

pub put_member-requires : goal.put_member-requires
put_member-requires c =
    let l = c.loop-j in
    let k = next_kind _ _ _ _ _ _ l.words l.j l.invariant c.loop-j-test.true in
    record { heads_ready = k.ready; shape_is = k.shape; kind_inside = k.place; group_inside = (k.group, k.local) }

pub loop-j-preserved : goal.loop-j-preserved
loop-j-preserved c = let l = c.loop-j in group_more _ _ _ _ _ _ l.words l.j l.invariant c.loop-j-test.true c.put_member.new.words c.put_member.ensures

pub returns : goal.returns
returns c = let l = c.loop-j in group_done _ _ _ _ _ _ l.words l.j l.invariant c.loop-j-test.false
