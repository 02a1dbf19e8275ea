use Rattle.world.proofs.Extending.{each_insertable, each_made, each_below, each_ready, each_extended}
use Rattle.world.proofs.extend.Goals as goal

pub insert_each-requires : goal.insert_each-requires
insert_each-requires c =
    let d = c.create_each in
    each_insertable c.args.words.now c.requires.sound c.args.count c.requires.count_bound d.new.words d.ensures

pub group_each-requires : goal.group_each-requires
group_each-requires c =
    let w = c.args.words.now in
    let n = c.args.count in
    let m = c.staged_mask-mask in
    let l = c.live_len-start in
    let d = c.create_each in
    let i = c.insert_each in
    let made = each_made w c.requires.sound n c.requires.count_bound l.result l.ensures d.new.words d.ensures i.new.words i.ensures in record { arranged = i.ensures.arranged; below = each_below w c.requires.sound n c.requires.count_bound l.result l.ensures m.result.0 m.ensures i.new.words made; ready_each = each_ready w c.requires.sound n c.requires.count_bound l.result l.ensures m.result.0 m.ensures i.new.words made }

pub returns : goal.returns
returns c =
    let w = c.args.words.now in
    let n = c.args.count in
    let m = c.staged_mask-mask in
    let l = c.live_len-start in
    let d = c.create_each in
    let i = c.insert_each in
    let made = each_made w c.requires.sound n c.requires.count_bound l.result l.ensures d.new.words d.ensures i.new.words i.ensures in
    each_extended w c.requires.sound n c.requires.count_bound l.result l.ensures m.result.0 m.ensures i.new.words made c.group_each.new.words c.group_each.ensures
