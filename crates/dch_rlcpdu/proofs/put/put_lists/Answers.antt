use Rattle.std.proofs.Common.{◌+◌, ◌*◌, length, arith}
use Rattle.dch_rlcpdu.proofs.Texts.{Next, next_list, progress_next, progress_start}
use Rattle.dch_rlcpdu.proofs.put.put_lists.Goals as goal

pub loop-rest-init : goal.loop-rest-init
loop-rest-init c = progress_start c.args.out.now c.args.at c.args.pairs.now c.requires.pairs

pub put_list-requires-clause-place : goal.put_list-requires-clause-place
put_list-requires-clause-place c =
    let n : Next (2 * length c.args.out.now) c.loop-rest.end c.loop-rest.rest.now c.split_at.result.0.now c.split_at.result.1.now =
    next_list c.args.out.now c.loop-rest.out c.args.at c.loop-rest.end (2 * length c.args.out.now) c.min.result c.args.pairs.now c.loop-rest.rest.now c.split_at.result.0.now c.split_at.result.1.now
    c.loop-rest.invariant c.requires.place (omega arith) (omega (arith, c.min.ensures)) c.split_at.ensures.front c.split_at.ensures.back in
    omega (arith, n.room)

pub overflow_add-end-in-loop-rest : goal.overflow_add-end-in-loop-rest
overflow_add-end-in-loop-rest c =
    let n : Next (2 * length c.args.out.now) c.loop-rest.end c.loop-rest.rest.now c.split_at.result.0.now c.split_at.result.1.now =
    next_list c.args.out.now c.loop-rest.out c.args.at c.loop-rest.end (2 * length c.args.out.now) c.min.result c.args.pairs.now c.loop-rest.rest.now c.split_at.result.0.now c.split_at.result.1.now
    c.loop-rest.invariant c.requires.place (omega arith) (omega (arith, c.min.ensures)) c.split_at.ensures.front c.split_at.ensures.back in
    omega (arith, n.room)

pub loop-rest-preserved : goal.loop-rest-preserved
loop-rest-preserved c =
    let n : Next (2 * length c.args.out.now) c.loop-rest.end c.loop-rest.rest.now c.split_at.result.0.now c.split_at.result.1.now =
    next_list c.args.out.now c.loop-rest.out c.args.at c.loop-rest.end (2 * length c.args.out.now) c.min.result c.args.pairs.now c.loop-rest.rest.now c.split_at.result.0.now c.split_at.result.1.now
    c.loop-rest.invariant c.requires.place (omega arith) (omega (arith, c.min.ensures)) c.split_at.ensures.front c.split_at.ensures.back in
    progress_next c.args.out.now c.loop-rest.out c.put_list.new.out c.args.at c.loop-rest.end (c.loop-rest.end + (2 + 4 * length c.split_at.result.0.now)) (2 * length c.args.out.now)
    c.args.pairs.now c.loop-rest.rest.now c.split_at.result.0.now c.split_at.result.1.now c.loop-rest.invariant (omega arith) n (omega arith) c.put_list.ensures
