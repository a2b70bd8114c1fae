use Rattle.std.proofs.Common.{◌+◌, ◌∙◌, [], get_or, ap, sym, arith}
use Rattle.dch_trellis.proofs.Away.{one-total}
use Rattle.dch_trellis.proofs.Room.{total-le-all}
use Rattle.dch_trellis.proofs.distance.away_from.Goals as goal

pub total_of-requires : goal.total_of-requires
total_of-requires c = omega (arith, c.requires.few, total-le-all c.args.rate c.args.votes.now c.step_votes.result c.args.k c.step_votes.ensures c.requires.step)

pub overflow_add-result-2 : goal.overflow_add-result-2
overflow_add-result-2 c = omega (arith, c.requires.few, c.requires.room, c.total_of.ensures, total-le-all c.args.rate c.args.votes.now c.step_votes.result c.args.k c.step_votes.ensures c.requires.step)

pub returns : goal.returns
returns c = ap (λ n. n + get_or (get_or c.args.rows.now (c.args.k + 1) []) 128 0) (c.total_of.ensures ∙ sym (one-total c.args.rate c.args.votes.now c.step_votes.result c.args.k c.requires.zeros c.step_votes.ensures))
