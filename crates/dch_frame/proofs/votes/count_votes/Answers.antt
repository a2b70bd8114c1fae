use Rattle.std.proofs.Common.{arith, ◌∙◌}
use Rattle.dch_frame.proofs.Counts.{counted_all, votes_of-few, votes_of-shown}
use Rattle.dch_frame.proofs.votes.count_votes.Goals as goal

pub returns-clause-votes : goal.returns-clause-votes
returns-clause-votes c m v inside = counted_all c.args.pattern.now c.args.cells.now c.count.new.out _ m v c.count.ensures inside

pub returns-clause-few : goal.returns-clause-few
returns-clause-few c m v inside = rw (counted_all c.args.pattern.now c.args.cells.now c.count.new.out _ m v c.count.ensures inside) (votes_of-few c.args.pattern.now c.args.cells.now m)

pub returns-clause-undamaged : goal.returns-clause-undamaged
returns-clause-undamaged c bits shown m v inside =
    counted_all c.args.pattern.now c.args.cells.now c.count.new.out _ m v c.count.ensures inside
    ∙ votes_of-shown c.args.pattern.now c.args.cells.now bits m c.requires.cells shown (omega (arith, c.requires.room, c.count.auto.out))
