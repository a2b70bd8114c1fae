use Rattle.std.proofs.Common.{arith}
use Rattle.dch_collision.proofs.Following.{fits_itself}
use Rattle.dch_collision.proofs.fitting.least_after.Goals as goal

pub returns : goal.returns
returns c = record {
  above = omega arith;
  there = c.requires.previous;
  may = fits_itself c.args.side.now c.args.channel c.args.format c.args.frame c.args.previous c.requires.format;
  least = λ other above below. c.loop-combination.invariant other above (omega arith);
}
