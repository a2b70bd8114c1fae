use Rattle.std.proofs.Common.{sym, arith}
use Rattle.std.proofs.lemmas.Grind.{common_steps}
use Rattle.dch_frame.proofs.Greatest.{greatest-zero, greatest-more}
use Rattle.dch_frame.proofs.flexible.greatest.Goals as goal

pub loop-c-init : goal.loop-c-init
loop-c-init c = (sym (greatest-zero c.args.side.now), omega arith)

pub loop-c-preserved : goal.loop-c-preserved
loop-c-preserved c = (grind (arith, common_steps, greatest-more c.args.side.now c.loop-c.c), grind (arith, common_steps))
