use Rattle.dch_gen.specs.Combinations.{gen_combinations}
use Rattle.dch_gen.proofs.Counting.{one_more}
use Rattle.dch_gen.proofs.combinations.gen_combinations.Goals as goal

pub loop-c-init : goal.loop-c-init
unfolding gen_combinations
loop-c-init c = c.new-combinations.ensures

pub loop-c-preserved : goal.loop-c-preserved
loop-c-preserved c = one_more c.loop-c.combinations c.push.new.self c.in_ok-combination.field-0 c.loop-c.c c.loop-c.invariant c.in_ok-combination.ensures c.in_ok-push.ensures.ok
