use Rattle.std.proofs.Common.{◌≡◌}
use Rattle.dch_gen.specs.Combinations.{gen_combinations}
use Rattle.dch_gen.proofs.combinations.gen_combinations.Given as goal

abbrev pub invariant-loop-c : goal.invariant-loop-c
invariant-loop-c l = l.combinations ≡ gen_combinations l.c
