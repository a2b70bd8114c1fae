use Rattle.std.proofs.Common.{◌≤◌, ◌*◌, arith, subst, sym}
use Rattle.dch_types.specs.Lengths.{coded_block}
use Rattle.dch_coding.specs.declared.block.TheConstants.{BLOCKS, CODED}
use Rattle.dch_coding.proofs.Lengths.{few_coded, few_filled}
use Rattle.dch_coding.proofs.block.plan_of_block.Goals as goal

pub returns-clause-few_blocks : goal.returns-clause-few_blocks
returns-clause-few_blocks c = subst (λ plan. plan.blocks * plan.size ≤ BLOCKS) (sym c.plan.ensures.value) (few_filled c.args.joined c.args.coding (omega arith))

pub returns-clause-few_coded : goal.returns-clause-few_coded
returns-clause-few_coded c = subst (λ plan. plan.blocks * coded_block c.args.coding plan.size ≤ CODED) (sym c.plan.ensures.value) (few_coded c.args.joined c.args.coding (omega arith))
