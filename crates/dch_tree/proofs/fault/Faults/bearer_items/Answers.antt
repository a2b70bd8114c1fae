use Rattle.std.proofs.Common.{[], arith}
use Rattle.std.proofs.lemmas.Grind.{common_steps}
use Rattle.std.specs.Prelude.{codes}
use Rattle.dch_tree.specs.Faults.{first_found}
use Rattle.dch_tree.specs.Tables.{items_faults, items_values}
use Rattle.dch_tree.specs.Bearers.{bearer_faults, bearer_of}
use Rattle.dch_tree.proofs.Items.{items_more, values_more}
use Rattle.dch_tree.proofs.fault.Faults.bearer_items.Goals as goal

pub loop-i-preserved : goal.loop-i-preserved
loop-i-preserved c = record {
  first = items_more (bearer_faults c.args.ups c.args.downs) [] (codes "bearer") _ _ _ _ c.loop-i.i c.index-items-i.result c.loop-i-test.true c.index-items-i.is c.in_ok-bearer.ensures.first c.loop-i.invariant.first;
  value = rw c.in_ok-push.ensures.ok (values_more (bearer_of c.args.ups c.args.downs) c.loop-i.bearers _ _ _ c.loop-i.i c.index-items-i.result c.loop-i-test.true c.index-items-i.is c.in_ok-bearer.ensures.value c.loop-i.invariant.value);
}

pub returns-clause-first : goal.returns-clause-first
unfolding first_found items_faults
returns-clause-first c = grind (arith, common_steps)

pub returns-clause-value : goal.returns-clause-value
unfolding items_values
returns-clause-value c = grind (arith, common_steps)
