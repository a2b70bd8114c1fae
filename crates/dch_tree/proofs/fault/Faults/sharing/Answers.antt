use Rattle.std.proofs.Common.{refl}
use Rattle.dch_tree.specs.Faults.{first_found}
use Rattle.dch_tree.specs.Tables.{indexed}
use Rattle.dch_tree.specs.Bearers.{sharing_faults}
use Rattle.dch_tree.proofs.Items.{indexed_more}
use Rattle.dch_tree.proofs.fault.Faults.sharing.Goals as goal

pub loop-b-init : goal.loop-b-init
unfolding first_found indexed
loop-b-init c = refl

pub loop-b-preserved : goal.loop-b-preserved
loop-b-preserved c = indexed_more (sharing_faults c.args.bearers.now) c.loop-b.b _ _ _ c.loop-b.invariant c.in_ok-sharing_of.ensures
