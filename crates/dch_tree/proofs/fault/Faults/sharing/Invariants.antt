use Rattle.std.proofs.Common.{◌≡◌}
use Rattle.dch_tree.specs.Faults.{first_found}
use Rattle.dch_tree.specs.Tables.{indexed}
use Rattle.dch_tree.specs.Bearers.{sharing_faults}
use Rattle.dch_tree.proofs.fault.Faults.sharing.Given as goal

abbrev pub invariant-loop-b : goal.invariant-loop-b
invariant-loop-b l = l.self.first ≡ first_found l.fn.self.first (indexed (sharing_faults l.bearers) l.b)
