use Rattle.std.proofs.Common.{◌-◌, ◌*◌, length}
use Rattle.dch_rlcpdu.proofs.Walks.{Walk}
use Rattle.dch_rlcpdu.proofs.view.count_fields.Given as goal

abbrev pub invariant-loop-at : goal.invariant-loop-at
invariant-loop-at l = Walk l.octets l.at l.fields

abbrev pub decreases-loop-at : goal.decreases-loop-at
decreases-loop-at l = 2 * length l.octets - l.at
