use Rattle.std.proofs.Common.{◌≡◌, ◌++◌, ◌-◌, IfOk, length}
use Rattle.dch_am.specs.Entities.{Entity}
use Rattle.dch_am.specs.Rules.{Rules}
use Rattle.dch_pair.specs.EntityStanding.{AreSizes, Represents, waiting_in}
use Rattle.dch_pair.specs.Standing.{whole}
use Rattle.dch_pair.proofs.Peers.{handed_to}
use Rattle.dch_pair.proofs.peer.hand_up.Given as goal

abbrev pub invariant-loop-room : goal.invariant-loop-room
invariant-loop-room l = record {
  size : length l.room ≡ 1500;
  units : IfOk l.stored (λ _. l.units ++ whole (waiting_in l.entity) ≡ l.fn.units ++ whole (waiting_in l.fn.entity));
  sizes : AreSizes l.fn.entity l.entity;
  history : (rules : Rules) (e : Entity) → Represents rules l.fn.entity e → Represents rules l.entity (handed_to (length e.receiver.reading.units - length (waiting_in l.entity)) e);
}

abbrev pub decreases-loop-room : goal.decreases-loop-room
decreases-loop-room l = length (waiting_in l.entity)
