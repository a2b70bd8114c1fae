use Rattle.std.proofs.Common.{◌-◌, length}
use Rattle.dch_am.specs.Entities.{Entity}
use Rattle.dch_am.specs.Rules.{Rules}
use Rattle.dch_pair.specs.EntityStanding.{AreSizes, Represents, waiting_in}
use Rattle.dch_pair.proofs.Peers.{handed_to}
use Rattle.dch_layer2.specs.Handing.{Going}
use Rattle.dch_layer2.proofs.am.hand_up.Given as goal

abbrev pub invariant-loop-handed : goal.invariant-loop-handed
invariant-loop-handed g l = record {
  going : Going g.U.Indications.shows l.fn.dir l.fn.bearer (waiting_in l.fn.entity) l.fn.user (waiting_in l.entity) l.user;
  sizes : AreSizes l.fn.entity l.entity;
  history : (rules : Rules) (e : Entity) → Represents rules l.fn.entity e → Represents rules l.entity (handed_to (length e.receiver.reading.units - length (waiting_in l.entity)) e);
}

abbrev pub decreases-loop-handed : goal.decreases-loop-handed
decreases-loop-handed g l = length (waiting_in l.entity)
