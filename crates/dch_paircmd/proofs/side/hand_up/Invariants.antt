use Rattle.std.proofs.Common.{◌-◌, length}
use Rattle.dch_am.specs.Rules.{Rules}
use Rattle.dch_reset.specs.Standing.{AreSizes, Represents, waiting_in}
use Rattle.dch_reset.specs.State.{State}
use Rattle.dch_paircmd.proofs.Handing.{Going, handed_so}
use Rattle.dch_paircmd.proofs.side.hand_up.Given as goal

abbrev pub invariant-loop-handed : goal.invariant-loop-handed
invariant-loop-handed g l = record {
  going : Going g.P.Page.writes l.fn.number (waiting_in l.fn.end) l.fn.page (waiting_in l.end) l.page;
  sizes : AreSizes l.fn.end l.end;
  history : (rules : Rules) (e : State) → Represents rules l.fn.end e → Represents rules l.end (handed_so (length e.entity.receiver.reading.units - length (waiting_in l.end)) e);
}

abbrev pub decreases-loop-handed : goal.decreases-loop-handed
decreases-loop-handed g l = length (waiting_in l.end)
