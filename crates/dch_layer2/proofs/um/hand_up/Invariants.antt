use Rattle.std.proofs.Common.{◌≡◌, length}
use Rattle.dch_rlcum.specs.Handing.{all_handed}
use Rattle.dch_layer2.specs.Handing.{Going}
use Rattle.dch_layer2.proofs.um.hand_up.Given as goal

abbrev pub invariant-loop-handed : goal.invariant-loop-handed
invariant-loop-handed g l = record {
  going : Going g.U.Indications.shows l.fn.dir l.fn.bearer l.fn.receiver.waiting l.fn.user l.receiver.waiting l.user;
  rest : all_handed l.receiver ≡ all_handed l.fn.receiver;
}

abbrev pub decreases-loop-handed : goal.decreases-loop-handed
decreases-loop-handed g l = length l.receiver.waiting
