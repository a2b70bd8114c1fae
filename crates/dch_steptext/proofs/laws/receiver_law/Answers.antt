use Rattle.std.proofs.Common.{subst, Result}
use Rattle.dch_rlcpdu.specs.declared.am.AmView.{AmView}
use Rattle.dch_rlcpdu.specs.declared.handed.PduError.{PduError}
use Rattle.dch_amlaw.proofs.Receivers.{IsLightView}
use Rattle.dch_amlaw.proofs.Views.{reading_light}
use Rattle.dch_steptext.proofs.ReceiverBytes.{receiver_most, view_taken}
use Rattle.dch_steptext.proofs.laws.receiver_law.Goals as goal

pub returns-clause-takes : goal.returns-clause-takes
returns-clause-takes g rules r octets view few is bounded = view_taken rules r view (subst (λ (v : Result AmView PduError). IsLightView v) is (reading_light octets few)) bounded

pub returns-clause-most : goal.returns-clause-most
returns-clause-most g window r bounded = receiver_most window r bounded
