use Rattle.std.proofs.Common.{subst, Result}
use Rattle.dch_rlcpdu.specs.declared.am.AmView.{AmView}
use Rattle.dch_rlcpdu.specs.declared.handed.PduError.{PduError}
use Rattle.dch_amlaw.proofs.Receivers.{IsLightView, receiver_opened, view_bounded}
use Rattle.dch_amlaw.proofs.Views.{reading_light}
use Rattle.dch_amlaw.proofs.bound_laws.bounded_law.Goals as goal

pub returns-clause-opened : goal.returns-clause-opened
returns-clause-opened g rules = receiver_opened rules

pub returns-clause-stays : goal.returns-clause-stays
returns-clause-stays g rules r octets view few is bounded = view_bounded rules r view (subst (λ (v : Result AmView PduError). IsLightView v) is (reading_light octets few)) bounded
