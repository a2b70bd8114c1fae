use Rattle.std.proofs.Common.{◌≡◌}
use Rattle.std.proofs.lemmas.Result.{IfOk-weaker}
use Rattle.dch_am.specs.Rules.{Rules}
use Rattle.dch_am.specs.Sender.{opened_sender}
use Rattle.dch_amsend.specs.SduDiscard.{SduDiscard, no_sdu_held}
use Rattle.dch_amsend.specs.DiscardStanding.{DiscardStands}
use Rattle.dch_amsend.proofs.Discards.{opened_stands}
use Rattle.dch_amsend.proofs.discard.SduDiscard.open.Goals as goal

pub returns-clause-history : goal.returns-clause-history
returns-clause-history c = IfOk-weaker c.empty.result (λ (h : SduDiscard). h ≡ no_sdu_held c.args.most) (λ (h : SduDiscard). (rules : Rules) → DiscardStands rules h opened_sender) (λ h e rules. opened_stands rules h c.args.most e) c.empty.ensures.empty
