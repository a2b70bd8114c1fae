use Rattle.std.proofs.Common.{◌∙◌, ap}
use Rattle.dch_rlcum.specs.Sending.{Sending, builds}
use Rattle.dch_rlcum.proofs.Available.{available_is}
use Rattle.dch_rlcum.proofs.Following.{some_follow}
use Rattle.dch_rlcum.proofs.send.UmSend.available.Goals as goal

pub returns-clause-some : goal.returns-clause-some
returns-clause-some c = some_follow c.args.self.now c.count_pdus.result (c.count_pdus.ensures ∙ ap (λ (s : Sending). builds 64 s.pdu s.mark_start s.units) c.self.view_is)

pub returns-clause-history : goal.returns-clause-history
returns-clause-history c = available_is c.args.self.now c.count_pdus.result (c.count_pdus.ensures ∙ ap (λ (s : Sending). builds 64 s.pdu s.mark_start s.units) c.self.view_is)
