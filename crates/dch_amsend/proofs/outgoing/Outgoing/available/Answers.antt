use Rattle.std.proofs.Common.{◌∙◌}
use Rattle.dch_amsend.proofs.Events.{available_is}
use Rattle.dch_amsend.proofs.outgoing.Outgoing.available.Goals as goal

pub returns-clause-history : goal.returns-clause-history
returns-clause-history c = λ rules d s is. c.count.ensures.value ∙ available_is rules d c.args.self.now s is
