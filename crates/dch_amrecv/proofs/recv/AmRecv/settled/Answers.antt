use Rattle.std.proofs.Common.{◌∙◌, ap}
use Rattle.dch_amrecv.specs.Holding.{is_settled}
use Rattle.dch_amrecv.proofs.Handing.{settled_is}
use Rattle.dch_amrecv.proofs.recv.AmRecv.settled.Goals as goal

pub returns-clause-history : goal.returns-clause-history
returns-clause-history c = λ given r s. c.settled.ensures ∙ (ap is_settled c.self.view_is ∙ settled_is c.args.self.now given r s)
