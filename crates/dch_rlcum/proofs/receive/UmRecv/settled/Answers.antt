use Rattle.std.proofs.Common.{◌∙◌, ap, length}
use Rattle.std.specs.Prelude.{◌==◌}
use Rattle.dch_rlcum.proofs.Received.{settled_is}
use Rattle.dch_rlcum.proofs.receive.UmRecv.settled.Goals as goal

pub returns-clause-settled : goal.returns-clause-settled
returns-clause-settled c = c.settled.ensures ∙ ap (λ r. length r.waiting == 0) c.self.view_is

pub returns-clause-history : goal.returns-clause-history
returns-clause-history c = λ pdus handed is. returns-clause-settled c ∙ settled_is pdus handed c.args.self.now is
