use Rattle.std.proofs.Common.{◌∙◌}
use Rattle.dch_amsend.proofs.Due.{can_build_gives}
use Rattle.dch_amsend.proofs.outgoing.Outgoing.is_due.Goals as goal

pub returns-clause-history : goal.returns-clause-history
returns-clause-history c = λ rules d s is. c.can_build.ensures ∙ can_build_gives rules d c.args.self.now s is
