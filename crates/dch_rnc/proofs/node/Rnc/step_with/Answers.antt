use Rattle.std.proofs.Common.{subst}
use Rattle.dch_config.specs.Good.{IsGood}
use Rattle.dch_node.specs.Standing.{Tells}
use Rattle.dch_rnc.specs.Standing.{event_of}
use Rattle.dch_rnc.proofs.Few.{told_few}
use Rattle.dch_rnc.proofs.Going.{went_on}
use Rattle.dch_rnc.proofs.node.Rnc.step_with.Goals as goal

pub returns-clause-history : goal.returns-clause-history
returns-clause-history g c = λ began before first events lines active was.
    went_on began before c.args.accepted.now c.args.self.now c.happen.new.self (event_of c.args.accepted.now c.args.event) (Tells g.U.Indications.shows c.args.user.now c.happen.new.user) first events lines was
    (λ state stands. c.happen.ensures.step before state active stands)

pub returns-clause-few : goal.returns-clause-few
returns-clause-few g c =
    told_few g.U.Indications.shows c.args.accepted.now c.args.event c.args.self.now c.happen.new.self c.args.user.now c.happen.new.user
    (subst IsGood c.config-config.ensures.value c.config-config.ensures.good) c.requires.opened c.requires.event c.happen.ensures.step
