use Rattle.std.proofs.Common.{subst}
use Rattle.dch_config.specs.Good.{IsGood}
use Rattle.dch_node.specs.Standing.{Tells}
use Rattle.dch_ue.specs.Standing.{event_of}
use Rattle.dch_ue.proofs.Going.{went_on}
use Rattle.dch_ue.proofs.Stepping.{limited_few}
use Rattle.dch_ue.proofs.node.Ue.step_with.Goals as goal

pub returns-clause-history : goal.returns-clause-history
returns-clause-history g c = λ began before first events lines active was.
    went_on began before c.args.accepted.now c.args.self.now c.happen.new.self (event_of c.args.accepted.now c.args.event) (Tells g.U.Indications.shows c.args.user.now c.happen.new.user) first events lines was
    (λ state stands. c.happen.ensures.step before state active stands)

pub returns-clause-few : goal.returns-clause-few
returns-clause-few g c =
    let limited = c.happen.ensures.limited in
    record { lines = limited.lines; told = limited.told; few = limited_few c.args.accepted.now.config limited.lines (subst IsGood c.config-config.ensures.value c.config-config.ensures.good) limited.such }
