use Rattle.std.proofs.Common.{arith}
use Rattle.dch_node.specs.Standing.{Tells}
use Rattle.dch_steptext.proofs.Texts.{limited_lines}
use Rattle.dch_nodeb.specs.Standing.{event_of}
use Rattle.dch_nodeb.proofs.Going.{went_on}
use Rattle.dch_nodeb.proofs.node.NodeB.step_with.Goals as goal

pub returns-clause-history : goal.returns-clause-history
returns-clause-history g c = λ began before first events lines active was.
    went_on began before c.args.accepted.now c.args.self.now c.happen.new.self (event_of c.args.accepted.now c.args.event) (Tells g.U.Indications.shows c.args.user.now c.happen.new.user) first events lines was
    (λ state stands. c.happen.ensures.step before state active stands)

-- eight lines that are limited leave room
pub returns-clause-few : goal.returns-clause-few
returns-clause-few g c =
    let limited = c.happen.ensures.limited in
    record { lines = limited.lines; told = limited.told; few = omega (arith, limited_lines 8 limited.lines limited.such) }
