use Rattle.dch_link.specs.SoftNodes.{AreNewLegs}
use Rattle.dch_link.proofs.hearing.open_legs.Given as goal

abbrev pub invariant-loop : goal.invariant-loop
invariant-loop l = AreNewLegs l.accepted l.first_cfn l.counter l.legs.items
