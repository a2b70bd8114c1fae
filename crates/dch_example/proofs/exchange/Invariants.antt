use Rattle.dch_rnc.specs.Opened.{IsNodeOf as IsRncOf}
use Rattle.dch_nodeb.specs.Opened.{IsNodeOf as IsNodeBOf}
use Rattle.dch_ue.specs.Opened.{IsNodeOf as IsUeOf}
use Rattle.dch_example.proofs.exchange.Given as goal

abbrev pub invariant-loop : goal.invariant-loop
invariant-loop l = (IsRncOf l.accepted l.rnc) × ((IsNodeBOf l.accepted l.node_b) × (IsUeOf l.accepted l.ue))
