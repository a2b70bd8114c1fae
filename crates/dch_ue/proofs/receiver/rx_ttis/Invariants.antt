use Rattle.dch_ue.specs.Opened.{AreNewTtis}
use Rattle.dch_ue.proofs.receiver.rx_ttis.Given as goal

abbrev pub invariant-loop : goal.invariant-loop
invariant-loop l = AreNewTtis l.accepted l.counter l.ttis.items
