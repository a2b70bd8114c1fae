-- When what a running receiver holds stands for all that happened at it since opening (TS 25.322 9.4).
use Rattle.std.specs.Prelude.{◌≡◌, List}
use Rattle.dch_am.specs.ReceiverHistory.{ReceiverEvent, receiver_after}
use Rattle.dch_am.specs.Rules.{Rules, rules_of}
use Rattle.dch_amrecv.specs.Holding.{Holding}
use Rattle.dch_amrecv.specs.Standing.{Stands}

-- a receiving side that runs stands for the receiver at which these events happened since opening
pub record IsReceiverOf (rules : Rules) (events : List ReceiverEvent) (h : Holding) : Type 0 where
  pub rules_are : rules ≡ rules_of rules.buffer h.rules
  pub stands : Stands h (receiver_after rules events).handed (receiver_after rules events).receiver
