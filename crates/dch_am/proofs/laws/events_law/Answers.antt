use Rattle.dch_am.proofs.Histories.{receiver-append, sender-append}
use Rattle.dch_am.proofs.laws.events_law.Goals as goal
use Rattle.dch_am.specs.ReceiverHistory.{opened_side}
use Rattle.dch_am.specs.Sender.{opened_sender}

pub returns-clause-sender : goal.returns-clause-sender
returns-clause-sender c rules d events event = sender-append rules d opened_sender events event

pub returns-clause-receiver : goal.returns-clause-receiver
returns-clause-receiver c rules events event = receiver-append rules (opened_side rules) events event
