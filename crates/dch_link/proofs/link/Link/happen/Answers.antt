use Rattle.dch_node.specs.Standing.{Tells}
use Rattle.dch_link.specs.Events.{Happens}
use Rattle.dch_link.specs.LinkNodes.{event_of}
use Rattle.dch_link.proofs.Cfns.{happen_cfn}
use Rattle.dch_link.proofs.Nexts.{still}
use Rattle.dch_link.proofs.link.Link.happen.Goals as goal

pub returns-clause-opened : goal.returns-clause-opened
returns-clause-opened g c =
    still c.args.accepted.now (λ link. Happens link (event_of c.args.event)) c.args.self.now c.take_event.new.self (Tells g.U.Indications.shows c.args.user.now c.take_event.new.user) c.requires.opened c.take_event.ensures.opened c.take_event.ensures.happens

pub returns-clause-cfn : goal.returns-clause-cfn
returns-clause-cfn g c =
    happen_cfn c.args.accepted.now (event_of c.args.event) c.args.self.now c.take_event.new.self (Tells g.U.Indications.shows c.args.user.now c.take_event.new.user) c.requires.opened c.take_event.ensures.happens
