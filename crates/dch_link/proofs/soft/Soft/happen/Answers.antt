use Rattle.dch_node.specs.Standing.{Tells}
use Rattle.dch_link.specs.SoftEvents.{Happens}
use Rattle.dch_link.specs.SoftNodes.{event_of}
use Rattle.dch_link.proofs.SoftNexts.{still}
use Rattle.dch_link.proofs.soft.Soft.happen.Goals as goal

pub returns-clause-opened : goal.returns-clause-opened
returns-clause-opened g c =
    still c.args.accepted.now (λ soft. Happens soft (event_of c.args.event)) c.args.self.now c.take_event.new.self (Tells g.U.Indications.shows c.args.user.now c.take_event.new.user) c.requires.opened c.take_event.ensures.opened c.take_event.ensures.happens
