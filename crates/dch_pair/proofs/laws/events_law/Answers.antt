use Rattle.dch_am.specs.Entities.{opened_entity}
use Rattle.dch_pair.proofs.Events.{steps-append}
use Rattle.dch_pair.proofs.laws.events_law.Goals as goal

pub returns : goal.returns
returns c rules size events event = steps-append rules size (opened_entity rules) events event
