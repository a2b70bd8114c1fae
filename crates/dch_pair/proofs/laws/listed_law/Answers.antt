use Rattle.dch_am.proofs.Histories.{listed_entity_after}
use Rattle.dch_pair.proofs.laws.listed_law.Goals as goal

pub returns : goal.returns
returns c = listed_entity_after
