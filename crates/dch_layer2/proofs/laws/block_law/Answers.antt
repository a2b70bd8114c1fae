use Rattle.dch_layer2.proofs.laws.block_law.Goals as goal
use Rattle.dch_layer2.proofs.Octets.{block_back}

pub returns : goal.returns
returns c = block_back
