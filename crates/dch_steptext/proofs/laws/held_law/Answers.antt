use Rattle.dch_steptext.proofs.LayerBytes.{layer_few}
use Rattle.dch_steptext.proofs.laws.held_law.Goals as goal

pub returns : goal.returns
returns c = layer_few
