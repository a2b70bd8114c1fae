use Rattle.dch_dlphy.proofs.One.{loaded_one}
use Rattle.dch_dlphy.proofs.laws.one_load_law.Goals as goal

pub returns : goal.returns
returns c = loaded_one
