use Rattle.dch_dlphy.proofs.One.{read_one}
use Rattle.dch_dlphy.proofs.laws.one_reading_law.Goals as goal

pub returns : goal.returns
returns c = read_one
