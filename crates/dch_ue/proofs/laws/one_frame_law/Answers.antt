use Rattle.dch_ue.proofs.OneFrame.{radio_one}
use Rattle.dch_ue.proofs.laws.one_frame_law.Goals as goal

pub returns : goal.returns
returns c = radio_one
