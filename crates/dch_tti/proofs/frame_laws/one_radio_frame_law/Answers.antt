use Rattle.dch_tti.proofs.OneFrame.{frame_one}
use Rattle.dch_tti.proofs.frame_laws.one_radio_frame_law.Goals as goal

pub returns : goal.returns
returns c = frame_one
