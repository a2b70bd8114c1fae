use Rattle.dch_combine.proofs.OneFrame.{one_frame}
use Rattle.dch_combine.proofs.laws.one_frame_law.Goals as goal

pub returns : goal.returns
returns c = one_frame
