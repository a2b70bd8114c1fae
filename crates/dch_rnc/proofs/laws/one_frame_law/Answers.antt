use Rattle.dch_rnc.proofs.Frames.{sent_one}
use Rattle.dch_rnc.proofs.laws.one_frame_law.Goals as goal

pub returns : goal.returns
returns c = sent_one
