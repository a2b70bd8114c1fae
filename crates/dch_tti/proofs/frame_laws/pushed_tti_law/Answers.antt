use Rattle.dch_tti.proofs.Pushed.{sent_frames}
use Rattle.dch_tti.proofs.frame_laws.pushed_tti_law.Goals as goal

pub returns : goal.returns
returns c = sent_frames
