use Rattle.dch_tti.proofs.OneReading.{kept_one}
use Rattle.dch_tti.proofs.frame_laws.one_kept_frame_law.Goals as goal

pub returns : goal.returns
returns c = kept_one
