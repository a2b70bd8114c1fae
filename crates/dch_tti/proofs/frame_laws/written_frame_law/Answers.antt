use Rattle.dch_tti.proofs.Written.{kept-written}
use Rattle.dch_tti.proofs.frame_laws.written_frame_law.Goals as goal

pub returns : goal.returns
returns c = kept-written
