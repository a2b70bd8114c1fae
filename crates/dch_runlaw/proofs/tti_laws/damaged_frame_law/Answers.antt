use Rattle.dch_runlaw.proofs.DamagedFrame.{kept-damaged}
use Rattle.dch_runlaw.proofs.tti_laws.damaged_frame_law.Goals as goal

pub returns : goal.returns
returns c = kept-damaged
