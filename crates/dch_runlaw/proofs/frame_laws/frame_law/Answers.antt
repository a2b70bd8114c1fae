use Rattle.dch_runlaw.proofs.Frames.{frame_is}
use Rattle.dch_runlaw.proofs.frame_laws.frame_law.Goals as goal

pub returns : goal.returns
returns c = λ states lines stages. frame_is states lines stages
