use Rattle.dch_runlaw.proofs.Scripts.{lines_run}
use Rattle.dch_runlaw.proofs.frame_laws.run_law.Goals as goal

pub returns : goal.returns
returns c = λ old lines new text rests handles. lines_run old lines new text rests handles
