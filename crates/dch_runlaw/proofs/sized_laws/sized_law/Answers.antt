use Rattle.dch_runlaw.proofs.Begun.{begun}
use Rattle.dch_runlaw.proofs.SizedRuns.{is_sized}
use Rattle.dch_runlaw.proofs.sized_laws.sized_law.Goals as goal

pub returns : goal.returns
returns c = λ planned events start new lines run good begins. is_sized planned events start new lines run good (begun planned start good begins).both
