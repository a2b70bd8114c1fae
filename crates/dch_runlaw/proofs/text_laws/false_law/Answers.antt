use Rattle.dch_runlaw.proofs.Begun.{begins_for}
use Rattle.dch_runlaw.proofs.TextTold.{run_false}
use Rattle.dch_runlaw.proofs.text_laws.false_law.Goals as goal

pub returns : goal.returns
returns c = λ quiet planned events start new lines run good begins. run_false quiet planned events start new lines run good (begins_for planned start begins).rnc
