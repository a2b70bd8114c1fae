use Rattle.dch_runlaw.proofs.TextTold.{run_told}
use Rattle.dch_runlaw.proofs.text_laws.told_law.Goals as goal

pub returns : goal.returns
returns c = λ old events new lines run. run_told old events new lines run
