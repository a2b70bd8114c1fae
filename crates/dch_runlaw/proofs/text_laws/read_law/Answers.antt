use Rattle.std.proofs.Common.{false}
use Rattle.dch_runlaw.proofs.TextTold.{run_shown}
use Rattle.dch_runlaw.proofs.text_laws.read_law.Goals as goal

pub returns : goal.returns
returns c = λ planned first events new lines run good. run_shown false planned first events new lines run good
