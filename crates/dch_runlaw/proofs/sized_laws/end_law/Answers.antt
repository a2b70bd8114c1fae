use Rattle.dch_runlaw.proofs.SizedEnds.{end_given}
use Rattle.dch_runlaw.proofs.sized_laws.end_law.Goals as goal

pub returns : goal.returns
returns c = end_given
