use Rattle.dch_gen.proofs.Never.{never}
use Rattle.dch_gen.proofs.accepting.never_refused.Goals as goal

pub returns : goal.returns
returns c = never
