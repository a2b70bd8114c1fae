use Rattle.dch_trellis.proofs.Damage.{told_by_copies}
use Rattle.dch_trellis.proofs.laws.copies_law.Goals as goal

pub returns : goal.returns
returns c = told_by_copies
