use Rattle.dch_script.proofs.Putting.{puts_next}
use Rattle.dch_script.proofs.report.Report.add_coded.Goals as goal

pub returns : goal.returns
returns c = puts_next c.add.ensures c.add_bits.ensures
