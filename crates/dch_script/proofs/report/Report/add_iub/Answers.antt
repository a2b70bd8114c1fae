use Rattle.dch_script.specs.Report.{iub_text}
use Rattle.dch_script.proofs.Putting.{puts_next}
use Rattle.dch_script.proofs.report.Report.add_iub.Goals as goal

pub returns : goal.returns
unfolding iub_text
returns c = puts_next (puts_next (puts_next (puts_next (puts_next c.add.ensures c.add_dir.ensures) c.add-2.ensures) c.add_number.ensures) c.add-3.ensures) c.add_octets.ensures
