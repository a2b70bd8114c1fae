use Rattle.dch_bits.specs.Text.{cell_letter}
use Rattle.dch_script.proofs.Putting.{puts_letters}
use Rattle.dch_script.proofs.report.Report.add_cell_letters.Goals as goal

pub returns : goal.returns
returns c = puts_letters cell_letter c.args.cells.now c.put_cell_letters.ensures c.fitting-count.ensures.few c.fitting-count.ensures.room c.fitting-count.ensures.full
