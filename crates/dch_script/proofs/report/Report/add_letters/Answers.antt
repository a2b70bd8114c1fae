use Rattle.dch_bits.specs.Text.{letter_of}
use Rattle.dch_script.proofs.Putting.{puts_letters}
use Rattle.dch_script.proofs.report.Report.add_letters.Goals as goal

pub returns : goal.returns
returns c = puts_letters letter_of c.args.bits.now c.put_letters.ensures c.fitting-count.ensures.few c.fitting-count.ensures.room c.fitting-count.ensures.full
