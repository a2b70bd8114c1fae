use Rattle.dch_script.proofs.Putting.{puts_hex, puts_octets}
use Rattle.dch_script.proofs.report.Report.add_hex.Goals as goal

pub returns-then-count-octets : goal.returns-then-count-octets
returns-then-count-octets c = puts_octets c.args.octets.now c.min-count.result c.spare.result 0 c.spare.ensures c.min-count.ensures c.if-count-octets.true c.put_hex.ensures c.add_digits.ensures

pub returns-else-count-octets : goal.returns-else-count-octets
returns-else-count-octets c = puts_hex c.args.octets.now c.min-count.result c.spare.result c.spare.ensures c.min-count.ensures c.if-count-octets.false c.put_hex.ensures
