use Rattle.dch_steptext.proofs.LayerBytes.{all_taken, offer_line}
use Rattle.dch_steptext.proofs.laws.report_law.Goals as goal

pub returns : goal.returns
returns c = record { offers = offer_line; takes = all_taken }
