use Rattle.dch_ue.proofs.OneReading.{tick_reading}
use Rattle.dch_ue.proofs.laws.one_reading_law.Goals as goal

pub returns : goal.returns
returns c = tick_reading
