use Rattle.dch_tti.proofs.OneReading.{format_one}
use Rattle.dch_tti.proofs.frame_laws.one_format_law.Goals as goal

pub returns : goal.returns
returns c = format_one
