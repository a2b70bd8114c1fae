use Rattle.dch_runlaw.proofs.PlainClear.{clear_plain}
use Rattle.dch_runlaw.proofs.plain_laws.plain_law.Goals as goal

pub returns : goal.returns
returns c planned first events new lines run good eighth clear = clear_plain planned first events new lines run good eighth clear
