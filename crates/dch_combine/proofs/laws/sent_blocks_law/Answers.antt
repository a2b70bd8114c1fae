use Rattle.dch_combine.proofs.Sent.{takes_sent}
use Rattle.dch_combine.proofs.laws.sent_blocks_law.Goals as goal

pub returns : goal.returns
returns c = takes_sent
