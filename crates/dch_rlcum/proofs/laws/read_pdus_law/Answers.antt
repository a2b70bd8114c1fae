use Rattle.dch_rlcum.proofs.Handed.{pdus_read}
use Rattle.dch_rlcum.proofs.laws.read_pdus_law.Goals as goal

pub returns : goal.returns
returns c = pdus_read
