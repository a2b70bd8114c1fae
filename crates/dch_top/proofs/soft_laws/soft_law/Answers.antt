use Rattle.dch_top.proofs.SoftUnits.{soft_carries}
use Rattle.dch_top.proofs.soft_laws.soft_law.Goals as goal

pub returns : goal.returns
returns c = soft_carries
