use Rattle.dch_amlaw.proofs.lossless_laws.lossless_law.Goals as goal
use Rattle.dch_amlaw.proofs.Lossless.{always_whole}

pub returns : goal.returns
returns c = always_whole
