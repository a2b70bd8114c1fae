use Rattle.dch_amlaw.proofs.laws.in_order_law.Goals as goal
use Rattle.dch_amlaw.proofs.History.{always_safe}

pub returns : goal.returns
returns c = always_safe
