use Rattle.std.proofs.Common.{refl}
use Rattle.dch_reset.proofs.Ends.{capped_none}
use Rattle.dch_reset.proofs.end.ResetEnd.open.Goals as goal

pub returns-clause-stands : goal.returns-clause-stands
returns-clause-stands c = record { entity = c.in_ok-entity.ensures.stands; pending = refl; next_rsn = refl; heard = refl; owes = refl; restarts = capped_none; hfni = refl }
