use Rattle.dch_check.proofs.Scripts.{ends_unopened}
use Rattle.dch_check.proofs.configured.take_configuration.Goals as goal

pub returns-in-Err : goal.returns-in-Err
returns-in-Err g c = rw c.status_of.ensures (ends_unopened _ _ _ _ _ _ c.take_config.new.piece c.in-Err.fault c.in-Err.ensures)
