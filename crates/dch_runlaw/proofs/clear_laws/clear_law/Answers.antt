use Rattle.dch_runlaw.proofs.ClearRuns.{clear_sound, clear_undamaged}
use Rattle.dch_runlaw.proofs.clear_laws.clear_law.Goals as goal

pub returns-clause-undamaged : goal.returns-clause-undamaged
returns-clause-undamaged c = clear_undamaged

pub returns-clause-sound : goal.returns-clause-sound
returns-clause-sound c = clear_sound
