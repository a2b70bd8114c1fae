use Rattle.dch_runlaw.proofs.Scripting.{lines_run}
use Rattle.dch_runlaw.proofs.script_laws.soft_script_law.Goals as goal

pub returns : goal.returns
returns c = lines_run
