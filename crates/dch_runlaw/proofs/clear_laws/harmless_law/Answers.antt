use Rattle.dch_runlaw.proofs.ClearHarmless.{clear_from}
use Rattle.dch_runlaw.proofs.clear_laws.harmless_law.Goals as goal

pub returns : goal.returns
returns c = clear_from
