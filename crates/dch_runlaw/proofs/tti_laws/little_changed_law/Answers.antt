use Rattle.dch_tti.proofs.FewChanged.{few_changed}
use Rattle.dch_runlaw.proofs.tti_laws.little_changed_law.Goals as goal

pub returns : goal.returns
returns c = few_changed
