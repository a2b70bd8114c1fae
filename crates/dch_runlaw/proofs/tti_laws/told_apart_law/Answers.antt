use Rattle.dch_tti.proofs.ToldApart.{told_apart}
use Rattle.dch_runlaw.proofs.tti_laws.told_apart_law.Goals as goal

pub returns : goal.returns
returns c = told_apart
