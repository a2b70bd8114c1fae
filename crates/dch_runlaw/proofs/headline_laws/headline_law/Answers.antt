use Rattle.dch_runlaw.proofs.Headline.{carried}
use Rattle.dch_runlaw.proofs.headline_laws.headline_law.Goals as goal

pub returns : goal.returns
returns c = carried
