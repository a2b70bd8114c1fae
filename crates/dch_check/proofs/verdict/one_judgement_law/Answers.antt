use Rattle.dch_check.proofs.Judgements.{one_judgement}
use Rattle.dch_check.proofs.verdict.one_judgement_law.Goals as goal

pub returns : goal.returns
returns c = one_judgement
