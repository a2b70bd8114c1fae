use Rattle.dch_rnc.proofs.One.{arrival_one, refusal_one}
use Rattle.dch_rnc.proofs.laws.one_arrival_law.Goals as goal

pub returns-clause-arrival : goal.returns-clause-arrival
returns-clause-arrival c = arrival_one

pub returns-clause-refusal : goal.returns-clause-refusal
returns-clause-refusal c = refusal_one
