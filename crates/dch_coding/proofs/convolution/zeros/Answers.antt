use Rattle.std.proofs.Common.{rules}
use Rattle.dch_coding.proofs.Steps.{zero_everywhere}
use Rattle.dch_coding.proofs.convolution.zeros.Goals as goal

pub returns : goal.returns
returns c = λ i. search (rules, zero_everywhere)
