use Rattle.std.proofs.Common.{rules}
use Rattle.dch_trellis.proofs.Rows.{zero_everywhere}
use Rattle.dch_trellis.proofs.tiny.no_metrics.Goals as goal

pub returns : goal.returns
returns c = λ s. search (rules, zero_everywhere)
