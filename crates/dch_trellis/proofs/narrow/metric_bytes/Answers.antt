use Rattle.std.proofs.Common.{[], ◌∙◌}
use Rattle.dch_trellis.proofs.Classes.{first_eight}
use Rattle.dch_trellis.proofs.narrow.metric_bytes.Goals as goal

pub returns-clause-value : goal.returns-clause-value
returns-clause-value c = λ n small. c.bytes_of.ensures.value n small ∙ first_eight c.class_metrics.result [] n small ∙ c.class_metrics.ensures.value n small
