use Rattle.std.proofs.Common.{◌∷◌, [], ◌∙◌}
use Rattle.dch_trellis.proofs.Classes.{first_eight}
use Rattle.dch_trellis.proofs.tiny.metric_lanes.Goals as goal

pub returns : goal.returns
returns c = λ n small. first_eight c.class_metrics.result (0 ∷ 0 ∷ 0 ∷ 0 ∷ 0 ∷ 0 ∷ 0 ∷ 0 ∷ []) n small ∙ c.class_metrics.ensures.value n small
