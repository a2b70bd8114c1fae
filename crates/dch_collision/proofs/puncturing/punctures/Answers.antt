use Rattle.std.proofs.Common.{◌∙◌, ap}
use Rattle.std.specs.Prelude.{nat_lt}
use Rattle.dch_collision.proofs.Punctured.{fewer-punctures}
use Rattle.dch_collision.proofs.puncturing.punctures.Goals as goal

pub returns : goal.returns
returns c = ap (λ n. nat_lt n c.args.pattern.now.len) c.kept.ensures.sum ∙ fewer-punctures c.args.pattern.now.kind c.args.pattern.now.len c.requires.steps
