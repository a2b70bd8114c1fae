use Rattle.std.proofs.Common.{◌+◌, ◌∙◌, ap}
use Rattle.dch_retx.specs.RequestSet.{is_in}
use Rattle.dch_retx.proofs.RequestSet.{apart, removed_here, removed_other}
use Rattle.dch_retx.proofs.request_set.RequestSet.remove.Goals as goal

pub returns-clause-here : goal.returns-clause-here
returns-clause-here c = removed_here c.self.inside.words (c.self.inside.first + c.args.i) c.self.told

pub returns-clause-others : goal.returns-clause-others
returns-clause-others c =
    λ j below other.
    removed_other c.self.inside.words (c.self.inside.first + c.args.i) (c.self.inside.first + j) c.self.told (apart c.self.inside.first c.args.i j c.requires below other)
    ∙ ap (λ s. is_in s j) c.self.view_is
