use Rattle.std.proofs.Common.{ap, ◌∙◌}
use Rattle.std.specs.Prelude.{codes}
use Rattle.dch_tree.specs.Faults.{first_found}
use Rattle.dch_tree.specs.Tables.{items_faults}
use Rattle.dch_tree.specs.Channels.{channel_faults}
use Rattle.dch_tree.specs.Sides.{side_faults}
use Rattle.dch_tree.proofs.FirstFound.{then, first_required}
use Rattle.dch_tree.proofs.Sets.{sets_whole}
use Rattle.dch_tree.proofs.fault.Faults.side.Goals as goal

pub returns-clause-first : goal.returns-clause-first
unfolding side_faults
returns-clause-first c =
    then _ _ _ _ _
    (then _ _ _ _ _
    (then _ _ _ _ _
    (first_required _ _ _ _ _ c.in_ok-combinations.ensures c.in_ok-combinations-2.ensures.first)
    c.in_ok-items.ensures.first)
    (c.in_ok-channels.ensures.first ∙ ap (λ items. first_found c.list.new.self.first (items_faults channel_faults c.args.path.now (codes "channel") 0 items)) c.in_ok-items.ensures.value))
    (sets_whole _ _ c.args.path.now _ _ c.in_ok-items.ensures.value c.in_ok-sets.ensures)
