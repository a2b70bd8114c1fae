use Rattle.std.proofs.Common.{◌+◌, List, subst, sym}
use Rattle.dch_combine.specs.Steps.{AreNewSets}
use Rattle.dch_combine.specs.Values.{SetCombiner}
use Rattle.dch_combine.proofs.Sets.{new_set}
use Rattle.dch_combine.proofs.combiner.set_combiners.Goals as goal

pub loop-set-preserved : goal.loop-set-preserved
loop-set-preserved c =
    subst (λ (sets : List SetCombiner). AreNewSets c.args.accepted.now.config c.args.legs (c.loop-set.set + 1) sets) (sym c.in_ok-push.ensures.items)
    (new_set c.args.accepted.now.config c.args.legs c.loop-set.set c.loop-set.sets.items c.in_ok-open.field-0 c.loop-set.invariant c.in_ok-open.ensures.empty c.in_ok-open.ensures.opened)
