use Rattle.std.proofs.Common.{[], ap, ◌∙◌}
use Rattle.std.specs.Prelude.{codes}
use Rattle.dch_tree.specs.Tables.{items_faults, items_values}
use Rattle.dch_tree.specs.Bearers.{bearer_faults, bearer_of, together_faults, bearers_faults}
use Rattle.dch_tree.proofs.FirstFound.{then_of}
use Rattle.dch_tree.proofs.fault.Faults.bearers.Goals as goal

pub returns-clause-first : goal.returns-clause-first
unfolding bearers_faults
returns-clause-first c =
    then_of _ _ _ _ (λ bearers. together_faults bearers) _ _
    (then_of _ _ _ _ (λ items. items_faults (bearer_faults c.args.ups c.args.downs) [] (codes "bearer") 0 items) _ _
    c.in_ok-items.ensures.first c.in_ok-items.ensures.value c.in_ok-bearers.ensures.first)
    (c.as_slice.ensures ∙ (c.in_ok-bearers.ensures.value ∙ ap (λ items. items_values (bearer_of c.args.ups c.args.downs) items) c.in_ok-items.ensures.value))
    c.in_ok-together.ensures
