use Rattle.std.specs.Prelude.{codes}
use Rattle.dch_tree.specs.Bearers.{fault_if}
use Rattle.dch_tree.proofs.FirstFound.{first_of, then_of}
use Rattle.dch_tree.proofs.fault.Faults.sharing_of.Goals as goal

pub returns : goal.returns
returns c =
    then_of _ _ _ _ (λ wrong. fault_if wrong (codes "mode") c.args.b) _ _
    (then_of _ _ _ _ (λ wrong. fault_if wrong (codes "logical") c.args.b) _ _
    (first_of _ _ (λ wrong. fault_if wrong (codes "logical") c.args.b) _ _ c.lacks_logical.ensures c.in_ok-add_if.ensures)
    c.repeats_earlier.ensures c.in_ok-add_if-2.ensures)
    c.is_shared_transparent.ensures c.in_ok-add_if-3.ensures
