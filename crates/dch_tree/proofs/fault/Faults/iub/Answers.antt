use Rattle.dch_tree.specs.Documents.{iub_faults}
use Rattle.dch_tree.proofs.FirstFound.{then_required}
use Rattle.dch_tree.proofs.fault.Faults.iub.Goals as goal

pub returns-clause-first : goal.returns-clause-first
unfolding iub_faults
returns-clause-first c =
    then_required _ _ _ _ _ _ _
    (then_required _ _ _ _ _ _ _ c.in_ok-unknown.ensures c.truth_at.ensures c.in_ok-payload_check.ensures.first)
    c.octet_at.ensures c.in_ok-qe.ensures.first
