use Rattle.dch_tree.specs.Sides.{uplink_faults}
use Rattle.dch_tree.proofs.FirstFound.{then, then_required}
use Rattle.dch_tree.proofs.fault.Faults.uplink.Goals as goal

pub returns-clause-first : goal.returns-clause-first
unfolding uplink_faults
returns-clause-first c =
    then _ _ _ _ _
    (then_required _ _ _ _ _ _ _
    (then_required _ _ _ _ _ _ _ c.in_ok-unknown.ensures c.number_among_at.ensures c.in_ok-largest.ensures.first)
    c.octet_at.ensures c.in_ok-pl.ensures.first)
    c.in_ok-side.ensures.first
