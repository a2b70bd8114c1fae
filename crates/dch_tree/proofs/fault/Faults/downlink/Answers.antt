use Rattle.dch_tree.specs.Sides.{downlink_faults}
use Rattle.dch_tree.proofs.FirstFound.{then, then_required}
use Rattle.dch_tree.proofs.fault.Faults.downlink.Goals as goal

pub returns-clause-first : goal.returns-clause-first
unfolding downlink_faults
returns-clause-first c =
    then _ _ _ _ _
    (then_required _ _ _ _ _ _ _
    (then_required _ _ _ _ _ _ _
    (then_required _ _ _ _ _ _ _
    (then_required _ _ _ _ _ _ _ c.in_ok-unknown.ensures c.number_at.ensures c.in_ok-slot_bits.ensures.first)
    c.octet_at.ensures c.in_ok-codes.ensures.first)
    c.number_among_at.ensures c.in_ok-sf.ensures.first)
    c.fixed_at.ensures c.in_ok-fixed.ensures.first)
    c.in_ok-side.ensures.first
