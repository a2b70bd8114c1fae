use Rattle.dch_tree.specs.Channels.{channel_faults}
use Rattle.dch_tree.proofs.FirstFound.{then_required}
use Rattle.dch_tree.proofs.fault.Faults.channel.Goals as goal

pub returns-clause-first : goal.returns-clause-first
unfolding channel_faults
returns-clause-first c =
    then_required _ _ _ _ _ _ _
    (then_required _ _ _ _ _ _ _
    (then_required _ _ _ _ _ _ _
    (then_required _ _ _ _ _ _ _
    (then_required _ _ _ _ _ _ _
    (then_required _ _ _ _ _ _ _ c.in_ok-unknown.ensures c.frames_at.ensures c.in_ok-frames.ensures.first)
    c.coding_at.ensures c.in_ok-coding.ensures.first)
    c.crc_at.ensures c.in_ok-crc.ensures.first)
    c.number_at.ensures c.in_ok-rm.ensures.first)
    c.octet_at.ensures c.in_ok-set.ensures.first)
    c.in_ok-formats.ensures c.in_ok-formats-2.ensures.first
