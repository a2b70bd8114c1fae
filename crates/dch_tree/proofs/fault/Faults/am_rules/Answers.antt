use Rattle.dch_tree.specs.Bearers.{am_faults}
use Rattle.dch_tree.proofs.FirstFound.{first_optional, then_optional}
use Rattle.dch_tree.proofs.fault.Faults.am_rules.Goals as goal

pub returns-clause-first : goal.returns-clause-first
unfolding am_faults
returns-clause-first c =
    then_optional _ _ _ _ _ _ _
    (then_optional _ _ _ _ _ _ _
    (then_optional _ _ _ _ _ _ _
    (then_optional _ _ _ _ _ _ _
    (then_optional _ _ _ _ _ _ _
    (then_optional _ _ _ _ _ _ _
    (then_optional _ _ _ _ _ _ _
    (then_optional _ _ _ _ _ _ _
    (then_optional _ _ _ _ _ _ _
    (then_optional _ _ _ _ _ _ _
    (first_optional _ _ _ _ _ c.window_at.ensures c.in_ok-window.ensures.first)
    c.number_at.ensures c.in_ok-poll_timer.ensures.first)
    c.number_at-2.ensures c.in_ok-poll_pdus.ensures.first)
    c.number_at-3.ensures c.in_ok-poll_units.ensures.first)
    c.octet_at.ensures c.in_ok-poll_window.ensures.first)
    c.number_at-4.ensures c.in_ok-status_period.ensures.first)
    c.number_at-5.ensures c.in_ok-status_prohibit.ensures.first)
    c.truth_at.ensures c.in_ok-missing.ensures.first)
    c.number_at-6.ensures c.in_ok-discard_age.ensures.first)
    c.octet_at-2.ensures c.in_ok-discard_sent.ensures.first)
    c.number_at-7.ensures c.in_ok-discard_repeat.ensures.first
