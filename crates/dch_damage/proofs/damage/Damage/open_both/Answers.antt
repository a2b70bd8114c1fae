use Rattle.dch_damage.proofs.New.{new_waits, one_opened, other_opened}
use Rattle.dch_damage.proofs.damage.Damage.open_both.Goals as goal

pub returns-clause-first : goal.returns-clause-first
returns-clause-first c =
    rw (c.up.view_is, c.down.view_is) (one_opened c.args.first.now c.args.second.now _ c.in_ok-up.ensures.first c.in_ok-down.ensures.first c.in_ok-up_sets.ensures c.in_ok-down_sets.ensures)

pub returns-clause-second : goal.returns-clause-second
returns-clause-second c =
    rw (c.up.view_is, c.down.view_is) (other_opened c.args.first.now c.args.second.now _ c.in_ok-up.ensures.second c.in_ok-down.ensures.second c.in_ok-up_sets.ensures c.in_ok-down_sets.ensures)

pub returns-clause-none : goal.returns-clause-none
returns-clause-none c =
    rw (c.up.view_is, c.down.view_is) (new_waits c.args.first.now c.args.second.now _ c.in_ok-up.ensures.quiet c.in_ok-down.ensures.quiet c.in_ok-up_sets.ensures c.in_ok-down_sets.ensures)
