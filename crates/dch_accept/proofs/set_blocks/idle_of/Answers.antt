use Rattle.std.proofs.Common.{get_or, sym, subst, List}
use Rattle.dch_types.specs.declared.channel.Format.{Format}
use Rattle.dch_accept.specs.HeldSets.{IsQuiet, IsIdleOf}
use Rattle.dch_accept.proofs.IdleFormats.{quiet_at, idle_at_first}
use Rattle.dch_accept.proofs.set_blocks.idle_of.Goals as goal

pub returns-clause-quiet : goal.returns-clause-quiet
returns-clause-quiet c =
    let at = c.first_idle-at.result in
    subst (λ (formats : List Format). IsQuiet (record { number = at; format = get_or formats at (record { number = 0; size = 0 }) })) (sym c.as_slice.ensures)
    (quiet_at c.args.channel.now at c.requires c.first_idle-at.ensures.found)

pub returns-clause-idle : goal.returns-clause-idle
returns-clause-idle c =
    let at = c.first_idle-at.result in
    subst (λ (formats : List Format). IsIdleOf c.args.channel.now (record { number = at; format = get_or formats at (record { number = 0; size = 0 }) })) (sym c.as_slice.ensures)
    (idle_at_first c.args.channel.now at c.first_idle-at.ensures.found)
