use Rattle.dch_link.proofs.SoftOpened.{leg_opened}
use Rattle.dch_link.proofs.leg.Leg.open.Goals as goal

pub returns-clause-stands : goal.returns-clause-stands
returns-clause-stands c = leg_opened c.args.accepted.now c.args.first_cfn c.in_ok-open.field-0 c.in_ok-open-2.field-0 c.in_ok-open.ensures.stands c.in_ok-open-2.ensures.none
