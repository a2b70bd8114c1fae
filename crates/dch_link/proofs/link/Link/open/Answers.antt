use Rattle.dch_link.specs.Link.{opened_link}
use Rattle.dch_link.proofs.Opened.{opened_stands}
use Rattle.dch_link.proofs.link.Link.open.Goals as goal

pub returns-clause-opened : goal.returns-clause-opened
returns-clause-opened c =
    let planned = c.args.accepted.now in
    record {
      opened = record { ue = c.in_ok-open.ensures.opened; node_b = c.in_ok-open-2.ensures.opened; rnc = c.in_ok-open-3.ensures.opened; damage = c.in_ok-open-4.ensures.opened };
      began = planned;
      first = c.args.first_cfn;
      link = opened_link planned c.args.first_cfn;
      stands = opened_stands planned c.args.first_cfn c.in_ok-open.field-0 c.in_ok-open-2.field-0 c.in_ok-open-3.field-0 c.in_ok-open-4.field-0 c.in_ok-open.ensures.stands c.in_ok-open-2.ensures.stands c.in_ok-open-3.ensures.stands c.in_ok-open-4.ensures.none;
    }
