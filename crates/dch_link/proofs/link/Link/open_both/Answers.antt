use Rattle.dch_link.specs.Link.{opened_link}
use Rattle.dch_link.proofs.Opened.{opened_stands}
use Rattle.dch_link.proofs.link.Link.open_both.Goals as goal

pub returns-clause-opened : goal.returns-clause-opened
returns-clause-opened c =
    let first = c.args.first.now in
    record {
      opened = record { ue = c.in_ok-open_both.ensures.opened; node_b = c.in_ok-open_both-2.ensures.opened; rnc = c.in_ok-open_both-3.ensures.opened; damage = c.in_ok-open_both-4.ensures.first };
      began = first;
      first = c.args.first_cfn;
      link = opened_link first c.args.first_cfn;
      stands = opened_stands first c.args.first_cfn c.in_ok-open_both.field-0 c.in_ok-open_both-2.field-0 c.in_ok-open_both-3.field-0 c.in_ok-open_both-4.field-0 c.in_ok-open_both.ensures.stands c.in_ok-open_both-2.ensures.stands c.in_ok-open_both-3.ensures.stands c.in_ok-open_both-4.ensures.none;
    }
