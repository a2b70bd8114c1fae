use Rattle.std.proofs.Common.{[], sym, subst}
use Rattle.dch_link.specs.LinkNodes.{IsLinkOf}
use Rattle.dch_link.specs.Values.{Nodes}
use Rattle.dch_link.specs.contracts.link.Link.{the_view}
use Rattle.dch_link.proofs.Nexts.{with_damage}
use Rattle.dch_link.proofs.link.Link.end_frame.Goals as goal

pub returns-clause-opened : goal.returns-clause-opened
returns-clause-opened c =
    let nodes : Nodes = the_view c.self.inside in
    let opened : IsLinkOf c.args.accepted.now nodes = subst (λ (n : Nodes). IsLinkOf c.args.accepted.now n) (sym c.self.view_is) c.requires in
    record {
      opened = record { ue = opened.opened.ue; node_b = opened.opened.node_b; rnc = opened.opened.rnc; damage = c.clear.ensures.opened c.args.accepted.now opened.opened.damage };
      began = opened.began;
      first = opened.first;
      link = record opened.link { damage = [] };
      stands = with_damage opened.began c.args.accepted.now opened.first opened.link nodes [] c.clear.new.self opened.stands c.clear.ensures.none;
    }
