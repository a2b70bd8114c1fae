use Rattle.std.proofs.Common.{◌≡◌, ◌∙◌, Some, length, ap, sym, subst}
use Rattle.std.proofs.lemmas.List.{length-map}
use Rattle.dch_accept.specs.Plans.{Planned}
use Rattle.dch_gen.specs.SoftNodes.{HaveHistories}
use Rattle.dch_gen.specs.SoftValues.{LegParts}
use Rattle.dch_top.specs.Benches.{Nodes, node_bs_of}
use Rattle.dch_top.proofs.handlers.SoftHandlerNodesHandler.hold.Goals as goal

pub returns : goal.returns
returns c = λ run stands.
    let nodes = c.into_nodes-ue.result in
    let has = c.into_nodes-ue.ensures run stands in
    let all : c.hold_rnc.new.self ≡ record { ue = Some nodes.0; node_bs = node_bs_of nodes.1.items; rnc = Some nodes.2 } =
    c.hold_rnc.ensures ∙ ap (λ (n : Nodes). record n { rnc = Some nodes.2 }) (c.hold_legs.ensures ∙ ap (λ (n : Nodes). record n { node_bs = node_bs_of nodes.1.items }) (c.hold_ue.ensures ∙ ap (λ (n : Nodes). record n { ue = Some nodes.0 }) c.requires)) in
    record {
      ue = nodes.0;
      legs = nodes.1.items;
      rnc = nodes.2;
      all = all;
      many = ap (λ (n : Nodes). length n.node_bs) all ∙ length-map nodes.1.items (λ (leg : LegParts). leg.node_b) ∙ has.count;
      histories = subst (λ (p : Planned). HaveHistories p run.first run.soft nodes.0 nodes.1.items nodes.2) (sym stands.stands.rnc.stands.at.active) has;
    }
