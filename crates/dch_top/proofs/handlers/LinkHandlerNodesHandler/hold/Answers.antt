use Rattle.std.proofs.Common.{◌∙◌, [], ◌∷◌, Some, ap, sym, subst}
use Rattle.dch_accept.specs.Plans.{Planned}
use Rattle.dch_gen.specs.LinkNodes.{HaveHistories}
use Rattle.dch_top.specs.Benches.{Nodes}
use Rattle.dch_top.proofs.handlers.LinkHandlerNodesHandler.hold.Goals as goal

pub returns : goal.returns
returns c = λ run stands.
    let nodes = c.into_nodes-ue.result in
    record {
      ue = nodes.0;
      node_b = nodes.1;
      rnc = nodes.2;
      all = c.hold_rnc.ensures ∙ ap (λ (n : Nodes). record n { rnc = Some nodes.2 }) (c.hold_node_b.ensures ∙ ap (λ (n : Nodes). record n { node_bs = nodes.1 ∷ [] }) (c.hold_ue.ensures ∙ ap (λ (n : Nodes). record n { ue = Some nodes.0 }) c.requires));
      histories = subst (λ (p : Planned). HaveHistories run.began p run.first run.link nodes.0 nodes.1 nodes.2) (sym stands.stands.rnc.stands.at.active) (c.into_nodes-ue.ensures run stands);
    }
