-- Another configuration becomes active at three nodes that run together.
use Rattle.dch_accept.specs.Plans.{Planned}
use Rattle.dch_ue.specs.State.{Change as UeChange}
use Rattle.dch_nodeb.specs.State.{Change as NodeBChange}
use Rattle.dch_rnc.specs.State.{Change as RncChange}
use Rattle.dch_link.specs.Link.{LinkState}
use Rattle.dch_link.specs.Stages.{NodeBGoes, RncGoes, UeGoes}

-- at the network controller, at the Node B and at the terminal, one after another. What waits of damage stays
pub record Changes (second : Planned) (old new : LinkState) : Type 0 where
  pub rnc_new : LinkState
  pub node_b_new : LinkState
  pub rnc_changes : RncGoes old (RncChange second) rnc_new
  pub node_b_changes : NodeBGoes rnc_new (NodeBChange second) node_b_new
  pub ue_changes : UeGoes node_b_new (UeChange second) new
