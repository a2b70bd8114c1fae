-- The parts of three nodes that run together, as contracts see them.
use Rattle.dch_damage.specs.Tables.{Tables}
use Rattle.dch_ue.specs.Values.{Node as Ue}
use Rattle.dch_nodeb.specs.Values.{Node as NodeB}
use Rattle.dch_rnc.specs.Values.{Node as Rnc}

pub record Nodes : Type 0 where
  pub ue : Ue
  pub node_b : NodeB
  pub rnc : Rnc
  pub damage : Tables
