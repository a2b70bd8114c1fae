-- The nodes that a bench holds.
use Rattle.std.specs.Prelude.{List, [], ◌∷◌, Option, None, map}
use Rattle.dch_nodecmd.specs.NodebValues.{Node as NodeB}
use Rattle.dch_nodecmd.specs.RncValues.{Node as Rnc}
use Rattle.dch_gen.specs.SoftValues.{LegParts}
use Rattle.dch_nodecmd.specs.UeValues.{Node as Ue}
use Rattle.dch_top.specs.declared.bench.NodeBs.{NodeBs}
use Rattle.dch_top.specs.declared.bench.NodeBs.TheVariants.{Nothing, One, Legs}

-- the Node Bs stand in the order of their legs, from leg 0 on
pub record Nodes : Type 0 where
  pub ue : Option Ue
  pub node_bs : List NodeB
  pub rnc : Option Rnc

abbrev pub no_nodes : Nodes
no_nodes = record { ue = None; node_bs = []; rnc = None }

-- the Node Bs of legs
abbrev pub node_bs_of : List LegParts → List NodeB
node_bs_of legs = map (λ (leg : LegParts). leg.node_b) legs

-- those that a bench has in its hands
abbrev pub node_bs_in : NodeBs → List NodeB
node_bs_in Nothing = []
node_bs_in (One node) = node ∷ []
node_bs_in (Legs legs) = node_bs_of legs.items
