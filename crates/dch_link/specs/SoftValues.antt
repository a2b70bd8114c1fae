-- The parts of nodes that run together in soft handover, as contracts see them.
use Rattle.std.specs.Prelude.{◌≡◌, ◌<◌, ℕ, List, length, slice_index_or}
use Rattle.dch_combine.specs.Values.{Combiner}
use Rattle.dch_damage.specs.Tables.{Tables}
use Rattle.dch_nodeb.specs.Values.{Node as NodeB}
use Rattle.dch_rnc.specs.Values.{Node as Rnc}
use Rattle.dch_ue.specs.Values.{Node as Ue}

-- a leg: its Node B, and the damage to its frames that waits
pub record LegParts : Type 0 where
  pub node_b : NodeB
  pub damage : Tables

-- the terminal, the network controller, the legs, what combines their frames, the octets that a combined frame has room
-- for, and the CFN of the radio frame that is on
pub record Parts : Type 0 where
  pub ue : Ue
  pub rnc : Rnc
  pub legs : List LegParts
  pub combiner : Combiner
  pub room : ℕ
  pub cfn : ℕ

-- this is leg k
abbrev pub IsLeg : List LegParts → ℕ → LegParts → Type 0
IsLeg legs k leg = (k < length legs) × (leg ≡ slice_index_or legs k leg)

-- a fact holds of each leg
abbrev pub EachLeg : (ℕ → LegParts → Type 0) → List LegParts → Type 0
EachLeg P legs = (k : ℕ) (leg : LegParts) → IsLeg legs k leg → P k leg
