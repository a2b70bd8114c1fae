-- A combiner that was opened for a configuration.
use Rattle.std.specs.Prelude.{◌≡◌, ◌<◌, ◌≤◌, ℕ, List, length}
use Rattle.dch_types.specs.declared.channel.Dir.TheVariants.{Up}
use Rattle.dch_types.specs.declared.config.Config.{Config}
use Rattle.dch_accept.specs.Blocks.{HoldsTtis}
use Rattle.dch_accept.specs.HeldSets.{IsSetOf}
use Rattle.dch_accept.specs.Plans.{Planned}
use Rattle.dch_iub.specs.Longest.{IsLongest}
use Rattle.dch_combine.specs.declared.leg.LegBuffer.{LegBuffer}
use Rattle.dch_combine.specs.Values.{Combiner, SetCombiner, leg_at, set_at}

-- the receive buffers are those of a set
abbrev pub AreLegsOf : Config → ℕ → List LegBuffer → Type 0
AreLegsOf config set legs = (k : ℕ) → k < length legs → IsSetOf config Up set (leg_at legs k).blocks

-- what is kept for a set: a receive buffer for each leg, and room for one more frame
pub record IsSetCombinerOf (config : Config) (set count : ℕ) (combiner : SetCombiner) : Type 0 where
  pub all : length combiner.legs ≡ count
  pub legs : AreLegsOf config set combiner.legs
  pub spare : IsSetOf config Up set combiner.spare

-- for the first sets
pub record AreSetCombiners (config : Config) (count sets : ℕ) (combiners : List SetCombiner) : Type 0 where
  pub all : length combiners ≡ sets
  pub each : (s : ℕ) → s < sets → IsSetCombinerOf config s count (set_at combiners s)

-- for all sets, and room for each TTI of the uplink
pub record IsCombinerOf (planned : Planned) (combiner : Combiner) : Type 0 where
  pub sets : AreSetCombiners planned.config combiner.legs 8 combiner.sets
  pub room : HoldsTtis planned.config.uplink.side combiner.room

-- so many octets are room for each frame of a set
pub record HoldsLongest (config : Config) (set octets : ℕ) : Type 0 where
  pub longest : ℕ
  pub is : IsLongest config Up set longest
  pub fits : longest ≤ octets
