-- What the example asks of a configuration.
use Rattle.std.specs.Prelude.{◌≡◌, true}
use Rattle.dch_types.specs.declared.config.Config.{Config}
use Rattle.dch_types.specs.Timing.{has_set}
use Rattle.dch_rnc.specs.Standing.{SendsDown}
use Rattle.dch_ue.specs.Standing.{SendsUp}

-- bearer 0 sends in both directions, and Iub frame set 0 has channels in both
pub record IsTwoWay (config : Config) : Type 0 where
  pub up : SendsUp config 0
  pub down : SendsDown config 0
  pub up_set : has_set config.uplink.side 0 ≡ true
  pub down_set : has_set config.downlink.side 0 ≡ true
