-- The configuration that `gen` runs on.
use Rattle.std.specs.Prelude.{true}
use Rattle.dch_types.specs.declared.channel.Side.{Side}
use Rattle.dch_types.specs.declared.config.Config.{Config}
use Rattle.dch_gen.specs.Channels.{gen_channels}
use Rattle.dch_gen.specs.Combinations.{gen_combinations}
use Rattle.dch_gen.specs.Bearers.{gen_bearers}

-- a direction
unfoldable pub gen_side : Side
gen_side = record { channels = gen_channels; combinations = gen_combinations 36 }

-- the configuration of `gen`
unfoldable pub gen_config : Config
gen_config = record {
  uplink = record { side = gen_side; largest = 9600; pl = 100 };
  downlink = record { side = gen_side; slot_bits = 608; codes = 1; sf = 8; fixed = true };
  bearers = gen_bearers;
  payload_check = true;
  qe = 0;
}
