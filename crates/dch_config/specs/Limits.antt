-- What is refused of a configuration after its keys, in the order in which it counts: the uplink before the downlink.
use Rattle.std.specs.Prelude.{List, [], ◌∷◌, Option}
use Rattle.dch_types.specs.declared.channel.Dir.TheVariants.{Up, Down}
use Rattle.dch_types.specs.declared.channel.Side.{Side}
use Rattle.dch_types.specs.declared.config.Config.{Config}
use Rattle.dch_config.specs.declared.error.ConfigError.{ConfigError}
use Rattle.dch_config.specs.Refusals.{first_refusal}
use Rattle.dch_config.specs.Sides.{channel_count_refusal, format_count_refusal, idle_refusal, combination_count_refusal, combination_refusal, closure_refusal, block_refusal, bits_refusal}
use Rattle.dch_config.specs.Bearers.{check_refusal, pdu_refusal, window_refusal}

-- of the numbers of channels, formats and combinations
abbrev pub count_refusals : Side → Side → List (Option ConfigError)
count_refusals up down =
    channel_count_refusal Up up ∷ channel_count_refusal Down down
    ∷ format_count_refusal Up up ∷ format_count_refusal Down down
    ∷ idle_refusal Up up ∷ idle_refusal Down down
    ∷ combination_count_refusal Up up ∷ combination_count_refusal Down down ∷ []

unfoldable pub first_count_refusal : Side → Side → Option ConfigError
first_count_refusal up down = first_refusal (count_refusals up down)

-- of the combinations and the blocks
abbrev pub combination_refusals : Side → Side → List (Option ConfigError)
combination_refusals up down =
    combination_refusal Up up ∷ combination_refusal Down down
    ∷ closure_refusal Up up ∷ closure_refusal Down down
    ∷ block_refusal Up up ∷ block_refusal Down down ∷ []

unfoldable pub first_combination_refusal : Side → Side → Option ConfigError
first_combination_refusal up down = first_refusal (combination_refusals up down)

-- of the bearers
abbrev pub bearer_refusals : Config → List (Option ConfigError)
bearer_refusals config = check_refusal config ∷ pdu_refusal config ∷ window_refusal config ∷ []

unfoldable pub first_bearer_refusal : Config → Option ConfigError
first_bearer_refusal config = first_refusal (bearer_refusals config)

-- of the coded bits
abbrev pub bits_refusals : Side → Side → List (Option ConfigError)
bits_refusals up down = bits_refusal Up up ∷ bits_refusal Down down ∷ []

unfoldable pub first_bits_refusal : Side → Side → Option ConfigError
first_bits_refusal up down = first_refusal (bits_refusals up down)

-- the first of all
abbrev pub limit_refusals : Config → List (Option ConfigError)
limit_refusals config =
    first_count_refusal config.uplink.side config.downlink.side
    ∷ first_combination_refusal config.uplink.side config.downlink.side
    ∷ first_bearer_refusal config
    ∷ first_bits_refusal config.uplink.side config.downlink.side ∷ []

-- the first limit that a configuration breaks, in the order in which they are looked at
unfoldable pub limit_refusal : Config → Option ConfigError
limit_refusal config = first_refusal (limit_refusals config)
