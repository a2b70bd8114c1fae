-- The blocks that layer 2 gave to a channel, as the bits of an Iub frame.
use Rattle.std.proofs.Common.{◌≡◌, ◌∙◌, ℕ, List, Option, Some, None}
use Rattle.dch_types.specs.declared.channel.Dir.TheVariants.{Down}
use Rattle.dch_types.specs.declared.config.Config.{Config}
use Rattle.dch_accept.specs.Blocks.{Held}
use Rattle.dch_accept.specs.HeldSets.{held_at}
use Rattle.dch_layer2.specs.Layers.{Given, Layer}
use Rattle.dch_layer2.specs.Joined.{CarriesGiven}
use Rattle.dch_layer2.specs.Standing.{Represents as StandsFor}
use Rattle.dch_layer2.specs.Values.{LayerRunning}
use Rattle.dch_layer2.proofs.Joined.{given_carries}
use Rattle.dch_rnc.specs.Moves.{Gives, IsFrameOf, IsSameBlocks}
use Rattle.dch_rnc.specs.Steps.{IsDownlinkFrame, IsSent}

-- blocks with the same format and bits carry them too
carries_same : (given : Given) (held own : Held) → CarriesGiven given held → IsSameBlocks held own → CarriesGiven given own
carries_same given held own is same = record { format = same.format ∙ is.format; bits = same.bits ∙ is.bits }

frame_of : (config : Config) (cfn : ℕ) (layer : Layer) (v : LayerRunning) (set : ℕ) (octets : List ℕ) → StandsFor config layer v → v.out ≡ Down → IsFrameOf config cfn v set octets → IsDownlinkFrame config cfn layer set octets
frame_of config cfn layer v set octets is down frame = record {
  held = frame.held;
  given = λ i inside member. carries_same (layer.given i) (held_at v.given i) (held_at frame.held.blocks i) (given_carries config Down layer v i is down inside) (frame.filled i inside member);
  whole = frame.whole;
  written = frame.written;
}

-- the frame that a set gives is the one of the definition
pub gives_sent : (config : Config) (cfn : ℕ) (layer : Layer) (v : LayerRunning) (set : ℕ) (sent : Option (List ℕ)) → StandsFor config layer v → v.out ≡ Down → Gives config cfn v set sent → IsSent config cfn layer set sent
gives_sent config cfn layer v set None is down gives = gives
gives_sent config cfn layer v set (Some octets) is down gives = (gives.0, frame_of config cfn layer v set octets is down gives.1)
