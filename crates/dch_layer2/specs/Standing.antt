-- When layer 2 of an end that runs stands for that of the definitions.
use Rattle.std.specs.Prelude.{◌≡◌, ◌<◌, ◌≤◌, ℕ, List, IsSome, length}
use Rattle.dch_types.specs.declared.channel.Dir.{Dir}
use Rattle.dch_types.specs.declared.config.Config.{Config}
use Rattle.dch_types.specs.Parts.{side_of}
use Rattle.dch_accept.specs.HeldSets.{held_at}
use Rattle.dch_layer2.specs.Bearings.{Bearing, channel_of, ticked}
use Rattle.dch_layer2.specs.Layers.{Layer, opened_layer}
use Rattle.dch_layer2.specs.Starting.{IsStart}
use Rattle.dch_layer2.specs.BearerStanding.{Represents as StandsFor}
use Rattle.dch_layer2.specs.declared.bearer.Bearer.{Bearer}
use Rattle.dch_layer2.specs.Opening.{IsGiven}
use Rattle.dch_layer2.specs.Sharing.{HasBits}
use Rattle.dch_layer2.specs.Values.{LayerRunning, entity_at}

-- each bearer stands for its bearing, in which no unit is empty, and the rest is as it is
pub record Represents (config : Config) (layer : Layer) (v : LayerRunning) : Type 0 where
  pub all : length v.bearers ≡ length config.bearers
  pub bearers : (b : ℕ) → b < length config.bearers
      → StandsFor config v.out v.into b (layer.bearings b) (entity_at v.bearers b)
  pub bits : (b : ℕ) → b < length config.bearers → HasBits (layer.bearings b)
  pub blocked : v.blocked ≡ layer.blocked
  pub running : v.running ≡ layer.running
  pub runs : v.running < length (side_of config v.out).combinations
  pub listed : length v.blocked ≡ length (side_of config v.out).combinations
  pub given_all : length v.given ≡ length (side_of config v.out).channels
  pub given : (i : ℕ) → i < length (side_of config v.out).channels
      → IsGiven config v.out i (layer.given i) (held_at v.given i)
  pub heads : length v.heads ≡ length config.bearers
  pub room : length v.unit ≡ 1500

-- a bearer that is there has a channel to send on
pub record CanOffer (v : LayerRunning) (b : ℕ) : Type 0 where
  pub config : Config
  pub layer : Layer
  pub stands : Represents config layer v
  pub there : b < length config.bearers
  pub sends : IsSome (channel_of config v.out b)

-- the timers of a bearer tick, whatever it stands for
abbrev pub IsTicked : Bearer → Bearer → Type 0
IsTicked old new = (config : Config) (out into : Dir) (b : ℕ) (bearing : Bearing)
    → StandsFor config out into b bearing old → StandsFor config out into b (ticked config b bearing) new

pub record AreTicked (old new : List Bearer) : Type 0 where
  pub all : length new ≡ length old
  pub each : (b : ℕ) → b < length old → IsTicked (entity_at old b) (entity_at new b)

-- and so far only those of the first bearers
pub record AreTickedTo (count : ℕ) (old new : List Bearer) : Type 0 where
  pub all : length new ≡ length old
  pub each : (b : ℕ) → b < length old → b < count → IsTicked (entity_at old b) (entity_at new b)
  pub later : (b : ℕ) → count ≤ b → entity_at new b ≡ entity_at old b

-- opened at an end that sends in one direction and receives in the other
pub record IsOpened (config : Config) (out into : Dir) (v : LayerRunning) : Type 0 where
  pub sends : v.out ≡ out
  pub receives : v.into ≡ into
  pub stands : Represents config (opened_layer config out) v

-- the directions in which it sends and receives stay
pub record IsSameEnd (old new : LayerRunning) : Type 0 where
  pub sends : new.out ≡ old.out
  pub receives : new.into ≡ old.into

-- it stands for layer 2 of this configuration
pub record IsLayerOf (config : Config) (v : LayerRunning) : Type 0 where
  pub layer : Layer
  pub stands : Represents config layer v

-- the TTIs that start at a CFN have started
pub record HasStarted (config : Config) (cfn : ℕ) (old : Layer) (v : LayerRunning) : Type 0 where
  pub next : Layer
  pub start : IsStart config v.out cfn old next
  pub stands : Represents config next v
