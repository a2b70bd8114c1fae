-- Where another configuration becomes active in layer 2 of an end.
use Rattle.std.specs.Prelude.{◌≡◌, ◌<◌, ◌≤◌, ℕ, List, false, length, replicate}
use Rattle.dch_types.specs.declared.channel.Dir.{Dir}
use Rattle.dch_types.specs.declared.config.Config.{Config}
use Rattle.dch_types.specs.Parts.{side_of}
use Rattle.dch_config.specs.Changes.{KeepsBearer}
use Rattle.dch_layer2.specs.Bearings.{Bearing}
use Rattle.dch_layer2.specs.Layers.{Layer}
use Rattle.dch_layer2.specs.BearerStanding.{CanGoOn as CanGoOnAlone, Represents as StandsFor}
use Rattle.dch_layer2.specs.declared.bearer.Bearer.{Bearer}
use Rattle.dch_layer2.specs.Opening.{AreIdle}
use Rattle.dch_layer2.specs.Standing.{Represents}
use Rattle.dch_layer2.specs.Values.{LayerRunning, NextLayer, entity_at}

-- the parts for a configuration that is to come: no combination is blocked, and each channel has its idle format
pub record IsNextLayer (config : Config) (out : Dir) (next : NextLayer) : Type 0 where
  pub blocked : next.blocked ≡ replicate (length (side_of config out).combinations) false
  pub given : AreIdle config out (length (side_of config out).channels) next.given

-- layer 2 stands for one of a first configuration, and each bearer of that is kept
pub record CanGoOn (config : Config) (v : LayerRunning) : Type 0 where
  pub first : Config
  pub layer : Layer
  pub stands : Represents first layer v
  pub keeps : (b : ℕ) → KeepsBearer first config b

-- each of the bearers can go on
abbrev pub CanAllGoOn : Config → Dir → List Bearer → Type 0
CanAllGoOn config out bearers = (b : ℕ) → b < length bearers → CanGoOnAlone config out (entity_at bearers b)

-- a bearer goes on, whatever it stands for
abbrev pub GoesOn : Config → Dir → Bearer → Bearer → Type 0
GoesOn config out old new =
    (first : Config) (into : Dir) (b : ℕ) (bearing : Bearing) → StandsFor first out into b bearing old
    → KeepsBearer first config b → b < length config.bearers → StandsFor config out into b bearing new

pub record AllGoOn (config : Config) (out : Dir) (old new : List Bearer) : Type 0 where
  pub all : length new ≡ length old
  pub each : (b : ℕ) → b < length old → GoesOn config out (entity_at old b) (entity_at new b)

-- and so far only the first ones
pub record AllGoOnTo (config : Config) (out : Dir) (count : ℕ) (old new : List Bearer) : Type 0 where
  pub all : length new ≡ length old
  pub each : (b : ℕ) → b < length old → b < count → GoesOn config out (entity_at old b) (entity_at new b)
  pub later : (b : ℕ) → count ≤ b → entity_at new b ≡ entity_at old b
