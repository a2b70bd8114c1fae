-- Layer 2 of one end, by itself: what happens to it, one event after another.
use Rattle.std.specs.Prelude.{◌≡◌, ℕ, List, [], ◌∷◌, Bool}
use Rattle.dch_bits.specs.declared.bit.Bit.{Bit}
use Rattle.dch_types.specs.declared.channel.Dir.{Dir}
use Rattle.dch_types.specs.declared.config.Config.{Config}
use Rattle.dch_layer2.specs.Layers.{Came, Layer, blocks, offers, takes, ticks}
use Rattle.dch_layer2.specs.Starting.{IsStart}

-- a unit is offered to a bearer, a combination is blocked or free, the timers tick, blocks come on a channel, of which
-- the first is block k, or TTIs start at a CFN
pub data Event : Type 0 where
  OfferedUnit : (bearer : ℕ) → (octets : List ℕ) → (bits : List Bit) → Event
  BlockedCombination : (combination : ℕ) → (on : Bool) → Event
  Ticked : Event
  CameOn : (channel k : ℕ) → (came : List Came) → Event
  Started : (cfn : ℕ) → Event

-- what it is after an event, where the end sends in one direction and receives in the other
abbrev pub Steps : Config → Dir → Dir → Layer → Event → Layer → Type 0
Steps config out into old (OfferedUnit b octets bits) new = new ≡ (offers config out b octets bits old).layer
Steps config out into old (BlockedCombination c on) new = new ≡ blocks c on old
Steps config out into old Ticked new = new ≡ ticks config old
Steps config out into old (CameOn i k came) new = new ≡ (takes config into i k came old).layer
Steps config out into old (Started cfn) new = IsStart config out cfn old new

-- an event, and what comes after it
pub record EndStep (config : Config) (out into : Dir) (Rest : Layer → Type 0) (old : Layer)
    (event : Event) : Type 0 where
  pub next : Layer
  pub step : Steps config out into old event next
  pub later : Rest next

-- the events lead from a layer to another one
abbrev pub Reaches : Config → Dir → Dir → Layer → List Event → Layer → Type 0
Reaches config out into old [] new = new ≡ old
Reaches config out into old (event ∷ events) new = EndStep config out into
    (λ next. Reaches config out into next events new) old event
