-- What a network controller knows between two events: the configuration that is active, the CFN, layer 2, and what the
-- last step read.
use Rattle.std.specs.Prelude.{◌+◌, ◌%◌, ◌&&◌, ◌==◌, ℕ, List, Bool, if◌then◌else◌, length, nat_lt}
use Rattle.dch_bits.specs.declared.bit.Bit.{Bit}
use Rattle.dch_types.specs.declared.channel.Dir.TheVariants.{Down}
use Rattle.dch_types.specs.declared.channel.Side.{Side}
use Rattle.dch_types.specs.Parts.{channel_at}
use Rattle.dch_accept.specs.HeldSets.{HeldSet, held_at}
use Rattle.dch_accept.specs.Plans.{Planned}
use Rattle.dch_layer2.specs.Layers.{Layer, changed_layer, opened_layer}
use Rattle.dch_layer2.specs.Reading.{Nothing, Read, Reading}

-- the configuration that is active, the CFN of the TTIs that start with the next tick, layer 2, and what the last step
-- read of each uplink channel
pub record State : Type 0 where
  pub planned : Planned
  pub cfn : ℕ
  pub layer : Layer
  pub readings : ℕ → Reading

-- what happens at a network controller: a unit is offered to a bearer, a combination is blocked or free, an Iub frame
-- arrives for a set of uplink channels, 10 ms have passed, or a second configuration becomes active
pub data Event : Type 0 where
  OfferedUnit : (bearer : ℕ) → (octets : List ℕ) → (bits : List Bit) → Event
  BlockedCombination : (combination : ℕ) → (on : Bool) → Event
  IubFrame : (set : ℕ) → (octets : List ℕ) → Event
  Tick : Event
  Change : (planned : Planned) → Event

-- of no channel anything is read
abbrev pub no_readings : ℕ → Reading
no_readings i = Nothing

-- the channels of a set are read
abbrev pub set_readings : Side → ℕ → HeldSet → ℕ → Reading
set_readings side set held i = if nat_lt i (length side.channels) && (channel_at side i).set == set
    then Read (held_at held.blocks i) else Nothing

-- at opening every channel runs its idle format, and nothing is read
abbrev pub opened_state : Planned → ℕ → State
opened_state planned first = record {
  planned = planned;
  cfn = first;
  layer = opened_layer planned.config Down;
  readings = no_readings;
}

-- layer 2 becomes another one, and nothing is read
abbrev pub with_layer : State → Layer → State
with_layer old layer = record old { layer = layer; readings = no_readings }

-- and the CFN goes on
abbrev pub ticking : State → Layer → State
ticking old layer = record old { cfn = (old.cfn + 1) % 256; layer = layer; readings = no_readings }

-- another configuration is active: every channel runs its idle format, no combination is blocked, and nothing is read.
-- The bearers and the CFN stay
abbrev pub changed : Planned → State → State
changed planned old = record (opened_state planned old.cfn) { layer = changed_layer planned.config Down old.layer }
