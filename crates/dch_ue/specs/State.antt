-- What a terminal knows between two events: the configuration that is active, the CFN, the downlink radio frames that
-- came, layer 2, and what the last step read.
use Rattle.std.specs.Prelude.{◌+◌, ◌%◌, ◌==◌, ℕ, List, Bool, Option, None, if◌then◌else◌}
use Rattle.dch_bits.specs.declared.bit.Bit.{Bit}
use Rattle.dch_types.specs.declared.channel.Dir.TheVariants.{Up}
use Rattle.dch_accept.specs.Plans.{Planned}
use Rattle.dch_node.specs.Values.{Radio}
use Rattle.dch_layer2.specs.Layers.{Layer, changed_layer, opened_layer}
use Rattle.dch_layer2.specs.Reading.{Nothing, Reading}

-- the configuration that is active, the CFN of the radio frame that is on, the downlink radio frame that came for it,
-- those of the last 8 CFNs by their remainders modulo 8, layer 2, and what the last step read of each downlink channel
pub record State : Type 0 where
  pub planned : Planned
  pub cfn : ℕ
  pub came : Option Radio
  pub frames : ℕ → Option Radio
  pub layer : Layer
  pub readings : ℕ → Reading

-- what happens at a terminal: a unit is offered to a bearer, a combination is blocked or free, the downlink radio frame
-- of the CFN comes, which may be missing, 10 ms have passed, or another configuration becomes active
pub data Event : Type 0 where
  OfferedUnit : (bearer : ℕ) → (octets : List ℕ) → (bits : List Bit) → Event
  BlockedCombination : (combination : ℕ) → (on : Bool) → Event
  DownlinkFrame : (frame : Option Radio) → Event
  Tick : Event
  Change : (planned : Planned) → Event

-- of no channel anything is read
abbrev pub no_readings : ℕ → Reading
no_readings i = Nothing

-- at opening every channel runs its idle format, no radio frame came, and nothing is read
abbrev pub opened_state : Planned → ℕ → State
opened_state planned first = record {
  planned = planned;
  cfn = first;
  came = None;
  frames = λ k. None;
  layer = opened_layer planned.config Up;
  readings = no_readings;
}

-- layer 2 becomes another one, and nothing is read
abbrev pub with_layer : State → Layer → State
with_layer old layer = record old { layer = layer; readings = no_readings }

-- a radio frame came for the CFN, or it is missing, in place of what came before
abbrev pub coming : State → Option Radio → State
coming old frame = record old { came = frame; readings = no_readings }

-- the radio frames of the last 8 CFNs, that of the CFN among them
abbrev pub frames_now : State → ℕ → Option Radio
frames_now old k = if k == old.cfn % 8 then old.came else old.frames k

-- the channels were read, layer 2 becomes another one, and the CFN goes on
abbrev pub ticking : State → (ℕ → Reading) → Layer → State
ticking old readings layer = record old {
  cfn = (old.cfn + 1) % 256;
  came = None;
  frames = frames_now old;
  layer = layer;
  readings = readings;
}

-- another configuration becomes active: every channel runs its idle format in it, no combination is blocked, no radio
-- frame came, and nothing is read. The bearers and the CFN stay
abbrev pub changed : Planned → State → State
changed planned old = record (opened_state planned old.cfn) { layer = changed_layer planned.config Up old.layer }
