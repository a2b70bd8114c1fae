-- One step of a network controller: what it knows afterwards, what it reports, and what it sends.
use Rattle.std.specs.Prelude.{◌≡◌, ◌<◌, ◌⊎◌, ◌++◌, ℕ, zero, suc, List, [], ◌∷◌, Option, Some, None, true, false, length}
use Rattle.dch_bits.specs.declared.bit.Bit.{Bit}
use Rattle.dch_types.specs.declared.channel.Dir.TheVariants.{Up, Down}
use Rattle.dch_types.specs.declared.config.Config.{Config}
use Rattle.dch_types.specs.Timing.{set_frames, starts}
use Rattle.dch_accept.specs.HeldSets.{HeldSet, held_at}
use Rattle.dch_accept.specs.Plans.{Planned}
use Rattle.dch_iub.specs.Answers.{IsCause}
use Rattle.dch_iub.specs.Forms.{IsReadForm, IsWrittenForm}
use Rattle.dch_iub.specs.Shape.{ForSet}
use Rattle.dch_iub.specs.declared.error.IubError.{IubError}
use Rattle.dch_node.specs.IubFrames.{refusal_number}
use Rattle.dch_node.specs.Lines.{Iub, IubBad, Line}
use Rattle.dch_node.specs.Values.{Output, no_output, says}
use Rattle.dch_layer2.specs.Layers.{Layer, blocks, offers, ticks}
use Rattle.dch_txframes.specs.Octets.{AreOctets}
use Rattle.dch_layer2.specs.Starting.{IsStart}
use Rattle.dch_layer2.specs.Joined.{CarriesGiven}
use Rattle.dch_layer2.specs.Reading.{reads_below}
use Rattle.dch_rnc.specs.State.{Change, Event, OfferedUnit, BlockedCombination, IubFrame, Tick, State, changed, no_readings, set_readings, ticking, with_layer}

-- an Iub frame is read, whatever its CFN is, and the blocks of its channels go up in rising order of channels (TS
-- 25.427 6.2)
pub record IsReadFrame (planned : Planned) (old : State) (set : ℕ) (octets : List ℕ) (new : State)
    (output : Output) : Type 0 where
  pub cfn : ℕ
  pub qe : ℕ
  pub held : HeldSet
  pub read : IsReadForm planned.config Up set octets cfn qe held
  pub state : new ≡ record old {
    layer = (reads_below planned.config Up (set_readings planned.config.uplink.side set held)
        (length planned.config.uplink.side.channels) old.layer).layer;
    readings = set_readings planned.config.uplink.side set held;
  }
  pub reported : output ≡ says (reads_below planned.config Up (set_readings planned.config.uplink.side set held)
      (length planned.config.uplink.side.channels) old.layer).lines

-- it is refused: this is reported, and nothing changes
pub record IsRefusedFrame (planned : Planned) (old : State) (set : ℕ) (octets : List ℕ) (new : State)
    (output : Output) : Type 0 where
  pub error : IubError
  pub cause : IsCause planned.config Up set octets error
  pub state : new ≡ record old { readings = no_readings }
  pub reported : output ≡ says (IubBad Up set (refusal_number error) ∷ [])

abbrev pub IsArrival : Planned → State → ℕ → List ℕ → State → Output → Type 0
IsArrival planned old set octets new output = IsReadFrame planned old set octets new output
    ⊎ IsRefusedFrame planned old set octets new output

-- a downlink Iub frame of a set: the blocks that its channels were given, and the CFN at which their TTI starts (TS
-- 25.427 6.2)
pub record IsDownlinkFrame (config : Config) (cfn : ℕ) (layer : Layer) (set : ℕ) (octets : List ℕ) : Type 0 where
  pub held : HeldSet
  pub given : ForSet config.downlink.side set (λ i. CarriesGiven (layer.given i) (held_at held.blocks i))
  pub whole : AreOctets octets
  pub written : IsWrittenForm config Down set octets cfn 0 held

-- a set whose TTI starts gives a frame, and no other one does
abbrev pub IsSent : Config → ℕ → Layer → ℕ → Option (List ℕ) → Type 0
IsSent config cfn layer set None = starts (set_frames config.downlink.side set) cfn ≡ false
IsSent config cfn layer set (Some octets) = (starts (set_frames config.downlink.side set) cfn ≡ true)
    × IsDownlinkFrame config cfn layer set octets

-- the line on a frame, and those of the first sets
abbrev pub sent_line : ℕ → Option (List ℕ) → List Line
sent_line set None = []
sent_line set (Some octets) = Iub Down set octets ∷ []

abbrev pub sent_lines : (ℕ → Option (List ℕ)) → ℕ → List Line
sent_lines iub zero = []
sent_lines iub (suc s) = sent_lines iub s ++ sent_line s (iub s)

-- the timers tick, TTIs start, each set whose TTI starts gives a frame, and the CFN goes on
pub record IsTick (planned : Planned) (old new : State) (output : Output) : Type 0 where
  pub start : IsStart planned.config Down old.cfn (ticks planned.config old.layer) new.layer
  pub state : new ≡ ticking old new.layer
  pub iub : (s : ℕ) → s < 8 → IsSent planned.config old.cfn new.layer s (output.iub s)
  pub reported : output.lines ≡ sent_lines output.iub 8
  pub no_radio : output.sent ≡ None

-- a unit is offered
pub record IsOffer (planned : Planned) (old : State) (b : ℕ) (octets : List ℕ) (bits : List Bit) (new : State)
    (output : Output) : Type 0 where
  pub state : new ≡ with_layer old (offers planned.config Down b octets bits old.layer).layer
  pub reported : output ≡ says (offers planned.config Down b octets bits old.layer).lines

-- another configuration becomes active, without a word
pub record IsChange (planned : Planned) (old new : State) (output : Output) : Type 0 where
  pub state : new ≡ changed planned old
  pub quiet : output ≡ no_output

-- one step, in the configuration that is active
abbrev pub Steps : State → Event → State → Output → Type 0
Steps old (OfferedUnit b octets bits) new output = IsOffer old.planned old b octets bits new output
Steps old (BlockedCombination c on) new output = (new ≡ with_layer old (blocks c on old.layer)) × (output ≡ says [])
Steps old (IubFrame set octets) new output = IsArrival old.planned old set octets new output
Steps old Tick new output = IsTick old.planned old new output
Steps old (Change planned) new output = IsChange planned old new output
