-- What the parts of a terminal do in a step, each by itself.
use Rattle.std.specs.Prelude.{◌≡◌, ◌≢◌, ◌<◌, ◌≤◌, ◌%◌, ◌++◌, ℕ, List, Option, None, true, false, length}
use Rattle.dch_types.specs.declared.channel.Dir.TheVariants.{Up, Down}
use Rattle.dch_types.specs.declared.config.Config.{Config}
use Rattle.dch_types.specs.Parts.{channel_at}
use Rattle.dch_types.specs.Timing.{starts}
use Rattle.dch_accept.specs.HeldSets.{held_at}
use Rattle.dch_accept.specs.Plans.{Planned}
use Rattle.dch_indication.specs.Told.{Told}
use Rattle.dch_tti.specs.Loaded.{Loaded, loaded_at}
use Rattle.dch_tti.specs.RxFrames.{RxFrames, rx_frame_at}
use Rattle.dch_ulphy.specs.Frames.{IsFrame}
use Rattle.dch_ulphy.specs.Loaded.{IsLoaded, IsTtiOf}
use Rattle.dch_node.specs.Lines.{Line, Phy}
use Rattle.dch_node.specs.RxFrames.{KeepsRadio}
use Rattle.dch_node.specs.Values.{Radio}
use Rattle.dch_layer2.specs.Layers.{Layer}
use Rattle.dch_layer2.specs.Bounded.{HasRead, IsTti}
use Rattle.dch_layer2.specs.BoundedBearers.{AreBounded}
use Rattle.dch_layer2.specs.Reading.{Reading, reads, reads_below}
use Rattle.dch_layer2.specs.Standing.{IsSameEnd, Represents as StandsFor}
use Rattle.dch_layer2.specs.Values.{LayerRunning}
use Rattle.dch_steptext.specs.Limits.{AreLimited}
use Rattle.dch_ue.specs.Opened.{AreTtisOf, IsReceiverOf, IsTransmitterOf}
use Rattle.dch_ue.specs.Steps.{IsReading}
use Rattle.dch_ue.specs.Values.{DownlinkReceiver, RxTti, UplinkTransmitter, reading_of, readings_of, tti_at}

-- a radio frame is kept for a CFN, or that it is missing
pub record Hears (planned : Planned) (cfn : ℕ) (radio : Option Radio) (old new : RxFrames) : Type 0 where
  pub last : new.cfn ≡ cfn
  pub kept : KeepsRadio planned Down radio (rx_frame_at new.frames (cfn % 8))
  pub others : (k : ℕ) → k ≢ cfn % 8 → rx_frame_at new.frames k ≡ rx_frame_at old.frames k

-- the radio frame of a CFN came, in place of what came for it before
pub record Comes (planned : Planned) (cfn : ℕ) (radio : Option Radio) (old new : DownlinkReceiver) : Type 0 where
  pub opened : IsReceiverOf planned new
  pub hears : Hears planned cfn radio old.rx_frames new.rx_frames
  pub pushed : new.pushed ≡ true
  pub ttis : new.ttis ≡ old.ttis

-- the radio frame of a CFN is there: where none came, it is missing. For the next CFN none came yet
pub record Completes (planned : Planned) (cfn : ℕ) (old new : DownlinkReceiver) : Type 0 where
  pub opened : IsReceiverOf planned new
  pub missing : old.pushed ≡ false → Hears planned cfn None old.rx_frames new.rx_frames
  pub there : old.pushed ≡ true → new.rx_frames ≡ old.rx_frames
  pub pushed : new.pushed ≡ false
  pub ttis : new.ttis ≡ old.ttis

-- nothing is shown as read of the first channels
pub record AreClearedTo (count : ℕ) (old new : List RxTti) : Type 0 where
  pub all : length new ≡ length old
  pub each : (i : ℕ) → i < count → tti_at new i ≡ record (tti_at old i) { outcome = None }
  pub later : (i : ℕ) → count ≤ i → tti_at new i ≡ tti_at old i

-- the first channels were read, and no other ones
pub record AreReadTo (planned : Planned) (rx_frames : RxFrames) (count : ℕ) (ttis : List RxTti) : Type 0 where
  pub opened : AreTtisOf planned ttis
  pub readings : (i : ℕ) → i < count → IsReading planned rx_frames i (reading_of (tti_at ttis i))
  pub later : (i : ℕ) → count ≤ i → (tti_at ttis i).outcome ≡ None

-- layer 2 took what was read of a channel
pub record Gives {S : Type 0} (shows : S → Line → S → Type 0) (config : Config) (i : ℕ) (reading : Reading)
    (old new : LayerRunning) (before after : S) : Type 0 where
  pub ends : IsSameEnd old new
  pub stands : (layer : Layer) → StandsFor config layer old
      → StandsFor config (reads config Down i reading layer).layer new
  pub told : (layer : Layer) → StandsFor config layer old
      → Told shows before (reads config Down i reading layer).lines after

-- the first channels were read, and layer 2 took what was read
pub record AreRead {S : Type 0} (shows : S → Line → S → Type 0) (planned : Planned) (rx_frames : RxFrames) (count : ℕ)
    (ttis : List RxTti) (old new : LayerRunning) (before after : S) : Type 0 where
  pub opened : AreTtisOf planned ttis
  pub readings : (i : ℕ) → i < count → IsReading planned rx_frames i (reading_of (tti_at ttis i))
  pub later : (i : ℕ) → count ≤ i → (tti_at ttis i).outcome ≡ None
  pub read : HasRead shows planned.config Down (readings_of ttis) count old new before after

-- the downlink radio frame of a CFN is taken, and the channels whose TTI ends with it are read
pub record Receives {S : Type 0} (shows : S → Line → S → Type 0) (planned : Planned) (cfn : ℕ)
    (old new : DownlinkReceiver) (layer new_layer : LayerRunning) (before after : S) : Type 0 where
  pub heard : DownlinkReceiver
  pub completes : Completes planned cfn old heard
  pub rx_frames : new.rx_frames ≡ heard.rx_frames
  pub pushed : new.pushed ≡ heard.pushed
  pub opened : IsReceiverOf planned new
  pub reads : AreRead shows planned new.rx_frames (length planned.config.downlink.side.channels)
      new.ttis layer new_layer before after

-- the first channels whose TTI starts at a CFN are loaded with what layer 2 gave to them, and no other ones
pub record AreLoadedTo (planned : Planned) (cfn count : ℕ) (layer : LayerRunning) (old new : List Loaded) : Type 0 where
  pub opened : IsTtiOf planned new
  pub on : (i : ℕ) → i < count → starts (channel_at planned.config.uplink.side i).frames cfn ≡ true
      → IsLoaded planned i (held_at layer.given i).format (held_at layer.given i).bits (loaded_at new i)
  pub off : (i : ℕ) → i < count → starts (channel_at planned.config.uplink.side i).frames cfn ≡ false → loaded_at new i
      ≡ loaded_at old i
  pub later : (i : ℕ) → count ≤ i → loaded_at new i ≡ loaded_at old i

-- the radio frame of a CFN was written in a combination of what is loaded, and is sent and told
pub record Sends {S : Type 0} (shows : S → Line → S → Type 0) (planned : Planned) (cfn combination : ℕ)
    (old new : UplinkTransmitter) (before after : S) : Type 0 where
  pub opened : IsTransmitterOf planned new
  pub running : new.running ≡ old.running
  pub sent : new.radio.sent ≡ true
  pub written : IsFrame planned new.running cfn combination new.radio.frame
  pub few : length new.radio.frame.cells ≤ 57600
  pub shown : shows before (Phy Up new.radio.frame.tfci new.radio.frame.cells) after

-- the TTIs that start are loaded, and the radio frame of the CFN is sent in the combination that runs
pub record Transmits {S : Type 0} (shows : S → Line → S → Type 0) (planned : Planned) (cfn : ℕ) (layer : LayerRunning)
    (old new : UplinkTransmitter) (before after : S) : Type 0 where
  pub loaded : UplinkTransmitter
  pub loads : AreLoadedTo planned cfn (length planned.config.uplink.side.channels) layer old.running loaded.running
  pub sends : Sends shows planned cfn layer.running loaded new before after

-- what is told in a step: what layer 2, whose bearers are limited, tells of TTIs of the first channels, and no more
-- than one line that is short or on a radio frame
pub record AreLimitedLines (config : Config) (lines : List Line) : Type 0 where
  pub layer : Layer
  pub bounded : AreBounded config layer
  pub readings : ℕ → Reading
  pub count : ℕ
  pub some : count ≤ length config.downlink.side.channels
  pub ttis : (i : ℕ) → i < count → IsTti config Down i (readings i)
  pub last : List Line
  pub limited : AreLimited 1 last
  pub are : lines ≡ (reads_below config Down readings count layer).lines ++ last
