-- What the parts of a network controller do in a step, each by itself.
use Rattle.std.specs.Prelude.{◌≡◌, ◌<◌, ◌≤◌, ℕ, List, Bool, true, false, Option, Some, None, length}
use Rattle.dch_types.specs.declared.channel.Dir.TheVariants.{Up, Down}
use Rattle.dch_types.specs.declared.config.Config.{Config}
use Rattle.dch_types.specs.Parts.{channel_at}
use Rattle.dch_types.specs.Timing.{set_frames, starts}
use Rattle.dch_accept.specs.Blocks.{Held}
use Rattle.dch_accept.specs.HeldSets.{HeldSet, held_at}
use Rattle.dch_accept.specs.Plans.{Planned}
use Rattle.dch_iub.specs.Answers.{IsCause}
use Rattle.dch_iub.specs.Forms.{IsReadForm, IsWrittenForm}
use Rattle.dch_iub.specs.declared.error.IubError.{IubError}
use Rattle.dch_indication.specs.Lines.{IubBad, Line}
use Rattle.dch_indication.specs.Told.{Told}
use Rattle.dch_node.specs.IubFrames.{refusal_number}
use Rattle.dch_txframes.specs.Octets.{AreOctets}
use Rattle.dch_txframes.specs.Opened.{AreTxBuffersOf, IsTxBufferOf}
use Rattle.dch_txframes.specs.Sending.{sent_of}
use Rattle.dch_txframes.specs.Values.{IubTxBuffer}
use Rattle.dch_layer2.specs.Bounded.{HasRead}
use Rattle.dch_layer2.specs.Values.{LayerRunning}
use Rattle.dch_rnc.specs.Opened.{AreRxSetsOf}
use Rattle.dch_rnc.specs.State.{set_readings}
use Rattle.dch_rnc.specs.Steps.{sent_line, sent_lines}
use Rattle.dch_rnc.specs.Values.{rx_set_at}

-- layer 2 took the readings of all channels of a set
abbrev pub TakesSet : {S : Type 0} → (S → Line → S → Type 0) → Planned → ℕ → HeldSet → LayerRunning → LayerRunning → S
    → S → Type 0
TakesSet shows planned set held old new before after =
    HasRead shows planned.config Up (set_readings planned.config.uplink.side set held)
    (length planned.config.uplink.side.channels) old new before after

-- blocks that were read of a frame
pub record IsFilled (planned : Planned) (set : ℕ) (octets : List ℕ) (held : HeldSet) : Type 0 where
  pub cfn : ℕ
  pub qe : ℕ
  pub read : IsReadForm planned.config Up set octets cfn qe held

-- a frame was read, and layer 2 took its blocks
pub record IsTaken {S : Type 0} (shows : S → Line → S → Type 0) (planned : Planned) (set : ℕ) (octets : List ℕ)
    (held : HeldSet) (old new : LayerRunning) (before after : S) : Type 0 where
  pub filled : IsFilled planned set octets held
  pub takes : TakesSet shows planned set held old new before after

-- or refused, which is told
pub record IsRefused {S : Type 0} (shows : S → Line → S → Type 0) (planned : Planned) (set : ℕ) (octets : List ℕ)
    (old new : LayerRunning) (before after : S) : Type 0 where
  pub error : IubError
  pub cause : IsCause planned.config Up set octets error
  pub same : new ≡ old
  pub shown : shows before (IubBad Up set (refusal_number error)) after

abbrev pub Answers : {S : Type 0} → (S → Line → S → Type 0) → Planned → ℕ → List ℕ → Bool → HeldSet → LayerRunning
    → LayerRunning → S → S → Type 0
Answers shows planned set octets true held old new before after =
    IsTaken shows planned set octets held old new before after
Answers shows planned set octets false held old new before after =
    IsRefused shows planned set octets old new before after

-- an Iub frame came for a set, which was read or not
pub record Receives {S : Type 0} (shows : S → Line → S → Type 0) (planned : Planned) (set : ℕ) (octets : List ℕ)
    (read : Bool) (rx_sets : List HeldSet) (old new : LayerRunning) (before after : S) : Type 0 where
  pub few : set < 8
  pub opened : AreRxSetsOf planned rx_sets
  pub answers : Answers shows planned set octets read (rx_set_at rx_sets set) old new before after

-- the same format and bits
pub record IsSameBlocks (given held : Held) : Type 0 where
  pub format : held.format ≡ given.format
  pub bits : held.bits ≡ given.bits

-- of the first channels those of a set have the blocks that layer 2 gave to them
abbrev pub AreFilledTo : Config → ℕ → ℕ → LayerRunning → HeldSet → Type 0
AreFilledTo config count set v held =
    (i : ℕ) → i < count → (channel_at config.downlink.side i).set ≡ set
    → IsSameBlocks (held_at v.given i) (held_at held.blocks i)

-- all channels of a set
abbrev pub AreFilled : Config → ℕ → LayerRunning → HeldSet → Type 0
AreFilled config set v held = AreFilledTo config (length config.downlink.side.channels) set v held

-- the Iub frame of what layer 2 gave to the channels of a set
pub record IsFrameOf (config : Config) (cfn : ℕ) (v : LayerRunning) (set : ℕ) (octets : List ℕ) : Type 0 where
  pub held : HeldSet
  pub filled : AreFilled config set v held
  pub whole : AreOctets octets
  pub written : IsWrittenForm config Down set octets cfn 0 held

-- a set whose TTI starts gives its frame, and no other one does
abbrev pub Gives : Config → ℕ → LayerRunning → ℕ → Option (List ℕ) → Type 0
Gives config cfn v set None = starts (set_frames config.downlink.side set) cfn ≡ false
Gives config cfn v set (Some octets) = (starts (set_frames config.downlink.side set) cfn ≡ true)
    × IsFrameOf config cfn v set octets

-- a set was served
pub record Serves {S : Type 0} (shows : S → Line → S → Type 0) (planned : Planned) (cfn : ℕ) (v : LayerRunning)
    (set : ℕ) (tx_buffer : IubTxBuffer) (before after : S) : Type 0 where
  pub opened : IsTxBufferOf planned Down set tx_buffer
  pub gives : Gives planned.config cfn v set tx_buffer.sent
  pub told : Told shows before (sent_line set tx_buffer.sent) after

-- the first sets were served, and the others send nothing
pub record AreServed {S : Type 0} (shows : S → Line → S → Type 0) (planned : Planned) (cfn : ℕ) (v : LayerRunning)
    (count : ℕ) (tx_buffers : List IubTxBuffer) (before after : S) : Type 0 where
  pub opened : AreTxBuffersOf planned Down tx_buffers
  pub sets : (s : ℕ) → s < count → Gives planned.config cfn v s (sent_of tx_buffers s)
  pub later : (s : ℕ) → count ≤ s → s < 8 → sent_of tx_buffers s ≡ None
  pub told : Told shows before (sent_lines (sent_of tx_buffers) count) after
