-- Iub frames as they are sent and shown.
use Rattle.std.specs.Prelude.{◌≡◌, ◌<◌, ◌≤◌, ℕ, List, Option, Some, None, length}
use Rattle.dch_types.specs.declared.channel.Dir.{Dir}
use Rattle.dch_types.specs.declared.channel.Dir.TheVariants.{Up, Down}
use Rattle.dch_types.specs.declared.config.Config.{Config}
use Rattle.dch_accept.specs.Plans.{Planned}
use Rattle.dch_iub.specs.Forms.{IsWrittenForm}
use Rattle.dch_indication.specs.Lines.{Iub, Line}
use Rattle.dch_txframes.specs.Octets.{AreOctets}
use Rattle.dch_txframes.specs.Opened.{IsTxBufferOf}
use Rattle.dch_txframes.specs.Values.{IubTxBuffer, tx_buffer_at}

-- what each set sends
abbrev pub sent_of : List IubTxBuffer → ℕ → Option (List ℕ)
sent_of tx_buffers s = (tx_buffer_at tx_buffers s).sent

-- the transmit buffers of the first sets are new
pub record AreNewTxBuffers (planned : Planned) (dir : Dir) (count : ℕ) (tx_buffers : List IubTxBuffer) : Type 0 where
  pub all : length tx_buffers ≡ count
  pub each : (s : ℕ) → s < count → IsTxBufferOf planned dir s (tx_buffer_at tx_buffers s)
  pub quiet : (s : ℕ) → s < count → sent_of tx_buffers s ≡ None

-- the first transmit buffers show nothing any more
pub record AreClearedTo (count : ℕ) (old new : List IubTxBuffer) : Type 0 where
  pub all : length new ≡ length old
  pub each : (s : ℕ) → s < count → tx_buffer_at new s ≡ record (tx_buffer_at old s) { sent = None }
  pub later : (s : ℕ) → count ≤ s → tx_buffer_at new s ≡ tx_buffer_at old s

abbrev pub AreCleared : List IubTxBuffer → List IubTxBuffer → Type 0
AreCleared old new = AreClearedTo 8 old new

-- the quality estimate of a frame, which only uplink frames carry (TS 25.427 6.2)
abbrev pub qe_sent : Config → Dir → ℕ
qe_sent config Up = config.qe
qe_sent config Down = 0

-- the frame of a set's blocks is written and told
pub record SendsFrame {S : Type 0} (shows : S → Line → S → Type 0) (planned : Planned) (dir : Dir) (set cfn : ℕ)
    (old new : IubTxBuffer) (before after : S) : Type 0 where
  pub opened : IsTxBufferOf planned dir set new
  pub held : new.held ≡ old.held
  pub octets : List ℕ
  pub sent : new.sent ≡ Some octets
  pub whole : AreOctets octets
  pub written : IsWrittenForm planned.config dir set octets cfn (qe_sent planned.config dir) new.held
  pub shown : shows before (Iub dir set octets) after
