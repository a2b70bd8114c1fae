-- The frames of a node that was opened for a configuration.
use Rattle.std.specs.Prelude.{◌≡◌, ◌<◌, ℕ, List, length}
use Rattle.dch_types.specs.declared.channel.Dir.{Dir}
use Rattle.dch_accept.specs.Frames.{IsOpenedFor}
use Rattle.dch_accept.specs.HeldSets.{IsSetOf}
use Rattle.dch_accept.specs.Plans.{Planned}
use Rattle.dch_iub.specs.Longest.{IsLongest}
use Rattle.dch_txframes.specs.declared.radio_tx_buffer.RadioTxBuffer.{RadioTxBuffer}
use Rattle.dch_txframes.specs.Values.{IubTxBuffer, tx_buffer_at}

-- an Iub frame of a set of a direction, with room for the longest one
pub record IsTxBufferOf (planned : Planned) (dir : Dir) (set : ℕ) (tx_buffer : IubTxBuffer) : Type 0 where
  pub held : IsSetOf planned.config dir set tx_buffer.held
  pub room : IsLongest planned.config dir set tx_buffer.room

-- one for each set
pub record AreTxBuffersOf (planned : Planned) (dir : Dir) (tx_buffers : List IubTxBuffer) : Type 0 where
  pub all : length tx_buffers ≡ 8
  pub each : (s : ℕ) → s < 8 → IsTxBufferOf planned dir s (tx_buffer_at tx_buffers s)

-- a radio frame of a direction, with room for the longest one
abbrev pub IsRadioTxOf : Planned → Dir → RadioTxBuffer → Type 0
IsRadioTxOf planned dir buffer = IsOpenedFor planned.config dir buffer.frame
