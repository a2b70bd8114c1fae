-- A radio frame that a node sends has as many TFCI bits as its direction.
use Rattle.std.proofs.Common.{◌≡◌, ◌∙◌, List, [], length, ap, Bool, true, false, Option, Some, None}
use Rattle.dch_bits.specs.declared.bit.Bit.{Bit}
use Rattle.dch_types.specs.declared.channel.Dir.{Dir}
use Rattle.dch_accept.specs.Frames.{tfci_bits}
use Rattle.dch_accept.specs.Plans.{Planned}
use Rattle.dch_accept.specs.declared.frame.FrameView.{FrameView}
use Rattle.dch_node.specs.Values.{Radio}
use Rattle.dch_tti.specs.RxFrames.{HasTfci}
use Rattle.dch_txframes.specs.Lending.{radio_of}
use Rattle.dch_txframes.specs.Opened.{IsRadioTxOf}
use Rattle.dch_txframes.specs.Values.{radio_if, radio_sent}
use Rattle.dch_txframes.specs.declared.radio_tx_buffer.RadioTxBuffer.{RadioTxBuffer}

abbrev tfci_of : Option Radio → List Bit
tfci_of None = []
tfci_of (Some radio) = radio.tfci

pub sent_tfci : (planned : Planned) (dir : Dir) (buffer : RadioTxBuffer) (frame : Option FrameView) → IsRadioTxOf planned dir buffer → radio_of frame ≡ radio_sent buffer → HasTfci planned dir frame
sent_tfci planned dir buffer None opened same = tt
sent_tfci planned dir buffer (Some frame) opened same = go buffer.sent same
  where
    go : (sent : Bool) → ◌≡◌ {A = Option Radio} (Some (record { tfci = frame.tfci.now; cells = frame.cells.now })) (radio_if sent buffer.frame) → length frame.tfci.now ≡ tfci_bits planned.config dir
    go true is = ap (λ (radio : Option Radio). length (tfci_of radio)) is ∙ opened.tfci
    go false is = cc is
