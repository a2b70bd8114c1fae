-- A terminal that shows nothing any more.
use Rattle.std.proofs.Common.{◌≡◌, ◌∙◌, length, ap, sym, subst, true, false}
use Rattle.std.specs.Prelude.{◌%◌}
use Rattle.dch_types.specs.declared.channel.Dir.TheVariants.{Down}
use Rattle.dch_accept.specs.Plans.{Planned}
use Rattle.dch_tti.specs.RxFrames.{RxFrames, rx_frame_at}
use Rattle.dch_node.specs.RxFrames.{KeepsRadio}
use Rattle.dch_ue.specs.Moves.{AreClearedTo}
use Rattle.dch_ue.specs.Opened.{AreNoted, IsNodeOf, IsTransmitterOf}
use Rattle.dch_ue.specs.Standing.{AreLoadedOn, HasFrames, IsAt, NothingShown}
use Rattle.dch_ue.specs.State.{State}
use Rattle.dch_ue.specs.Values.{DownlinkReceiver, Node, UplinkTransmitter}
use Rattle.dch_ue.proofs.Receiving.{cleared_opened, nothing_read}

-- the transmitter without its radio frame shown
abbrev pub hidden : UplinkTransmitter → UplinkTransmitter
hidden transmitter = record transmitter { radio = record transmitter.radio { sent = false } }

pub hidden_is : (planned : Planned) (node : Node) (transmitter : UplinkTransmitter) (receiver : DownlinkReceiver) → IsNodeOf planned node → transmitter ≡ hidden node.transmitter
    → AreClearedTo (length node.receiver.ttis) node.receiver.ttis receiver.ttis → receiver.rx_frames ≡ node.receiver.rx_frames → receiver.pushed ≡ node.receiver.pushed
    → IsNodeOf planned (record node { receiver = receiver; transmitter = transmitter })
hidden_is planned node transmitter receiver opened same cleared frames pushed = record {
  sends = opened.sends;
  receives = opened.receives;
  layer = opened.layer;
  receiver = cleared_opened planned node.receiver receiver opened.receiver cleared frames;
  transmitter = subst (λ (t : UplinkTransmitter). IsTransmitterOf planned t) (sym same) (record { running = opened.transmitter.running; radio = opened.transmitter.radio });
  noted = subst (λ (t : UplinkTransmitter). AreNoted planned node.cfn node.layer.running t.running) (sym same) opened.noted;
  last = λ (is : receiver.pushed ≡ true). ap (λ (rx : RxFrames). rx.cfn) frames ∙ opened.last (sym pushed ∙ is);
}

pub hidden_none : (node : Node) (transmitter : UplinkTransmitter) (receiver : DownlinkReceiver) → transmitter ≡ hidden node.transmitter → AreClearedTo (length node.receiver.ttis) node.receiver.ttis receiver.ttis
    → NothingShown (record node { receiver = receiver; transmitter = transmitter })
hidden_none node transmitter receiver same cleared = record {
  radio = ap (λ (t : UplinkTransmitter). t.radio.sent) same;
  read = nothing_read node.receiver.ttis receiver.ttis cleared;
}

-- the same radio frames are kept
frames_still : (planned : Planned) (state : State) (old new : DownlinkReceiver) → new.rx_frames ≡ old.rx_frames → new.pushed ≡ old.pushed → HasFrames planned state old → HasFrames planned state new
frames_still planned state old new frames pushed has = record {
  before = λ k few apart. subst (λ (rx : RxFrames). KeepsRadio planned Down (state.frames k) (rx_frame_at rx.frames k)) (sym frames) (has.before k few apart);
  last = λ (is : new.pushed ≡ true). ap (λ (rx : RxFrames). rx.cfn) frames ∙ has.last (sym pushed ∙ is);
  came = λ (is : new.pushed ≡ true). subst (λ (rx : RxFrames). KeepsRadio planned Down state.came (rx_frame_at rx.frames (state.cfn % 8))) (sym frames) (has.came (sym pushed ∙ is));
  none = λ (is : new.pushed ≡ false). has.none (sym pushed ∙ is);
}

pub hidden_at : (planned : Planned) (state : State) (node : Node) (transmitter : UplinkTransmitter) (receiver : DownlinkReceiver) → IsAt planned state node → transmitter ≡ hidden node.transmitter
    → receiver.rx_frames ≡ node.receiver.rx_frames → receiver.pushed ≡ node.receiver.pushed → IsAt planned state (record node { receiver = receiver; transmitter = transmitter })
hidden_at planned state node transmitter receiver at same frames pushed = record {
  active = at.active;
  cfn = at.cfn;
  frames = frames_still planned state node.receiver receiver frames pushed at.frames;
  layer = at.layer;
  loaded = subst (λ (t : UplinkTransmitter). AreLoadedOn planned state.cfn state.layer t.running) (sym same) at.loaded;
}
