-- A terminal still fits its configuration after a step, and its layer 2 stays limited.
use Rattle.std.proofs.Common.{◌≡◌, ◌<◌, ◌∙◌, ℕ, List, length, arith, sym, subst, Bool, true, false}
use Rattle.dch_bits.specs.declared.bit.Bit.{Bit}
use Rattle.dch_types.specs.declared.channel.Dir.TheVariants.{Up, Down}
use Rattle.dch_types.specs.declared.config.Config.{Config}
use Rattle.dch_config.specs.Good.{IsGood}
use Rattle.dch_accept.specs.Plans.{Planned}
use Rattle.dch_tti.specs.Loaded.{AreFormats, Loaded}
use Rattle.dch_indication.specs.Lines.{Line}
use Rattle.dch_layer2.specs.Layers.{Layer, blocks, offers, ticks}
use Rattle.dch_layer2.proofs.BoundedLayers.{blocks_bounded, offers_bounded, start_bounded, ticks_bounded}
use Rattle.dch_layer2.specs.Bounded.{HasLayer, IsTti}
use Rattle.dch_layer2.specs.Reading.{Reading}
use Rattle.dch_layer2.specs.Standing.{HasStarted, IsLayerOf, IsSameEnd, Represents as StandsFor}
use Rattle.dch_layer2.specs.Values.{LayerRunning}
use Rattle.dch_layer2.proofs.Readings.{read_layer}
use Rattle.dch_ue.specs.Moves.{Receives, Transmits}
use Rattle.dch_ue.specs.Opened.{AreGivenAs, AreNoted, IsNodeOf, IsReceiverOf}
use Rattle.dch_ue.specs.Steps.{has_read}
use Rattle.dch_ue.specs.Values.{DownlinkReceiver, Node, UplinkTransmitter, readings_of}
use Rattle.dch_ue.proofs.Lasting.{reads_below-on}
use Rattle.dch_ue.proofs.Loading.{formats_all}
use Rattle.dch_ue.proofs.ReceivingBlocks.{tti_read}
use Rattle.dch_ue.proofs.Starting.{given_as, noted_on}

-- it still fits the configuration where its parts do
pub still_layer : (planned : Planned) (node : Node) (new : LayerRunning) → IsNodeOf planned node → IsSameEnd node.layer new → HasLayer planned.config new → new.running ≡ node.layer.running → IsNodeOf planned (record node { layer = new })
still_layer planned node new opened same has running = record {
  sends = same.sends ∙ opened.sends;
  receives = same.receives ∙ opened.receives;
  layer = has;
  receiver = opened.receiver;
  transmitter = opened.transmitter;
  noted = subst (λ c. AreNoted planned node.cfn c node.transmitter.running) (sym running) opened.noted;
  last = opened.last;
}

-- layer 2 stays limited
pub offered_layer : (planned : Planned) (node : Node) (new : LayerRunning) (b : ℕ) (octets : List ℕ) (bits : List Bit) → IsNodeOf planned node
    → ((config : Config) (layer : Layer) → StandsFor config layer node.layer → StandsFor config (offers config node.layer.out b octets bits layer).layer new) → HasLayer planned.config new
offered_layer planned node new b octets bits opened stands = record {
  layer = (offers planned.config node.layer.out b octets bits opened.layer.layer).layer;
  stands = stands planned.config opened.layer.layer opened.layer.stands;
  bounded = offers_bounded planned.config node.layer.out b octets bits opened.layer.layer opened.layer.bounded;
}

pub offered_runs : (planned : Planned) (node : Node) (new : LayerRunning) (b : ℕ) (octets : List ℕ) (bits : List Bit) → IsNodeOf planned node
    → ((config : Config) (layer : Layer) → StandsFor config layer node.layer → StandsFor config (offers config node.layer.out b octets bits layer).layer new) → new.running ≡ node.layer.running
offered_runs planned node new b octets bits opened stands = (stands planned.config opened.layer.layer opened.layer.stands).running ∙ sym opened.layer.stands.running

pub blocked_layer : (planned : Planned) (node : Node) (new : LayerRunning) (c : ℕ) (on : Bool) → IsNodeOf planned node
    → ((config : Config) (layer : Layer) → StandsFor config layer node.layer → StandsFor config (blocks c on layer) new) → HasLayer planned.config new
blocked_layer planned node new c on opened stands = record {
  layer = blocks c on opened.layer.layer;
  stands = stands planned.config opened.layer.layer opened.layer.stands;
  bounded = blocks_bounded planned.config c on opened.layer.layer opened.layer.bounded;
}

pub blocked_runs : (planned : Planned) (node : Node) (new : LayerRunning) (c : ℕ) (on : Bool) → IsNodeOf planned node
    → ((config : Config) (layer : Layer) → StandsFor config layer node.layer → StandsFor config (blocks c on layer) new) → new.running ≡ node.layer.running
blocked_runs planned node new c on opened stands = (stands planned.config opened.layer.layer opened.layer.stands).running ∙ sym opened.layer.stands.running

-- a radio frame came
pub still_came : (planned : Planned) (node : Node) (new : DownlinkReceiver) → IsNodeOf planned node → IsReceiverOf planned new → new.rx_frames.cfn ≡ node.cfn → IsNodeOf planned (record node { receiver = new })
still_came planned node new opened is last = record {
  sends = opened.sends;
  receives = opened.receives;
  layer = opened.layer;
  receiver = is;
  transmitter = opened.transmitter;
  noted = opened.noted;
  last = λ pushed. last;
}

-- 10 ms have passed
pub still_ticked : {S : Type 0} (shows : S → Line → S → Type 0) (planned : Planned) (node : Node) (cfn : ℕ) (new : LayerRunning) (receiver : DownlinkReceiver) (transmitter : UplinkTransmitter) (between after : S) → IsNodeOf planned node → IsSameEnd node.layer new → HasLayer planned.config new
    → IsReceiverOf planned receiver → receiver.pushed ≡ false → AreGivenAs planned node.cfn new → AreNoted planned node.cfn new.running node.transmitter.running → Transmits shows planned node.cfn new node.transmitter transmitter between after
    → IsNodeOf planned (record node { cfn = cfn; layer = new; receiver = receiver; transmitter = transmitter })
still_ticked shows planned node cfn new receiver transmitter between after opened same has receives missing given noted transmits =
    let formats : AreFormats planned.config.uplink.side new.running transmitter.running =
    subst (λ (tti : List Loaded). AreFormats planned.config.uplink.side new.running tti) (sym transmits.sends.running)
    (formats_all planned node.cfn new node.transmitter.running transmits.loaded.running transmits.loads given noted) in
    record {
      sends = same.sends ∙ opened.sends;
      receives = same.receives ∙ opened.receives;
      layer = has;
      receiver = receives;
      transmitter = transmits.sends.opened;
      noted = λ i inside off. formats i inside;
      last = λ (pushed : receiver.pushed ≡ true). absurd (cc (sym missing ∙ pushed));
    }

pub ends_through : (old mid new : LayerRunning) → IsSameEnd old mid → IsSameEnd mid new → IsSameEnd old new
ends_through old mid new first second = record { sends = second.sends ∙ first.sends; receives = second.receives ∙ first.receives }

pub layer_of : (config : Config) (v : LayerRunning) → HasLayer config v → IsLayerOf config v
layer_of config v has = record { layer = has.layer; stands = has.stands }

-- what was read of the channels has their formats
pub ttis_read : {S : Type 0} (shows : S → Line → S → Type 0) (planned : Planned) (cfn : ℕ) (old receiver : DownlinkReceiver) (mid read : LayerRunning) (before between : S) → IsGood planned.config → Receives shows planned cfn old receiver mid read before between
    → (i : ℕ) → i < length planned.config.downlink.side.channels → IsTti planned.config Down i (readings_of receiver.ttis i)
ttis_read shows planned cfn old receiver mid read before between good receives i inside = tti_read planned receiver.rx_frames i (readings_of receiver.ttis i) good.downlink.side inside (receives.reads.readings i inside)

-- layer 2 after each part of a tick
pub ticked_layer : (planned : Planned) (node : Node) (mid : LayerRunning) → IsNodeOf planned node → ((config : Config) (layer : Layer) → StandsFor config layer node.layer → StandsFor config (ticks config layer) mid) → HasLayer planned.config mid
ticked_layer planned node mid opened stands = record {
  layer = ticks planned.config opened.layer.layer;
  stands = stands planned.config opened.layer.layer opened.layer.stands;
  bounded = ticks_bounded planned.config opened.layer.layer opened.layer.bounded;
}

pub read_has : {S : Type 0} (shows : S → Line → S → Type 0) (planned : Planned) (cfn : ℕ) (old receiver : DownlinkReceiver) (mid read : LayerRunning) (before between : S) → IsGood planned.config → HasLayer planned.config mid → Receives shows planned cfn old receiver mid read before between
    → HasLayer planned.config read
read_has shows planned cfn old receiver mid read before between good has receives =
    read_layer shows planned.config Down (readings_of receiver.ttis) (length planned.config.downlink.side.channels) mid read before between good (omega arith) (ttis_read shows planned cfn old receiver mid read before between good receives) has receives.reads.read

pub started_layer : (planned : Planned) (cfn : ℕ) (old new : LayerRunning) → HasLayer planned.config old → ((layer : Layer) → StandsFor planned.config layer old → HasStarted planned.config cfn layer new) → HasLayer planned.config new
started_layer planned cfn old new has starts =
    let started : HasStarted planned.config cfn has.layer new = starts has.layer has.stands in
    record {
      layer = started.next;
      stands = started.stands;
      bounded = start_bounded planned.config new.out cfn has.layer started.next started.start has.bounded;
    }

-- the formats of the channels fit the combination that runs then
pub given_start : (planned : Planned) (cfn : ℕ) (old new : LayerRunning) → HasLayer planned.config old → new.out ≡ Up → ((layer : Layer) → StandsFor planned.config layer old → HasStarted planned.config cfn layer new) → AreGivenAs planned cfn new
given_start planned cfn old new has up starts = given_as planned cfn has.layer new up (starts has.layer has.stands)

pub noted_start : {S : Type 0} (shows : S → Line → S → Type 0) (planned : Planned) (node : Node) (mid read new : LayerRunning) (receiver : DownlinkReceiver) (before between : S) → IsNodeOf planned node → new.out ≡ Up
    → ((config : Config) (layer : Layer) → StandsFor config layer node.layer → StandsFor config (ticks config layer) mid) → Receives shows planned node.cfn node.receiver receiver mid read before between
    → ((layer : Layer) → StandsFor planned.config layer read → HasStarted planned.config node.cfn layer new) → AreNoted planned node.cfn new.running node.transmitter.running
noted_start shows planned node mid read new receiver before between opened up stands receives starts =
    let old : Layer = opened.layer.layer in
    let readings : ℕ → Reading = readings_of receiver.ttis in
    let taken : Layer = (has_read planned readings old).layer in
    let same : taken.running ≡ old.running = (reads_below-on planned.config Down readings (length planned.config.downlink.side.channels) (ticks planned.config old)).running in
    noted_on planned node.cfn node.layer.running taken new node.transmitter.running up
    (starts taken (receives.reads.read.stands (ticks planned.config old) (stands planned.config old opened.layer.stands))) (opened.layer.stands.running ∙ sym same) opened.noted
