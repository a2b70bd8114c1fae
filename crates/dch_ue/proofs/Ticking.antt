-- 10 ms that have passed, as a step of the definition.
use Rattle.std.proofs.Common.{◌≡◌, ◌<◌, ◌+◌, ◌∙◌, ◌++◌, ℕ, List, [], ◌∷◌, length, refl, ap, sym, subst, inl, inr, Option, Some, None, true, false}
use Rattle.std.specs.Prelude.{◌≢◌, ◌%◌, ◌==◌}
use Rattle.std.proofs.lemmas.Bool.Decides.{eqb_tells}
use Rattle.dch_types.specs.declared.channel.Dir.{Dir}
use Rattle.dch_types.specs.declared.channel.Dir.TheVariants.{Up, Down}
use Rattle.dch_accept.specs.Plans.{Planned}
use Rattle.dch_tti.specs.Loaded.{Loaded}
use Rattle.dch_ulphy.specs.Frames.{IsFrame}
use Rattle.dch_tti.specs.declared.outcome.TtiOutcome.{TtiOutcome}
use Rattle.dch_tti.specs.RxFrames.{RxFrame, RxFrames, rx_frame_at}
use Rattle.dch_indication.proofs.Telling.{told-append, told_one}
use Rattle.dch_node.specs.Lines.{Line, Phy}
use Rattle.dch_node.specs.RxFrames.{AreHeard, KeepsRadio}
use Rattle.dch_node.specs.Standing.{Tells}
use Rattle.dch_node.specs.Values.{Output, Radio}
use Rattle.dch_layer2.specs.Layers.{Layer, ticks}
use Rattle.dch_layer2.specs.Starting.{IsStart}
use Rattle.dch_layer2.specs.Reading.{Nothing, Reading}
use Rattle.dch_layer2.specs.Standing.{HasStarted, Represents as StandsFor}
use Rattle.dch_layer2.specs.Values.{LayerRunning}
use Rattle.dch_txframes.specs.Values.{radio_if}
use Rattle.dch_ue.specs.Moves.{Completes, Hears, Receives, Transmits}
use Rattle.dch_ue.specs.Standing.{HasFrames, IsAt, Stepped}
use Rattle.dch_ue.specs.State.{State, Tick, frames_now, ticking}
use Rattle.dch_ue.specs.Steps.{AreAllLoaded, IsTick, has_read}
use Rattle.dch_ue.specs.Values.{DownlinkReceiver, Node, RxTti, UplinkTransmitter, reading_if, readings_of, tti_at}
use Rattle.dch_ue.proofs.Lasting.{reads_below-on}
use Rattle.dch_ue.proofs.Loading.{tells}
use Rattle.dch_ue.proofs.Starting.{all_loaded}

-- the radio frames of the last 8 CFNs, by place
now_at : (state : State) (k : ℕ) → (k == state.cfn % 8) ≡ true → frames_now state k ≡ state.came
now_at state k same = rw same refl

now_else : (state : State) (k : ℕ) → (k == state.cfn % 8) ≡ false → frames_now state k ≡ state.frames k
now_else state k other = rw other refl

-- they are kept where that of the CFN is kept, and those before
heard_all : (planned : Planned) (state : State) (frames : List RxFrame) → KeepsRadio planned Down state.came (rx_frame_at frames (state.cfn % 8))
    → ((k : ℕ) → k < 8 → k ≢ state.cfn % 8 → KeepsRadio planned Down (state.frames k) (rx_frame_at frames k)) → (k : ℕ) → k < 8 → KeepsRadio planned Down (frames_now state k) (rx_frame_at frames k)
heard_all planned state frames own before k few = elim (eqb_tells k (state.cfn % 8)) [
  | inl same ↦ subst (λ (r : Option Radio). KeepsRadio planned Down r (rx_frame_at frames k)) (sym (now_at state k same.0))
      (subst (λ n. KeepsRadio planned Down state.came (rx_frame_at frames n)) (sym same.1) own)
  | inr other ↦ subst (λ (r : Option Radio). KeepsRadio planned Down r (rx_frame_at frames k)) (sym (now_else state k other.0)) (before k few other.1)
]

-- the radio frame of the CFN is there
heard : (planned : Planned) (state : State) (old new : DownlinkReceiver) → HasFrames planned state old → Completes planned state.cfn old new → AreHeard planned Down state.cfn (frames_now state) new.rx_frames
heard planned state old new has completes = elim (tells old.pushed) [
  | inl pushed ↦ (
      let same : new.rx_frames ≡ old.rx_frames = completes.there pushed.0 in
      subst (λ (rx : RxFrames). AreHeard planned Down state.cfn (frames_now state) rx) (sym same)
      (record { last = has.last pushed.0; kept = heard_all planned state old.rx_frames.frames (has.came pushed.0) has.before }))
  | inr missing ↦ (
      let hears : Hears planned state.cfn None old.rx_frames new.rx_frames = completes.missing missing.0 in
      record {
        last = hears.last;
        kept = heard_all planned state new.rx_frames.frames
            (subst (λ (r : Option Radio). KeepsRadio planned Down r (rx_frame_at new.rx_frames.frames (state.cfn % 8))) (sym (has.none missing.0)) hears.kept)
            (λ k few apart. subst (λ (f : RxFrame). KeepsRadio planned Down (state.frames k) f) (sym (hears.others k apart)) (has.before k few apart));
      })
]

-- and for the next CFN none came yet
next_frames : (planned : Planned) (state next : State) (receiver : DownlinkReceiver) → receiver.pushed ≡ false → next.came ≡ None → ((k : ℕ) → k < 8 → KeepsRadio planned Down (next.frames k) (rx_frame_at receiver.rx_frames.frames k))
    → HasFrames planned next receiver
next_frames planned state next receiver missing empty kept = record {
  before = λ k few apart. kept k few;
  last = λ (pushed : receiver.pushed ≡ true). absurd (cc (sym missing ∙ pushed));
  came = λ (pushed : receiver.pushed ≡ true). absurd (cc (sym missing ∙ pushed));
  none = λ m. empty;
}

not_read : (ttis : List RxTti) (i : ℕ) → (tti_at ttis i).outcome ≡ None → readings_of ttis i ≡ Nothing
not_read ttis i none = ap (λ (o : Option TtiOutcome). reading_if o (tti_at ttis i).held) none

-- 10 ms have passed, at the CFN of the state
ticked_at : {S : Type 0} (shows : S → Line → S → Type 0) (planned : Planned) (state : State) (node : Node) (mid read new : LayerRunning) (receiver : DownlinkReceiver) (transmitter : UplinkTransmitter) (before between after : S) → IsAt planned state node → new.out ≡ Up
    → StandsFor planned.config (ticks planned.config state.layer) mid → Receives shows planned state.cfn node.receiver receiver mid read before between
    → HasStarted planned.config state.cfn (has_read planned (readings_of receiver.ttis) state.layer).layer new → Transmits shows planned state.cfn new node.transmitter transmitter between after
    → Stepped planned state Tick (record node { cfn = (node.cfn + 1) % 256; layer = new; receiver = receiver; transmitter = transmitter }) (Tells shows before after)
ticked_at shows planned state node mid read new receiver transmitter before between after at up stands receives started transmits =
    let readings : ℕ → Reading = readings_of receiver.ttis in
    let taken : Layer = (has_read planned readings state.layer).layer in
    let next : State = ticking state readings started.next in
    let radio : Radio = record { tfci = transmitter.radio.frame.tfci; cells = transmitter.radio.frame.cells } in
    let lines : List Line = (has_read planned readings state.layer).lines ++ Phy Up radio.tfci radio.cells ∷ [] in
    let output : Output = record { lines = lines; sent = Some radio; iub = λ s. None } in
    let kept : AreHeard planned Down state.cfn (frames_now state) receiver.rx_frames =
    subst (λ (rx : RxFrames). AreHeard planned Down state.cfn (frames_now state) rx) (sym receives.rx_frames) (heard planned state node.receiver receives.heard at.frames receives.completes) in
    let loaded : AreAllLoaded planned started.next transmitter.running =
    subst (λ (tti : List Loaded). AreAllLoaded planned started.next tti) (sym transmits.sends.running)
    (all_loaded planned state.cfn state.layer taken new node.transmitter.running transmits.loaded.running up started
    (reads_below-on planned.config Down readings (length planned.config.downlink.side.channels) (ticks planned.config state.layer)).given at.loaded transmits.loads) in
    record {
      next = next;
      output = output;
      step = subst (λ (p : Planned). IsTick p state next output) (sym at.active) (record {
        rx_frames = receiver.rx_frames;
        kept = kept;
        readings = receives.reads.readings;
        no_more = λ i late. not_read receiver.ttis i (receives.reads.later i late);
        start = subst (λ (d : Dir). IsStart planned.config d state.cfn taken started.next) up started.start;
        state = refl;
        radio = radio;
        written = record {
          tti = transmitter.running;
          loaded = loaded;
          frame = transmitter.radio.frame;
          written = subst (λ c. IsFrame planned transmitter.running state.cfn c transmitter.radio.frame) started.stands.running transmits.sends.written;
          tfci = refl;
          cells = refl;
        };
        sent = refl;
        reported = refl;
        no_iub = λ s few. refl;
      });
      stands = record {
        at = record {
          active = at.active;
          cfn = ap (λ n. (n + 1) % 256) at.cfn;
          frames = next_frames planned state next receiver (receives.pushed ∙ receives.completes.pushed) refl kept.kept;
          layer = started.stands;
          loaded = λ i inside off. loaded i inside;
        };
        readings = λ i inside. refl;
      };
      shows = record { radio = ap (λ b. radio_if b transmitter.radio.frame) transmits.sends.sent };
      tells = told-append shows before between after (has_read planned readings state.layer).lines (Phy Up radio.tfci radio.cells ∷ []) (receives.reads.read.told (ticks planned.config state.layer) stands)
          (told_one shows between after _ transmits.sends.shown);
    }

-- at the CFN of the terminal
pub ticked : {S : Type 0} (shows : S → Line → S → Type 0) (planned : Planned) (state : State) (node : Node) (mid read new : LayerRunning) (receiver : DownlinkReceiver) (transmitter : UplinkTransmitter) (before between after : S) → IsAt planned state node → new.out ≡ Up
    → StandsFor planned.config (ticks planned.config state.layer) mid → Receives shows planned node.cfn node.receiver receiver mid read before between
    → HasStarted planned.config node.cfn (has_read planned (readings_of receiver.ttis) state.layer).layer new → Transmits shows planned node.cfn new node.transmitter transmitter between after
    → Stepped planned state Tick (record node { cfn = (node.cfn + 1) % 256; layer = new; receiver = receiver; transmitter = transmitter }) (Tells shows before after)
ticked shows planned state node mid read new receiver transmitter before between after at up stands receives started transmits =
    ticked_at shows planned state node mid read new receiver transmitter before between after at up stands
    (subst (λ cfn. Receives shows planned cfn node.receiver receiver mid read before between) at.cfn receives)
    (subst (λ cfn. HasStarted planned.config cfn (has_read planned (readings_of receiver.ttis) state.layer).layer new) at.cfn started)
    (subst (λ cfn. Transmits shows planned cfn new node.transmitter transmitter between after) at.cfn transmits)
