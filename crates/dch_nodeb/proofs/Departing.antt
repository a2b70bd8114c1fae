-- The downlink radio frame that is due, as a step of the definition.
use Rattle.std.proofs.Common.{◌≡◌, ◌<◌, ◌∙◌, ◌*◌, ℕ, List, [], ◌∷◌, length, refl, ap, sym, subst, inl, inr, true, false, Option, Some, None, arith}
use Rattle.std.specs.Prelude.{replicate, slice_index}
use Rattle.std.proofs.lemmas.Bool.Decides.{eqb_tells}
use Rattle.dch_bits.specs.declared.bit.Bit.TheVariants.{Zero}
use Rattle.dch_types.specs.declared.channel.Dir.TheVariants.{Down}
use Rattle.dch_types.specs.declared.channel.Side.{Side}
use Rattle.dch_types.specs.declared.config.Config.{Config}
use Rattle.dch_types.specs.Limits.{IsSide, idle_format}
use Rattle.dch_types.specs.Parts.{channel_at}
use Rattle.dch_accept.specs.Blocks.{Held}
use Rattle.dch_accept.specs.declared.set_blocks.Idle.{Idle}
use Rattle.dch_accept.specs.HeldSets.{HeldSet, IsIdleSet, IsSetOf, idle_at}
use Rattle.dch_accept.specs.Plans.{Planned}
use Rattle.dch_tti.specs.Loaded.{Loaded, loaded_at}
use Rattle.dch_dlphy.specs.Loaded.{IsLoaded}
use Rattle.dch_indication.specs.Lines.{Line, PhyNone}
use Rattle.dch_indication.proofs.Telling.{told_one}
use Rattle.dch_types.specs.Timing.{set_frames, starts}
use Rattle.dch_node.specs.Standing.{Tells}
use Rattle.dch_node.specs.Values.{Blocks, Output, Radio, idle_blocks}
use Rattle.dch_node.specs.IubFrames.{blocks_at}
use Rattle.dch_txframes.specs.Values.{radio_sent}
use Rattle.dch_nodeb.specs.Moves.{AreGiven, AreReady, Transmits, IsReady, RunsIn, Sends, Writes}
use Rattle.dch_nodeb.specs.Opened.{AreNoted, AreRxBuffersOf, IsTransmitterOf}
use Rattle.dch_nodeb.specs.Standing.{NothingSent, KeepsFrame, Represents, Stepped}
use Rattle.dch_nodeb.specs.State.{DownlinkIubFrame, DownlinkDue, State, given_now, kept_still, leaving, taken}
use Rattle.dch_nodeb.specs.Steps.{AreAllLoaded, AreRunning, IsDeparture, IsRadio, radio_line}
use Rattle.dch_nodeb.specs.Values.{Node, IubRxBuffer, DownlinkTransmitter, rx_buffer_at}
use Rattle.dch_nodeb.proofs.Steady.{set_frames-member, tells}

-- no combination has the noted formats, and no radio frame was sent
pub none_sent : {S : Type 0} (shows : S → Line → S → Type 0) (planned : Planned) (cfn : ℕ) (old : DownlinkTransmitter) (before after : S) → IsTransmitterOf planned old → Writes planned cfn old None → shows before PhyNone after
    → Sends shows planned cfn old (record old { radio = record old.radio { sent = false } }) before after
none_sent shows planned cfn old before after opened none shown = record {
  opened = record { running = opened.running; radio = opened.radio; eight = opened.eight };
  running = refl;
  formats = refl;
  writes = none;
  shown = shown;
}

none_of : (count : ℕ) → count ≡ 0 → replicate count Zero ≡ []
none_of count none = rw none refl

-- an idle set has the idle blocks of its channels
pub idle_set : (config : Config) (set i : ℕ) (held : HeldSet) → IsIdleSet config Down set held → i < length config.downlink.side.channels → (channel_at config.downlink.side i).set ≡ set
    → blocks_at held i ≡ idle_blocks config.downlink.side i
idle_set config set i held is inside member =
    let idle : Idle = idle_at held.idle i in
    let cleared = is.cleared i inside in
    let own = is.opened.idle.each i inside member in
    let none = (is.opened.idle.quiet i (subst (λ n. i < n) (sym is.opened.idle.all) inside)).none in
    ap (λ (h : Held). record { format = h.format; bits = h.bits }) cleared
    ∙ ap (λ n. record { format = n; bits = replicate (idle.format.number * idle.format.size) Zero }) own.number
    ∙ ap (λ bits. record { format = idle_format (channel_at config.downlink.side i); bits = bits }) (none_of (idle.format.number * idle.format.size) none)

-- a receive buffer that is ready has the blocks that the TTI takes
ready_blocks : (config : Config) (cfn set i : ℕ) (kept : Option DownlinkIubFrame) (old new : IubRxBuffer) → IsReady cfn old new → KeepsFrame config.downlink.side set kept old → IsSetOf config Down set old.held
    → i < length config.downlink.side.channels → (channel_at config.downlink.side i).set ≡ set → blocks_at new.held i ≡ taken config.downlink.side cfn kept i
ready_blocks config cfn set i None old new ready keeps is inside member =
    idle_set config set i new.held (ready.other (λ (e : old.cfn ≡ Some cfn). cc (sym keeps ∙ e)) config set is) inside member
ready_blocks config cfn set i (Some frame) old new ready keeps is inside member = elim (eqb_tells frame.cfn cfn) [
  | inl same ↦ rw same.0 (ap (λ (h : HeldSet). blocks_at h i) (ready.fits (keeps.0 ∙ ap (λ n. Some n) same.1)) ∙ keeps.1 i inside member)
  | inr other ↦ rw other.0 (idle_set config set i new.held (ready.other (λ (e : old.cfn ≡ Some cfn). other.1 (cc (sym keeps.0 ∙ e))) config set is) inside member)
]

loaded-as : (planned : Planned) (i : ℕ) (blocks own : Blocks) (loaded : Loaded) → own ≡ blocks → IsLoaded planned i own.format own.bits loaded → IsLoaded planned i blocks.format blocks.bits loaded
loaded-as planned i blocks own loaded same is = subst (λ (b : Blocks). IsLoaded planned i b.format b.bits loaded) same is

-- what is loaded then is what the channels run
all_given : (planned : Planned) (state : State) (old new : List IubRxBuffer) (transmitter loaded : DownlinkTransmitter) → IsSide planned.config.downlink.side → AreRxBuffersOf planned old
    → AreReady planned state.cfn 8 old new → AreGiven planned state.cfn (length planned.config.downlink.side.channels) new transmitter loaded
    → ((s : ℕ) → s < 8 → KeepsFrame planned.config.downlink.side s (state.kept s) (rx_buffer_at old s)) → AreAllLoaded planned state.given transmitter.running
    → AreAllLoaded planned (given_now planned.config.downlink.side state) loaded.running
all_given planned state old new transmitter loaded good opened ready given kept before i inside =
    let side = planned.config.downlink.side in
    let set : ℕ = (channel_at side i).set in
    let few : set < 8 = omega (arith, (good.channels i inside).set) in
    let frames : set_frames side set ≡ (channel_at side i).frames = set_frames-member side i good inside in
    elim (tells (starts (channel_at side i).frames state.cfn)) [
      | inl on ↦
          let place_on : starts (set_frames side set) state.cfn ≡ true = ap (λ f. starts f state.cfn) frames ∙ on.0 in
          let blocks : blocks_at (rx_buffer_at new set).held i ≡ taken side state.cfn (state.kept set) i =
          ready_blocks planned.config state.cfn set i (state.kept set) (rx_buffer_at old set) (rx_buffer_at new set) (ready.on set few place_on) (kept set few) (opened.each set few) inside refl in
          let own : given_now side state i ≡ taken side state.cfn (state.kept set) i = rw on.0 refl in
          loaded-as planned i (given_now side state i) (blocks_at (rx_buffer_at new set).held i) (loaded_at loaded.running i) (blocks ∙ sym own) (given.on i inside on.0).loaded
      | inr off ↦
          let own : given_now side state i ≡ state.given i = rw off.0 refl in
          loaded-as planned i (given_now side state i) (state.given i) (loaded_at loaded.running i) (sym own)
          (subst (λ (l : Loaded). IsLoaded planned i (state.given i).format (state.given i).bits l) (sym (given.off i inside off.0).loaded) (before i inside))
    ]

-- and what is noted
pub noted_on : (planned : Planned) (cfn : ℕ) (rx_buffers : List IubRxBuffer) (old new : DownlinkTransmitter) → AreGiven planned cfn (length planned.config.downlink.side.channels) rx_buffers old new
    → AreNoted planned old.formats old.running → AreNoted planned new.formats new.running
noted_on planned cfn rx_buffers old new given noted i inside =
    let side = planned.config.downlink.side in
    elim (tells (starts (channel_at side i).frames cfn)) [
      | inl on ↦ (let own = given.on i inside on.0 in own.loaded.format ∙ ap (λ n. Some n) (sym own.noted))
      | inr off ↦ (let own = given.off i inside off.0 in ap (λ (l : Loaded). l.format) own.loaded ∙ noted i inside ∙ ap (λ n. Some n) (sym own.noted))
    ]

some_same : (a b : ℕ) → Some a ≡ Some b → a ≡ b
some_same a b same = cc

-- the noted formats are those of the blocks that run
noted_formats : (planned : Planned) (given : ℕ → Blocks) (transmitter : DownlinkTransmitter) → AreNoted planned transmitter.formats transmitter.running → AreAllLoaded planned given transmitter.running
    → (i : ℕ) → i < length planned.config.downlink.side.channels → slice_index transmitter.formats i ≡ (given i).format
noted_formats planned given transmitter noted loaded i inside =
    some_same (slice_index transmitter.formats i) (given i).format (sym (noted i inside) ∙ (loaded i inside).format)

-- the combinations in which they run are the same
runs_as : (side : Side) (given : ℕ → Blocks) (formats : List ℕ) (c : ℕ) → ((i : ℕ) → i < length side.channels → slice_index formats i ≡ (given i).format) → RunsIn side c formats → AreRunning side c given
runs_as side given formats c same runs i inside = sym (same i inside) ∙ runs i inside

runs_back : (side : Side) (given : ℕ → Blocks) (formats : List ℕ) (c : ℕ) → ((i : ℕ) → i < length side.channels → slice_index formats i ≡ (given i).format) → AreRunning side c given → RunsIn side c formats
runs_back side given formats c same runs i inside = same i inside ∙ runs i inside

-- the radio frame that is written is the one of the definition
written_radio : (planned : Planned) (state : State) (transmitter : DownlinkTransmitter) (shown : Option Radio) → AreNoted planned transmitter.formats transmitter.running
    → AreAllLoaded planned state.given transmitter.running → Writes planned state.cfn transmitter shown → IsRadio planned state shown
written_radio planned state transmitter None noted loaded writes = λ c listed runs.
    writes c listed (runs_back planned.config.downlink.side state.given transmitter.formats c (noted_formats planned state.given transmitter noted loaded) runs)
written_radio planned state transmitter (Some radio) noted loaded writes =
    let side = planned.config.downlink.side in
    let same = noted_formats planned state.given transmitter noted loaded in
    record {
      combination = writes.combination;
      listed = writes.is.listed;
      formats = runs_as side state.given transmitter.formats writes.combination same writes.is.runs;
      first = λ c early runs. writes.is.first c early (runs_back side state.given transmitter.formats c same runs);
      tti = transmitter.running;
      loaded = loaded;
      frame = writes.frame;
      written = writes.written;
      tfci = writes.tfci;
      cells = writes.cells;
    }

-- what is still kept
still_kept : (side : Side) (state : State) (s : ℕ) (old new : IubRxBuffer) → (starts (set_frames side s) state.cfn ≡ true → new.cfn ≡ None) → (starts (set_frames side s) state.cfn ≡ false → new ≡ old)
    → KeepsFrame side s (state.kept s) old → KeepsFrame side s (kept_still side state s) new
still_kept side state s old new on off keeps = elim (tells (starts (set_frames side s) state.cfn)) [
  | inl is ↦ rw is.0 (on is.0)
  | inr is ↦ rw is.0 (subst (λ (p : IubRxBuffer). KeepsFrame side s (state.kept s) p) (sym (off is.0)) keeps)
]

departed_at : {S : Type 0} (shows : S → Line → S → Type 0) (planned : Planned) (state : State) (node : Node) (new : List IubRxBuffer) (sent : DownlinkTransmitter) (before after : S) → IsSide planned.config.downlink.side → AreRxBuffersOf planned node.rx_buffers
    → AreNoted planned node.transmitter.formats node.transmitter.running → NothingSent node → Transmits shows planned state.cfn node.rx_buffers new node.transmitter sent before after → Represents planned state node
    → Stepped planned state DownlinkDue (record node { rx_buffers = new; transmitter = sent }) (Tells shows before after)
departed_at shows planned state node new sent before after good opened noted quiet departs stands =
    let side = planned.config.downlink.side in
    let loaded : DownlinkTransmitter = departs.loaded in
    let next : State = leaving side state in
    let shown : Option Radio = radio_sent sent.radio in
    let all : AreAllLoaded planned next.given loaded.running = all_given planned state node.rx_buffers new node.transmitter loaded good opened departs.ready departs.given stands.kept stands.given in
    let output : Output = record { lines = radio_line shown ∷ []; sent = shown; iub = λ s. None } in
    record {
      next = next;
      output = output;
      step = subst (λ (p : Planned). IsDeparture p state next output) (sym stands.active) (record {
        state = refl;
        radio = written_radio planned next loaded shown (noted_on planned state.cfn new node.transmitter loaded departs.given noted) all departs.sends.writes;
        reported = refl;
        no_iub = λ s few. refl;
      });
      stands = record {
        active = stands.active;
        cfn = stands.cfn;
        kept = λ s few. still_kept side state s (rx_buffer_at node.rx_buffers s) (rx_buffer_at new s) (λ on. (departs.ready.on s few on).empty) (λ off. departs.ready.off s few off) (stands.kept s few);
        given = λ i inside. subst (λ (l : List Loaded). IsLoaded planned i (next.given i).format (next.given i).bits (loaded_at l i)) (sym departs.sends.running) (all i inside);
        frames = stands.frames;
      };
      shows = record { radio = refl; iub = quiet.iub };
      tells = told_one shows before after _ departs.sends.shown;
    }

-- the step of a radio frame that is due
pub departed : {S : Type 0} (shows : S → Line → S → Type 0) (planned : Planned) (state : State) (node : Node) (new : List IubRxBuffer) (sent : DownlinkTransmitter) (before after : S) → IsSide planned.config.downlink.side → AreRxBuffersOf planned node.rx_buffers
    → AreNoted planned node.transmitter.formats node.transmitter.running → NothingSent node → Transmits shows planned node.cfn node.rx_buffers new node.transmitter sent before after → Represents planned state node
    → Stepped planned state DownlinkDue (record node { rx_buffers = new; transmitter = sent }) (Tells shows before after)
departed shows planned state node new sent before after good opened noted quiet departs stands =
    departed_at shows planned state node new sent before after good opened noted quiet
    (subst (λ cfn. Transmits shows planned cfn node.rx_buffers new node.transmitter sent before after) stands.cfn departs) stands
