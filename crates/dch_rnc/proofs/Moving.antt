-- What the parts of a network controller do, as a step of the definition.
use Rattle.std.proofs.Common.{◌≡◌, ◌<◌, ◌+◌, ◌∙◌, ℕ, List, [], ◌∷◌, length, refl, ap, sym, subst, inl, inr, Bool, Option, Some, None, cond}
use Rattle.std.specs.Prelude.{◌%◌, ◌==◌, IsSome}
use Rattle.std.proofs.lemmas.Bool.Decides.{eqb_tells}
use Rattle.dch_bits.specs.declared.bit.Bit.{Bit}
use Rattle.dch_bits.specs.declared.offer.Offer.{Offer}
use Rattle.dch_types.specs.declared.channel.Dir.{Dir}
use Rattle.dch_types.specs.declared.channel.Dir.TheVariants.{Up, Down}
use Rattle.dch_types.specs.declared.channel.Side.{Side}
use Rattle.dch_types.specs.Parts.{channel_at, side_of}
use Rattle.dch_accept.specs.Blocks.{Held}
use Rattle.dch_accept.specs.HeldSets.{HeldSet, held_at}
use Rattle.dch_accept.specs.Plans.{Planned}
use Rattle.dch_indication.proofs.Telling.{told_one}
use Rattle.dch_node.specs.IubFrames.{refusal_number}
use Rattle.dch_node.specs.Lines.{IubBad, Line}
use Rattle.dch_node.specs.Standing.{AreNone, Tells}
use Rattle.dch_node.specs.Values.{Output, says}
use Rattle.dch_layer2.specs.Bearings.{answers, channel_of, line_of_answer}
use Rattle.dch_layer2.specs.Layers.{Layer, Outcome, blocks, offers, ticks}
use Rattle.dch_layer2.specs.Starting.{IsStart}
use Rattle.dch_layer2.specs.Reading.{reads_below}
use Rattle.dch_layer2.specs.Standing.{CanOffer, HasStarted, Represents as StandsFor}
use Rattle.dch_layer2.specs.Values.{LayerRunning}
use Rattle.dch_txframes.specs.Sending.{sent_of}
use Rattle.dch_txframes.specs.Values.{IubTxBuffer}
use Rattle.dch_rnc.specs.Moves.{AreServed, IsRefused, IsTaken}
use Rattle.dch_rnc.specs.Opened.{AreChannelSets, IsNodeOf}
use Rattle.dch_rnc.specs.Standing.{IsAt, NothingShown, SendsDown, Stepped, blocks_read}
use Rattle.dch_rnc.specs.State.{BlockedCombination, Event, IubFrame, OfferedUnit, State, Tick, no_readings, set_readings, ticking, with_layer}
use Rattle.dch_rnc.specs.Steps.{IsArrival, IsOffer, IsSent, IsTick, sent_lines}
use Rattle.dch_rnc.specs.Values.{Node, blocks_if_read, rx_set_at, taken_shown}
use Rattle.dch_rnc.proofs.Given.{gives_sent}
use Rattle.dch_rnc.proofs.Taking.{reading_off, reading_on}

-- where nothing was read, nothing is taken
none_taken : (node : Node) (i : ℕ) → node.read ≡ None → taken_shown node i ≡ None
none_taken node i none = ap (λ (r : Option ℕ). blocks_if_read r node.channel_sets node.rx_sets i) none

-- a unit was offered
pub offered : {S : Type 0} (shows : S → Line → S → Type 0) (planned : Planned) (state : State) (node : Node) (new : LayerRunning) (b : ℕ) (octets : List ℕ) (bits : List Bit) (answer : Offer) (before after : S) → NothingShown node → IsAt planned state node → node.layer.out ≡ Down
    → answer ≡ answers planned.config node.layer.out b octets bits (state.layer.bearings b) → StandsFor planned.config (offers planned.config node.layer.out b octets bits state.layer).layer new
    → shows before (line_of_answer Down b answer) after → Stepped planned state (OfferedUnit b octets bits) (record node { layer = new }) (Tells shows before after)
offered shows planned state node new b octets bits answer before after quiet at down answered stands shown = record {
  next = with_layer state (offers planned.config Down b octets bits state.layer).layer;
  output = says (offers planned.config Down b octets bits state.layer).lines;
  step = subst (λ (p : Planned). IsOffer p state b octets bits (with_layer state (offers planned.config Down b octets bits state.layer).layer) (says (offers planned.config Down b octets bits state.layer).lines)) (sym at.active)
      (record { state = refl; reported = refl });
  stands = record {
    at = record { active = at.active; cfn = at.cfn; layer = subst (λ (d : Dir). StandsFor planned.config (offers planned.config d b octets bits state.layer).layer new) down stands };
    readings = λ i inside. none_taken node i quiet.read;
  };
  shows = record { iub = quiet.iub };
  tells = subst (λ (o : Offer). Tells shows before after (line_of_answer Down b o ∷ [])) (answered ∙ ap (λ (d : Dir). answers planned.config d b octets bits (state.layer.bearings b)) down)
      (told_one shows before after _ shown);
}

-- a combination was blocked, or is free
pub blocked_now : (planned : Planned) (state : State) (node : Node) (new : LayerRunning) (c : ℕ) (on : Bool) → NothingShown node → IsAt planned state node
    → StandsFor planned.config (blocks c on state.layer) new → Stepped planned state (BlockedCombination c on) (record node { layer = new }) AreNone
blocked_now planned state node new c on quiet at stands = record {
  next = with_layer state (blocks c on state.layer);
  output = says [];
  step = (refl, refl);
  stands = record {
    at = record { active = at.active; cfn = at.cfn; layer = stands };
    readings = λ i inside. none_taken node i quiet.read;
  };
  shows = record { iub = quiet.iub };
  tells = refl;
}

-- where there is no line, nobody is told
pub untold : {S : Type 0} (shows : S → Line → S → Type 0) (planned : Planned) (state : State) (event : Event) (node : Node) (user : S) → Stepped planned state event node AreNone → Stepped planned state event node (Tells shows user user)
untold shows planned state event node user is = record {
  next = is.next;
  output = is.output;
  step = is.step;
  stands = is.stands;
  shows = is.shows;
  tells = subst (λ (ls : List Line). Tells shows user user ls) (sym is.tells) refl;
}

-- what is shown of a set that was read
read_shown : (side : Side) (set i : ℕ) (channel_sets : List ℕ) (rx_sets : List HeldSet) → AreChannelSets side channel_sets → i < length side.channels
    → blocks_if_read (Some set) channel_sets rx_sets i ≡ blocks_read (set_readings side set (rx_set_at rx_sets set) i)
read_shown side set i channel_sets rx_sets are inside =
    let held : Held = held_at (rx_set_at rx_sets set).blocks i in
    let own : blocks_if_read (Some set) channel_sets rx_sets i ≡ cond ((channel_at side i).set == set) (Some held) None = ap (λ n. cond (n == set) (Some held) None) (are.each i inside) in
    elim (eqb_tells (channel_at side i).set set) [
      | inl same ↦ own ∙ ap (λ (b : Bool). cond b (Some held) None) same.0 ∙ sym (ap blocks_read (reading_on side set (rx_set_at rx_sets set) i inside same.1))
      | inr other ↦ own ∙ ap (λ (b : Bool). cond b (Some held) None) other.0 ∙ sym (ap blocks_read (reading_off side set (rx_set_at rx_sets set) i other.1))
    ]

-- what layer 2 does with the blocks of a set
abbrev pub reads_up : Planned → ℕ → HeldSet → Layer → Outcome
reads_up planned set held layer = reads_below planned.config Up (set_readings planned.config.uplink.side set held) (length planned.config.uplink.side.channels) layer

-- an Iub frame was read
pub taken : {S : Type 0} (shows : S → Line → S → Type 0) (planned : Planned) (state : State) (node : Node) (new : LayerRunning) (rx_sets : List HeldSet) (set : ℕ) (octets : List ℕ) (before after : S) → NothingShown node → IsAt planned state node
    → AreChannelSets planned.config.uplink.side node.channel_sets → IsTaken shows planned set octets (rx_set_at rx_sets set) node.layer new before after
    → Stepped planned state (IubFrame set octets) (record node { layer = new; rx_sets = rx_sets; read = Some set }) (Tells shows before after)
taken shows planned state node new rx_sets set octets before after quiet at sets is =
    let held : HeldSet = rx_set_at rx_sets set in
    let next : State = record state {
      layer = (reads_up planned set held state.layer).layer;
      readings = set_readings planned.config.uplink.side set held;
    } in
    record {
      next = next;
      output = says (reads_up planned set held state.layer).lines;
      step = subst (λ (p : Planned). IsArrival p state set octets next (says (reads_up planned set held state.layer).lines)) (sym at.active)
          (inl (record { cfn = is.filled.cfn; qe = is.filled.qe; held = held; read = is.filled.read; state = refl; reported = refl }));
      stands = record {
        at = record { active = at.active; cfn = at.cfn; layer = is.takes.stands state.layer at.layer };
        readings = λ i inside. read_shown planned.config.uplink.side set i node.channel_sets rx_sets sets inside;
      };
      shows = record { iub = quiet.iub };
      tells = is.takes.told state.layer at.layer;
    }

-- or refused
pub refused : {S : Type 0} (shows : S → Line → S → Type 0) (planned : Planned) (state : State) (node : Node) (new : LayerRunning) (rx_sets : List HeldSet) (set : ℕ) (octets : List ℕ) (before after : S) → NothingShown node → IsAt planned state node
    → IsRefused shows planned set octets node.layer new before after → Stepped planned state (IubFrame set octets) (record node { layer = new; rx_sets = rx_sets }) (Tells shows before after)
refused shows planned state node new rx_sets set octets before after quiet at is =
    let line : List Line = IubBad Up set (refusal_number is.error) ∷ [] in
    record {
      next = record state { readings = no_readings };
      output = says line;
      step = subst (λ (p : Planned). IsArrival p state set octets (record state { readings = no_readings }) (says line)) (sym at.active)
          (inr (record { error = is.error; cause = is.cause; state = refl; reported = refl }));
      stands = record {
        at = record { active = at.active; cfn = at.cfn; layer = subst (λ (v : LayerRunning). StandsFor planned.config state.layer v) (sym is.same) at.layer };
        readings = λ i inside. none_taken (record node { layer = new; rx_sets = rx_sets }) i quiet.read;
      };
      shows = record { iub = quiet.iub };
      tells = told_one shows before after _ is.shown;
    }

-- 10 ms have passed
pub ticked : {S : Type 0} (shows : S → Line → S → Type 0) (planned : Planned) (state : State) (node : Node) (new : LayerRunning) (tx_buffers : List IubTxBuffer) (before after : S) → NothingShown node → IsAt planned state node → new.out ≡ Down
    → HasStarted planned.config node.cfn (ticks planned.config state.layer) new → AreServed shows planned node.cfn new 8 tx_buffers before after
    → Stepped planned state Tick (record node { cfn = (node.cfn + 1) % 256; layer = new; tx_buffers = tx_buffers }) (Tells shows before after)
ticked shows planned state node new tx_buffers before after quiet at down started served =
    let next : State = ticking state started.next in
    let output : Output = record { lines = sent_lines (sent_of tx_buffers) 8; sent = None; iub = sent_of tx_buffers } in
    record {
      next = next;
      output = output;
      step = subst (λ (p : Planned). IsTick p state next output) (sym at.active) (record {
        start = subst (λ n. IsStart planned.config Down n (ticks planned.config state.layer) started.next) at.cfn
            (subst (λ (d : Dir). IsStart planned.config d node.cfn (ticks planned.config state.layer) started.next) down started.start);
        state = refl;
        iub = λ s few. subst (λ n. IsSent planned.config n started.next s (sent_of tx_buffers s)) at.cfn
            (gives_sent planned.config node.cfn started.next new s (sent_of tx_buffers s) started.stands down (served.sets s few));
        reported = refl;
        no_radio = refl;
      });
      stands = record {
        at = record { active = at.active; cfn = ap (λ n. (n + 1) % 256) at.cfn; layer = started.stands };
        readings = λ i inside. none_taken node i quiet.read;
      };
      shows = record { iub = λ s few. refl };
      tells = served.told;
    }

-- layer 2 takes a unit, and blocks a combination of the downlink
pub can_offer : (planned : Planned) (node : Node) (b : ℕ) → IsNodeOf planned node → SendsDown planned.config b → CanOffer node.layer b
can_offer planned node b opened down = record {
  config = planned.config;
  layer = opened.layer.layer;
  stands = opened.layer.stands;
  there = down.there;
  sends = subst (λ (d : Dir). IsSome (channel_of planned.config d b)) (sym opened.sends) down.sends;
}

pub listed : (planned : Planned) (node : Node) (c : ℕ) → IsNodeOf planned node → c < length planned.config.downlink.side.combinations → c < length node.layer.blocked
listed planned node c opened inside =
    subst (λ n. c < n) (sym (opened.layer.stands.listed ∙ ap (λ (d : Dir). length (side_of planned.config d).combinations) opened.sends)) inside
