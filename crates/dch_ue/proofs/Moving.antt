-- What the parts of a terminal do with an event, as a step of the definition.
use Rattle.std.proofs.Common.{◌≡◌, ◌<◌, ◌∙◌, ℕ, List, [], ◌∷◌, length, refl, ap, sym, subst, Bool, Option, None, false}
use Rattle.std.specs.Prelude.{IsSome}
use Rattle.dch_bits.specs.declared.bit.Bit.{Bit}
use Rattle.dch_bits.specs.declared.offer.Offer.{Offer}
use Rattle.dch_types.specs.declared.channel.Dir.{Dir}
use Rattle.dch_types.specs.declared.channel.Dir.TheVariants.{Up, Down}
use Rattle.dch_types.specs.Parts.{side_of}
use Rattle.dch_accept.specs.Plans.{Planned}
use Rattle.dch_tti.specs.declared.outcome.TtiOutcome.{TtiOutcome}
use Rattle.dch_tti.specs.RxFrames.{RxFrame}
use Rattle.dch_indication.proofs.Telling.{told_one}
use Rattle.dch_node.specs.Lines.{Line}
use Rattle.dch_node.specs.RxFrames.{KeepsRadio}
use Rattle.dch_node.specs.Standing.{AreNone, Tells}
use Rattle.dch_node.specs.Values.{Radio, says}
use Rattle.dch_layer2.specs.Bearings.{answers, channel_of, line_of_answer}
use Rattle.dch_layer2.specs.Layers.{blocks, offers}
use Rattle.dch_layer2.specs.Standing.{CanOffer, Represents as StandsFor}
use Rattle.dch_layer2.specs.Values.{LayerRunning}
use Rattle.dch_txframes.specs.Values.{radio_if}
use Rattle.dch_ue.specs.Moves.{Comes}
use Rattle.dch_ue.specs.Opened.{IsNodeOf}
use Rattle.dch_ue.specs.Standing.{HasFrames, IsAt, NothingShown, SendsUp, Stepped}
use Rattle.dch_ue.specs.State.{BlockedCombination, DownlinkFrame, Event, OfferedUnit, State, coming, with_layer}
use Rattle.dch_ue.specs.Steps.{IsOffer}
use Rattle.dch_ue.specs.Values.{DownlinkReceiver, Node, RxTti, blocks_read, radio_shown, reading_if, readings_of, tti_at}

-- where nothing was read, nothing is taken
pub none_taken : (ttis : List RxTti) (i : ℕ) → (tti_at ttis i).outcome ≡ None → blocks_read (readings_of ttis i) ≡ None
none_taken ttis i none = ap (λ (o : Option TtiOutcome). blocks_read (reading_if o (tti_at ttis i).held)) none

-- where nothing was sent, no radio frame is shown
pub none_shown : (node : Node) → node.transmitter.radio.sent ≡ false → radio_shown node ≡ None
none_shown node quiet = ap (λ b. radio_if b node.transmitter.radio.frame) quiet

-- a unit was offered
pub offered : {S : Type 0} (shows : S → Line → S → Type 0) (planned : Planned) (state : State) (node : Node) (new : LayerRunning) (b : ℕ) (octets : List ℕ) (bits : List Bit) (answer : Offer) (before after : S) → NothingShown node → IsAt planned state node → node.layer.out ≡ Up
    → answer ≡ answers planned.config node.layer.out b octets bits (state.layer.bearings b) → StandsFor planned.config (offers planned.config node.layer.out b octets bits state.layer).layer new
    → shows before (line_of_answer Up b answer) after → Stepped planned state (OfferedUnit b octets bits) (record node { layer = new }) (Tells shows before after)
offered shows planned state node new b octets bits answer before after quiet at up answered stands shown = record {
  next = with_layer state (offers planned.config Up b octets bits state.layer).layer;
  output = says (offers planned.config Up b octets bits state.layer).lines;
  step = subst (λ (p : Planned). IsOffer p state b octets bits (with_layer state (offers planned.config Up b octets bits state.layer).layer) (says (offers planned.config Up b octets bits state.layer).lines)) (sym at.active)
      (record { state = refl; reported = refl });
  stands = record {
    at = record {
      active = at.active;
      cfn = at.cfn;
      frames = record { before = at.frames.before; last = at.frames.last; came = at.frames.came; none = at.frames.none };
      layer = subst (λ (d : Dir). StandsFor planned.config (offers planned.config d b octets bits state.layer).layer new) up stands;
      loaded = at.loaded;
    };
    readings = λ i inside. none_taken node.receiver.ttis i (quiet.read i);
  };
  shows = record { radio = none_shown node quiet.radio };
  tells = subst (λ (o : Offer). Tells shows before after (line_of_answer Up b o ∷ [])) (answered ∙ ap (λ (d : Dir). answers planned.config d b octets bits (state.layer.bearings b)) up)
      (told_one shows before after _ shown);
}

-- a combination was blocked, or is free
pub blocked_now : (planned : Planned) (state : State) (node : Node) (new : LayerRunning) (c : ℕ) (on : Bool) → NothingShown node → IsAt planned state node
    → StandsFor planned.config (blocks c on state.layer) new → Stepped planned state (BlockedCombination c on) (record node { layer = new }) AreNone
blocked_now planned state node new c on quiet at stands = record {
  next = with_layer state (blocks c on state.layer);
  output = says [];
  step = (refl, refl);
  stands = record {
    at = record {
      active = at.active;
      cfn = at.cfn;
      frames = record { before = at.frames.before; last = at.frames.last; came = at.frames.came; none = at.frames.none };
      layer = stands;
      loaded = at.loaded;
    };
    readings = λ i inside. none_taken node.receiver.ttis i (quiet.read i);
  };
  shows = record { radio = none_shown node quiet.radio };
  tells = refl;
}

-- the radio frame of the CFN came
came_frames : (planned : Planned) (state : State) (radio : Option Radio) (old new : DownlinkReceiver) → HasFrames planned state old → Comes planned state.cfn radio old new → HasFrames planned (coming state radio) new
came_frames planned state radio old new has comes = record {
  before = λ k few apart. subst (λ (f : RxFrame). KeepsRadio planned Down (state.frames k) f) (sym (comes.hears.others k apart)) (has.before k few apart);
  last = λ pushed. comes.hears.last;
  came = λ pushed. comes.hears.kept;
  none = λ (missing : new.pushed ≡ false). absurd (cc (sym comes.pushed ∙ missing));
}

pub came : (planned : Planned) (state : State) (node : Node) (new : DownlinkReceiver) (radio : Option Radio) → NothingShown node → IsAt planned state node → Comes planned node.cfn radio node.receiver new
    → Stepped planned state (DownlinkFrame radio) (record node { receiver = new }) AreNone
came planned state node new radio quiet at comes = record {
  next = coming state radio;
  output = says [];
  step = (refl, refl);
  stands = record {
    at = record {
      active = at.active;
      cfn = at.cfn;
      frames = came_frames planned state radio node.receiver new at.frames (subst (λ n. Comes planned n radio node.receiver new) at.cfn comes);
      layer = at.layer;
      loaded = at.loaded;
    };
    readings = λ i inside. none_taken new.ttis i (ap (λ (ttis : List RxTti). (tti_at ttis i).outcome) comes.ttis ∙ quiet.read i);
  };
  shows = record { radio = none_shown node quiet.radio };
  tells = refl;
}

-- where there is no line, nobody is told
pub untold : {S : Type 0} (shows : S → Line → S → Type 0) (planned : Planned) (state : State) (event : Event) (node : Node) (user : S) → Stepped planned state event node AreNone → Stepped planned state event node (Tells shows user user)
untold shows planned state event node user is = record {
  next = is.next;
  output = is.output;
  step = is.step;
  stands = is.stands;
  shows = is.shows;
  tells = subst (λ (ls : List Line). Tells shows user user ls) (sym is.tells) refl;
}

-- layer 2 takes a unit, and blocks a combination of the uplink
pub can_offer : (planned : Planned) (node : Node) (b : ℕ) → IsNodeOf planned node → SendsUp planned.config b → CanOffer node.layer b
can_offer planned node b opened up = record {
  config = planned.config;
  layer = opened.layer.layer;
  stands = opened.layer.stands;
  there = up.there;
  sends = subst (λ (d : Dir). IsSome (channel_of planned.config d b)) (sym opened.sends) up.sends;
}

pub listed : (planned : Planned) (node : Node) (c : ℕ) → IsNodeOf planned node → c < length planned.config.uplink.side.combinations → c < length node.layer.blocked
listed planned node c opened inside =
    subst (λ n. c < n) (sym (opened.layer.stands.listed ∙ ap (λ (d : Dir). length (side_of planned.config d).combinations) opened.sends)) inside
