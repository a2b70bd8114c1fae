-- A terminal that was just opened.
use Rattle.std.proofs.Common.{◌≡◌, ◌<◌, ◌∙◌, ℕ, [], List, Option, None, length, arith, refl, sym, inl, inr, true, false, eq-eqb}
use Rattle.std.specs.Prelude.{◌%◌}
use Rattle.dch_types.specs.declared.channel.Dir.TheVariants.{Up, Down}
use Rattle.dch_types.specs.declared.channel.Side.{Side}
use Rattle.dch_types.specs.Limits.{IsFrames, IsSide}
use Rattle.dch_types.specs.Parts.{channel_at}
use Rattle.dch_types.specs.Timing.{starts}
use Rattle.dch_accept.specs.Frames.{most_cells}
use Rattle.dch_accept.specs.Plans.{Planned}
use Rattle.dch_tti.specs.RxFrames.{AreMissing}
use Rattle.dch_node.specs.Lines.{Line}
use Rattle.dch_node.specs.Values.{no_output}
use Rattle.dch_layer2.specs.Layers.{opened_layer}
use Rattle.dch_layer2.proofs.BoundedLayers.{opened_are}
use Rattle.dch_layer2.specs.Standing.{IsOpened}
use Rattle.dch_layer2.specs.Values.{LayerRunning}
use Rattle.dch_ue.specs.Opened.{AreNewTtis, IsNodeOf, IsReceiverOf, IsTransmitterOf}
use Rattle.dch_ue.specs.Standing.{RepresentsHistory}
use Rattle.dch_ue.specs.State.{Event, opened_state}
use Rattle.dch_ue.specs.Values.{DownlinkReceiver, NextParts, Node, UplinkTransmitter}
use Rattle.dch_ue.proofs.Moving.{none_shown, none_taken}

-- its parts, where no second configuration is to follow
abbrev pub opened_node : ℕ → LayerRunning → DownlinkReceiver → UplinkTransmitter → Node
opened_node first layer receiver transmitter = record { cfn = first; layer = layer; receiver = receiver; transmitter = transmitter; next = None }

-- every TTI starts where the CFN is a multiple of 8
starts-eighth : (frames cfn : ℕ) → IsFrames frames → cfn % 8 ≡ 0 → starts frames cfn ≡ true
starts-eighth frames cfn is eighth = elim is [
  | inl one ↦ rw one (eq-eqb (cfn % 1) 0 (omega arith))
  | inr more ↦ elim more [
    | inl two ↦ rw two (eq-eqb (cfn % 2) 0 (omega arith))
    | inr rest ↦ elim rest [
      | inl four ↦ rw four (eq-eqb (cfn % 4) 0 (omega arith))
      | inr eight ↦ rw eight (eq-eqb (cfn % 8) 0 (omega arith))
    ]
  ]
]

-- so the TTI of no channel goes on
pub none_goes_on : (side : Side) (first i : ℕ) → IsSide side → first % 8 ≡ 0 → i < length side.channels → starts (channel_at side i).frames first ≡ false → ⊥
none_goes_on side first i good eighth inside off =
    let on : starts (channel_at side i).frames first ≡ true = starts-eighth (channel_at side i).frames first (good.channels i inside).frames eighth in
    cc (sym on ∙ off)

pub opened_is : (planned : Planned) (first : ℕ) (layer : LayerRunning) (receiver : DownlinkReceiver) (transmitter : UplinkTransmitter) → IsSide planned.config.uplink.side → first % 8 ≡ 0 → IsOpened planned.config Up Down layer → IsReceiverOf planned receiver
    → receiver.pushed ≡ false → IsTransmitterOf planned transmitter → IsNodeOf planned (opened_node first layer receiver transmitter)
opened_is planned first layer receiver transmitter good eighth opened receives missing sends = record {
  sends = opened.sends;
  receives = opened.receives;
  layer = record { layer = opened_layer planned.config Up; stands = opened.stands; bounded = opened_are planned.config Up };
  receiver = receives;
  transmitter = sends;
  noted = λ i inside off. absurd (none_goes_on planned.config.uplink.side first i good eighth inside off);
  last = λ (pushed : receiver.pushed ≡ true). absurd (cc (sym missing ∙ pushed));
}

pub opened_stands : (planned : Planned) (first : ℕ) (layer : LayerRunning) (receiver : DownlinkReceiver) (transmitter : UplinkTransmitter) → IsSide planned.config.uplink.side → first % 8 ≡ 0 → IsOpened planned.config Up Down layer
    → AreMissing (most_cells planned.config Down) 8 receiver.rx_frames.frames → receiver.pushed ≡ false → AreNewTtis planned (length planned.config.downlink.side.channels) receiver.ttis → transmitter.radio.sent ≡ false
    → RepresentsHistory planned planned first [] [] (opened_node first layer receiver transmitter)
opened_stands planned first layer receiver transmitter good eighth opened none missing new quiet = record {
  state = opened_state planned first;
  last = no_output;
  after = (refl, refl, refl);
  stands = record {
    at = record {
      active = refl;
      cfn = refl;
      frames = record {
        before = λ k few apart. none.none k;
        last = λ (pushed : receiver.pushed ≡ true). absurd (cc (sym missing ∙ pushed));
        came = λ (pushed : receiver.pushed ≡ true). absurd (cc (sym missing ∙ pushed));
        none = λ m. refl;
      };
      layer = opened.stands;
      loaded = λ i inside off. absurd (none_goes_on planned.config.uplink.side first i good eighth inside off);
    };
    readings = λ i inside. none_taken receiver.ttis i (new.each i inside);
  };
  shows = record { radio = none_shown (opened_node first layer receiver transmitter) quiet };
}

-- with parts for a second configuration it stands for the same
abbrev pub with_next : Node → Option NextParts → Node
with_next node next = record node { next = next }

pub next_is : (planned : Planned) (node : Node) (next : Option NextParts) → IsNodeOf planned node → IsNodeOf planned (with_next node next)
next_is planned node next opened = record {
  sends = opened.sends;
  receives = opened.receives;
  layer = opened.layer;
  receiver = opened.receiver;
  transmitter = opened.transmitter;
  noted = opened.noted;
  last = opened.last;
}

pub next_stands : (began planned : Planned) (first : ℕ) (events : List Event) (lines : List Line) (node : Node) (next : Option NextParts) → RepresentsHistory began planned first events lines node
    → RepresentsHistory began planned first events lines (with_next node next)
next_stands began planned first events lines node next history = record {
  state = history.state;
  last = history.last;
  after = history.after;
  stands = record {
    at = record {
      active = history.stands.at.active;
      cfn = history.stands.at.cfn;
      frames = history.stands.at.frames;
      layer = history.stands.at.layer;
      loaded = history.stands.at.loaded;
    };
    readings = history.stands.readings;
  };
  shows = record { radio = history.shows.radio };
}
