-- What a terminal tells in a step is limited, and so is its text.
use Rattle.std.proofs.Common.{◌<◌, ◌≤◌, ◌++◌, ℕ, List, [], ◌∷◌, length, refl, ap, arith, inl, inr}
use Rattle.dch_bits.specs.declared.offer.Offer.{Offer}
use Rattle.dch_bits.specs.declared.offer.Offer.TheVariants.{Accepted, Full, WrongSize}
use Rattle.dch_types.specs.declared.channel.Dir.TheVariants.{Up, Down}
use Rattle.dch_types.specs.declared.config.Config.{Config}
use Rattle.dch_config.specs.Good.{IsGood}
use Rattle.dch_accept.specs.Frames.{Frame, IsOpenedFor}
use Rattle.dch_accept.specs.Plans.{Planned}
use Rattle.dch_accept.specs.Reports.{step_bytes}
use Rattle.dch_indication.specs.Lines.{Line, Phy}
use Rattle.dch_indication.proofs.Telling.{told-append, told_one}
use Rattle.dch_script.specs.LineText.{text_of}
use Rattle.dch_node.specs.Standing.{TellsSuch}
use Rattle.dch_layer2.specs.Bearings.{line_of_answer}
use Rattle.dch_layer2.specs.Bounded.{HasLayer}
use Rattle.dch_layer2.specs.Layers.{opened_layer}
use Rattle.dch_layer2.specs.Reading.{Nothing, Reading, reads_below}
use Rattle.dch_layer2.specs.Values.{LayerRunning}
use Rattle.dch_layer2.proofs.BoundedLayers.{opened_are}
use Rattle.dch_steptext.specs.Limits.{AreLimited, IsLimited}
use Rattle.dch_steptext.proofs.ReadingBytes.{readings_room}
use Rattle.dch_steptext.proofs.Texts.{limited_lines, text_long}
use Rattle.dch_ue.specs.Moves.{AreLimitedLines, Receives, Transmits}
use Rattle.dch_ue.specs.Values.{DownlinkReceiver, UplinkTransmitter, readings_of}
use Rattle.dch_ue.proofs.Staying.{ttis_read}

-- lines of nothing that was read
last_alone : (config : Config) (lines : List Line) → AreLimited 1 lines → AreLimitedLines config lines
last_alone config lines limited = record {
  layer = opened_layer config Up;
  bounded = opened_are config Up;
  readings = λ i. Nothing;
  count = 0;
  some = omega arith;
  ttis = λ i early. absurd (omega (arith, early));
  last = lines;
  limited = limited;
  are = refl;
}

-- nobody is told
pub untold_limited : {S : Type 0} (shows : S → Line → S → Type 0) (config : Config) (user : S) → TellsSuch shows (AreLimitedLines config) user user
untold_limited shows config user = record { lines = []; told = refl; such = last_alone config [] (record { few = omega arith; each = tt }) }

-- the line on a unit that was offered
answer_limited : (b : ℕ) (answer : Offer) → b < 1000 → IsLimited (line_of_answer Up b answer)
answer_limited b Accepted small = inl small
answer_limited b Full small = inl small
answer_limited b WrongSize small = inl small

pub offered_limited : {S : Type 0} (shows : S → Line → S → Type 0) (config : Config) (b : ℕ) (answer : Offer) (before after : S) → b < 1000 → shows before (line_of_answer Up b answer) after → TellsSuch shows (AreLimitedLines config) before after
offered_limited shows config b answer before after small shown = record {
  lines = line_of_answer Up b answer ∷ [];
  told = told_one shows before after _ shown;
  such = last_alone config (line_of_answer Up b answer ∷ []) (record { few = omega arith; each = (answer_limited b answer small, tt) });
}

-- the line on the radio frame
frame_limited : (config : Config) (frame : Frame) → IsOpenedFor config Up frame → length frame.cells ≤ 57600 → IsLimited (Phy Up frame.tfci frame.cells)
frame_limited config frame opened few = inr (inr (record { dir = Up; tfci = frame.tfci; cells = frame.cells; is = refl; short = omega (arith, opened.tfci); few = few }))

-- the lines on what was read, and on the radio frame
pub ticked_limited : {S : Type 0} (shows : S → Line → S → Type 0) (planned : Planned) (cfn : ℕ) (old receiver : DownlinkReceiver) (mid read new : LayerRunning) (was transmitter : UplinkTransmitter) (before between after : S) → IsGood planned.config → HasLayer planned.config mid
    → Receives shows planned cfn old receiver mid read before between → Transmits shows planned cfn new was transmitter between after → TellsSuch shows (AreLimitedLines planned.config) before after
ticked_limited shows planned cfn old receiver mid read new was transmitter before between after good has receives transmits =
    let config : Config = planned.config in
    let readings : ℕ → Reading = readings_of receiver.ttis in
    let count : ℕ = length config.downlink.side.channels in
    let first : List Line = (reads_below config Down readings count has.layer).lines in
    let frame : Frame = transmitter.radio.frame in
    let last : List Line = Phy Up frame.tfci frame.cells ∷ [] in
    record {
      lines = first ++ last;
      told = told-append shows before between after first last (receives.reads.read.told has.layer has.stands) (told_one shows between after _ transmits.sends.shown);
      such = record {
        layer = has.layer;
        bounded = has.bounded;
        readings = readings;
        count = count;
        some = omega arith;
        ttis = ttis_read shows planned cfn old receiver mid read before between good receives;
        last = last;
        limited = record { few = omega arith; each = (frame_limited config frame transmits.sends.opened.radio transmits.sends.few, tt) };
        are = refl;
      };
    }

-- so their text fits in the report of a step
pub limited_few : (config : Config) (lines : List Line) → IsGood config → AreLimitedLines config lines → length (text_of lines) < step_bytes config
limited_few config lines good is =
    let first : List Line = (reads_below config Down is.readings is.count is.layer).lines in
    omega (
      arith,
      ap (λ (ls : List Line). length (text_of ls)) is.are,
      text_long first is.last,
      readings_room config Down is.readings is.count is.layer good is.some is.ttis is.bounded,
      limited_lines 1 is.last is.limited,
    )
