-- How much text a step makes: less than a report has room for, whatever the state, as long as the bearers hold no more than may be told of in a step.
use Rattle.std.proofs.Common.{◌≡◌, ◌<◌, ◌≤◌, ◌*◌, ℕ, zero, suc, List, Option, Some, None, length, refl, sym, ap, subst, inl, inr, arith, length-append}
use Rattle.std.proofs.lemmas.Bool.Decides.{eqb_tells}
use Rattle.dch_bits.specs.declared.bit.Bit.{Bit}
use Rattle.dch_types.specs.declared.channel.Dir.TheVariants.{Up, Down}
use Rattle.dch_types.specs.declared.config.Config.{Config}
use Rattle.dch_types.specs.Parts.{channel_at}
use Rattle.dch_types.proofs.Sets.{set_small}
use Rattle.dch_config.specs.Good.{IsGood}
use Rattle.dch_accept.specs.Blocks.{Held}
use Rattle.dch_accept.specs.HeldSets.{HeldSet}
use Rattle.dch_accept.specs.Plans.{Planned}
use Rattle.dch_accept.specs.Reports.{step_bytes}
use Rattle.dch_iub.specs.Forms.{IsReadForm}
use Rattle.dch_script.proofs.Adding.{text_of-append}
use Rattle.dch_node.specs.IubFrames.{refusal_number}
use Rattle.dch_node.specs.Lines.{IubBad, Line}
use Rattle.dch_script.specs.LineText.{text_of}
use Rattle.dch_node.specs.Standing.{Tells}
use Rattle.dch_node.specs.Values.{Output}
use Rattle.dch_node.proofs.IubFrames.{refusal_small}
use Rattle.dch_txframes.proofs.Lengths.{read_octets-le}
use Rattle.dch_steptext.specs.Reports.{TellsFew}
use Rattle.dch_steptext.proofs.LayerBytes.{offer_line}
use Rattle.dch_steptext.proofs.ReadingBytes.{readings_room}
use Rattle.dch_steptext.proofs.Texts.{iub_line, short_line}
use Rattle.dch_layer2.specs.Layers.{Layer}
use Rattle.dch_layer2.specs.BoundedBearers.{AreBounded}
use Rattle.dch_layer2.proofs.PduSizes.{side_good}
use Rattle.dch_layer2.specs.Bounded.{IsTti}
use Rattle.dch_layer2.specs.Reading.{Nothing, Read, Reading}
use Rattle.dch_rnc.specs.declared.event.RncEvent.{RncEvent}
use Rattle.dch_rnc.specs.declared.event.RncEvent.TheVariants.{Unit as Offered, Block, Iub, Tick as Ticks, Change as Changes}
use Rattle.dch_rnc.specs.Opened.{IsNodeOf}
use Rattle.dch_rnc.specs.Standing.{IsActiveBefore, IsReadyFor, MayCome, Represents, Stepped, blocks_read, event_of}
use Rattle.dch_rnc.specs.State.{State, set_readings}
use Rattle.dch_rnc.specs.Steps.{IsArrival, IsOffer, IsSent, IsTick, sent_line, sent_lines}
use Rattle.dch_rnc.specs.Values.{Node, taken_shown}
use Rattle.dch_rnc.proofs.Taking.{reading_off, reading_on}

-- what is read of a frame is a TTI of each channel of its set
tti_read : (config : Config) (set : ℕ) (frame : List ℕ) (cfn qe : ℕ) (held : HeldSet) (i : ℕ) → IsReadForm config Up set frame cfn qe held → i < length config.uplink.side.channels → IsTti config Up i (set_readings config.uplink.side set held i)
tti_read config set frame cfn qe held i is inside = elim (eqb_tells (channel_at config.uplink.side i).set set) [
  | inl same ↦ subst (λ (r : Reading). IsTti config Up i r) (sym (reading_on config.uplink.side set held i inside same.1)) (is.formats i inside same.1)
  | inr other ↦ subst (λ (r : Reading). IsTti config Up i r) (sym (reading_off config.uplink.side set held i other.1)) tt
]

-- the lines on the frames of the first sets
sent_short : (config : Config) (cfn : ℕ) (layer : Layer) (set : ℕ) (sent : Option (List ℕ)) → IsGood config → set < 8 → IsSent config cfn layer set sent → length (text_of (sent_line set sent)) ≤ 300000
sent_short config cfn layer set None good few is = omega arith
sent_short config cfn layer set (Some octets) good few is =
    iub_line Down set octets (omega (arith, few)) (read_octets-le config Down set octets cfn 0 is.1.held (side_good config Down good) is.1.written.read)

all_short : (config : Config) (cfn : ℕ) (layer : Layer) (iub : ℕ → Option (List ℕ)) (n : ℕ) → IsGood config → n ≤ 8 → ((s : ℕ) → s < 8 → IsSent config cfn layer s (iub s)) → length (text_of (sent_lines iub n)) ≤ n * 300000
all_short config cfn layer iub zero good few are = omega arith
all_short config cfn layer iub (suc n) good few are =
    omega (
      arith,
      ap length (text_of-append (sent_lines iub n) (sent_line n (iub n))),
      length-append (text_of (sent_lines iub n)) (text_of (sent_line n (iub n))),
      all_short config cfn layer iub n good (omega (arith, few)) are,
      sent_short config cfn layer n (iub n) good (omega (arith, few)) (are n (omega (arith, few))),
    )

-- the text of each kind of step
offer_few : (planned : Planned) (old new : State) (b : ℕ) (octets : List ℕ) (bits : List Bit) (output : Output) → b < 256 → IsOffer planned old b octets bits new output → length (text_of output.lines) < step_bytes planned.config
offer_few planned old new b octets bits output small step =
    let own = offer_line planned.config Down b octets bits old.layer (omega (arith, small)) in
    subst (λ (o : Output). length (text_of o.lines) < step_bytes planned.config) (sym step.reported) (omega (arith, own))

arrival_few : (planned : Planned) (old new : State) (set : ℕ) (octets : List ℕ) (output : Output) → IsGood planned.config → AreBounded planned.config old.layer → set < 256 → IsArrival planned old set octets new output → length (text_of output.lines) < step_bytes planned.config
arrival_few planned old new set octets output good bounded small (inl read) =
    let config : Config = planned.config in
    subst (λ (o : Output). length (text_of o.lines) < step_bytes config) (sym read.reported)
    (omega (arith, readings_room config Up (set_readings config.uplink.side set read.held) (length config.uplink.side.channels) old.layer good (omega arith) (λ i inside. tti_read config set octets read.cfn read.qe read.held i read.read inside) bounded))
arrival_few planned old new set octets output good bounded small (inr refused) =
    subst (λ (o : Output). length (text_of o.lines) < step_bytes planned.config) (sym refused.reported)
    (omega (arith, short_line (IubBad Up set (refusal_number refused.error)) (omega (arith, small), refusal_small refused.error)))

tick_few : (planned : Planned) (old new : State) (output : Output) → IsGood planned.config → IsTick planned old new output → length (text_of output.lines) < step_bytes planned.config
tick_few planned old new output good step =
    subst (λ (ls : List Line). length (text_of ls) < step_bytes planned.config) (sym step.reported)
    (omega (arith, all_short planned.config old.cfn new.layer output.iub 8 good (omega arith) step.iub))

-- a state whose bearers hold no more
abbrev reading_of : Option Held → Reading
reading_of None = Nothing
reading_of (Some held) = Read held

shown_again : (shown : Option Held) → shown ≡ blocks_read (reading_of shown)
shown_again None = refl
shown_again (Some held) = refl

abbrev bounded_state : (planned : Planned) (node : Node) → IsNodeOf planned node → State
bounded_state planned node opened = record { planned = planned; cfn = node.cfn; layer = opened.layer.layer; readings = λ i. reading_of (taken_shown node i) }

bounded_stands : (planned : Planned) (node : Node) (opened : IsNodeOf planned node) → Represents planned (bounded_state planned node opened) node
bounded_stands planned node opened = record {
  at = record { active = refl; cfn = refl; layer = opened.layer.stands };
  readings = λ i inside. shown_again (taken_shown node i);
}

-- so a user is told of lines with less text than a report has room for
abbrev StepsFrom : {U : Type 0} → (U → Line → U → Type 0) → Planned → RncEvent → Node → Node → U → U → Type 0
StepsFrom shows planned event old new before after =
    (was : Planned) (state : State) → IsActiveBefore planned event was old → Represents was state old → Stepped planned state (event_of planned event) new (Tells shows before after)

pub told_few : {U : Type 0} (shows : U → Line → U → Type 0) (planned : Planned) (event : RncEvent) (old new : Node) (before after : U) → IsGood planned.config → IsReadyFor planned event old → MayCome planned event
    → StepsFrom shows planned event old new before after → TellsFew shows (step_bytes planned.config) before after
told_few shows planned (Offered b octets bits) old new before after good opened may steps =
    let state : State = bounded_state planned old opened in
    let is = steps planned state refl (bounded_stands planned old opened) in
    record { lines = is.output.lines; told = is.tells; few = offer_few planned state is.next b octets.now bits.now is.output (omega (arith, may.there, good.few)) is.step }
told_few shows planned (Block c on) old new before after good opened may steps =
    let state : State = bounded_state planned old opened in
    let is = steps planned state refl (bounded_stands planned old opened) in
    record { lines = is.output.lines; told = is.tells; few = subst (λ (o : Output). length (text_of o.lines) < step_bytes planned.config) (sym is.step.1) (omega arith) }
told_few shows planned (Iub set frame) old new before after good opened may steps =
    let state : State = bounded_state planned old opened in
    let is = steps planned state refl (bounded_stands planned old opened) in
    let small : set < 256 = omega (arith, set_small planned.config.uplink.side set (side_good planned.config Up good) may) in
    record { lines = is.output.lines; told = is.tells; few = arrival_few planned state is.next set frame.now is.output good opened.layer.bounded small is.step }
told_few shows planned Ticks old new before after good opened may steps =
    let state : State = bounded_state planned old opened in
    let is = steps planned state refl (bounded_stands planned old opened) in
    record { lines = is.output.lines; told = is.tells; few = tick_few planned state is.next is.output good is.step }
told_few shows planned Changes old new before after good ready may steps =
    let state : State = bounded_state ready.first old ready.opened in
    let is = steps ready.first state ready.next (bounded_stands ready.first old ready.opened) in
    record { lines = is.output.lines; told = is.tells; few = subst (λ (o : Output). length (text_of o.lines) < step_bytes planned.config) (sym is.step.quiet) (omega arith) }
