-- A step of a terminal has one output.
use Rattle.std.proofs.Common.{◌≡◌, ◌<◌, ◌+◌, ◌%◌, ◌∙◌, ◌++◌, ℕ, zero, suc, List, [], ◌∷◌, length, arith, refl, ap, ap₂, sym, subst, Some}
use Rattle.std.specs.List.{All}
use Rattle.dch_bits.specs.declared.bit.Bit.{Bit}
use Rattle.dch_types.specs.declared.channel.Dir.TheVariants.{Up, Down}
use Rattle.dch_types.specs.declared.config.Config.{Config}
use Rattle.dch_accept.specs.Blocks.{Held}
use Rattle.dch_accept.specs.Plans.{IsPlanned, Planned}
use Rattle.dch_node.specs.Lines.{Line, Phy}
use Rattle.dch_node.specs.Outputs.{IsSameOutput}
use Rattle.dch_node.specs.Traces.{Reaches}
use Rattle.dch_node.specs.Values.{Output, Radio, no_output, says}
use Rattle.dch_node.proofs.Outputs.{HasOneOutput, equal_output, same_output, trace_same}
use Rattle.dch_layer2.specs.Coming.{came_of}
use Rattle.dch_layer2.specs.Layers.{Layer, Outcome, offers, takes, ticks}
use Rattle.dch_layer2.specs.Reading.{Bad, Nothing, Read, Reading, reads, reads_below}
use Rattle.dch_layer2.specs.SameLayers.{IsSameLayer}
use Rattle.dch_layer2.specs.Starting.{IsStart}
use Rattle.dch_layer2.proofs.OneStart.{start_same}
use Rattle.dch_layer2.proofs.SameLayers.{IsSameOutcome, all_read_same, blocks_same, changed_same, offers_same, same_layer, ticks_same}
use Rattle.dch_ue.specs.Same.{BringsPlanned, IsSameState, ReadsSame}
use Rattle.dch_ue.specs.State.{BlockedCombination, Change, DownlinkFrame, Event, OfferedUnit, State, Tick}
use Rattle.dch_ue.specs.Steps.{IsOffer, IsRadioFrame, IsTick, Steps, has_read}
use Rattle.dch_ue.proofs.OneFrame.{radio_one}
use Rattle.dch_ue.proofs.OneReading.{frames_same, tick_reading}

pub same_state : (state : State) → IsSameState state state
same_state state = record { planned = refl; cfn = refl; came = refl; frames = λ k. refl; layer = same_layer state.layer }

-- the next states, and the outputs
record IsSameStep (new newer : State) (output more : Output) : Type 0 where
  states : IsSameState new newer
  outputs : IsSameOutput output more

states_are : (new newer next later : State) → new ≡ next → newer ≡ later → IsSameState next later → IsSameState new newer
states_are new newer next later a b same = subst (λ (s : State). IsSameState s newer) (sym a) (subst (λ (s : State). IsSameState next s) (sym b) same)

-- a unit is offered
offer_same : (planned : Planned) (old new older newer : State) (b : ℕ) (octets : List ℕ) (bits : List Bit) (output more : Output) → IsSameState old older
    → IsOffer planned old b octets bits new output → IsOffer planned older b octets bits newer more → IsSameStep new newer output more
offer_same planned old new older newer b octets bits output more same x y =
    let is : IsSameOutcome (offers planned.config Up b octets bits old.layer) (offers planned.config Up b octets bits older.layer) = offers_same planned.config Up b octets bits old.layer older.layer same.layer in record {
      states = states_are new newer _ _ x.state y.state (record { planned = same.planned; cfn = same.cfn; came = same.came; frames = same.frames; layer = is.layer });
      outputs = equal_output output more (y.reported ∙ ap says is.lines ∙ sym x.reported);
    }

-- what layer 2 does with readings that say the same
reading_same : (config : Config) (i : ℕ) (reading other : Reading) (layer : Layer) → ReadsSame reading other → reads config Down i other layer ≡ reads config Down i reading layer
reading_same config i Nothing other layer same = ap (λ (r : Reading). reads config Down i r layer) same
reading_same config i (Read held) other layer same =
    ap (λ (r : Reading). reads config Down i r layer) same.is ∙ ap (λ (h : Held). takes config Down i 0 (came_of h) layer) same.blocks
reading_same config i (Bad frame) other layer same = ap (λ (r : Reading). reads config Down i r layer) same

readings_same : (config : Config) (readings others : ℕ → Reading) (n : ℕ) (layer : Layer) → ((i : ℕ) → i < n → ReadsSame (readings i) (others i)) → reads_below config Down others n layer ≡ reads_below config Down readings n layer
readings_same config readings others zero layer same = refl
readings_same config readings others (suc n) layer same =
    let first : reads_below config Down others n layer ≡ reads_below config Down readings n layer = readings_same config readings others n layer (λ i early. same i (omega arith)) in
    ap (λ (o : Outcome). record { layer = (reads config Down n (others n) o.layer).layer; lines = o.lines ++ (reads config Down n (others n) o.layer).lines }) first
    ∙ ap (λ (o : Outcome). record { layer = o.layer; lines = (reads_below config Down readings n layer).lines ++ o.lines })
    (reading_same config n (readings n) (others n) (reads_below config Down readings n layer).layer (same n (omega arith)))

has_read_same : (planned : Planned) (readings others : ℕ → Reading) (layer other : Layer) → ((i : ℕ) → ReadsSame (readings i) (others i)) → IsSameLayer layer other
    → IsSameOutcome (has_read planned readings layer) (has_read planned others other)
has_read_same planned readings others layer other same layers =
    let n : ℕ = length planned.config.downlink.side.channels in
    subst (λ (o : Outcome). IsSameOutcome (has_read planned readings layer) o) (sym (readings_same planned.config readings others n (ticks planned.config other) (λ i inside. same i)))
    (all_read_same planned.config Down readings n (ticks planned.config layer) (ticks planned.config other) (ticks_same planned.config layer other layers))

-- 10 ms pass
tick_same : (planned : Planned) (old new older newer : State) (output more : Output) → IsSameState old older → ((i : ℕ) → ReadsSame (new.readings i) (newer.readings i))
    → IsTick planned old new output → IsTick planned older newer more → IsSameStep new newer output more
tick_same planned old new older newer output more same readings a b =
    let read : IsSameOutcome (has_read planned new.readings old.layer) (has_read planned newer.readings older.layer) = has_read_same planned new.readings newer.readings old.layer older.layer readings same.layer in
    let layer : IsSameLayer new.layer newer.layer = start_same planned.config Up old.cfn (has_read planned new.readings old.layer).layer new.layer (has_read planned newer.readings older.layer).layer newer.layer
    read.layer a.start (subst (λ c. IsStart planned.config Up c (has_read planned newer.readings older.layer).layer newer.layer) same.cfn b.start) in
    let radio : b.radio ≡ a.radio = radio_one planned old.cfn new.layer newer.layer a.radio b.radio layer.running (λ i inside. layer.given i) a.written
    (subst (λ c. IsRadioFrame planned c newer.layer b.radio) same.cfn b.written) in record {
      states = states_are new newer _ _ a.state b.state (record {
        planned = same.planned;
        cfn = ap (λ n. (n + 1) % 256) same.cfn;
        came = refl;
        frames = λ k. frames_same old older k same.cfn same.came (same.frames k);
        layer = layer;
      });
      outputs = record {
        lines = b.reported ∙ ap₂ (λ (ls : List Line) (r : Radio). ls ++ Phy Up r.tfci r.cells ∷ []) read.lines radio ∙ sym a.reported;
        sent = b.sent ∙ ap (λ (r : Radio). Some r) radio ∙ sym a.sent;
        iub = λ s inside. b.no_iub s inside ∙ sym (a.no_iub s inside);
      };
    }

-- any event
step_same : (old new older newer : State) (event : Event) (output more : Output) → IsPlanned old.planned → IsSameState old older → Steps old event new output → Steps older event newer more → IsSameStep new newer output more
step_same old new older newer (OfferedUnit b octets bits) output more planned same x y =
    offer_same old.planned old new older newer b octets bits output more same x (subst (λ (p : Planned). IsOffer p older b octets bits newer more) same.planned y)
step_same old new older newer (BlockedCombination c on) output more planned same x y = record {
  states = states_are new newer _ _ x.0 y.0 (record { planned = same.planned; cfn = same.cfn; came = same.came; frames = same.frames; layer = blocks_same c on old.layer older.layer same.layer });
  outputs = equal_output output more (y.1 ∙ sym x.1);
}
step_same old new older newer (DownlinkFrame frame) output more planned same x y = record {
  states = states_are new newer _ _ x.0 y.0 (record { planned = same.planned; cfn = same.cfn; came = refl; frames = same.frames; layer = same.layer });
  outputs = equal_output output more (y.1 ∙ sym x.1);
}
step_same old new older newer Tick output more planned same x y =
    tick_same old.planned old new older newer output more same (tick_reading old new older newer output more planned same.planned same.cfn same.came same.frames x y) x
    (subst (λ (p : Planned). IsTick p older newer more) same.planned y)
step_same old new older newer (Change other) output more planned same x y = record {
  states = states_are new newer _ _ x.state y.state (record { planned = refl; cfn = same.cfn; came = refl; frames = λ k. refl; layer = changed_same other.config Up old.layer older.layer same.layer });
  outputs = equal_output output more (y.quiet ∙ sym x.quiet);
}

pub step_states : (old new older newer : State) (event : Event) (output more : Output) → IsPlanned old.planned → IsSameState old older → Steps old event new output → Steps older event newer more → IsSameState new newer
step_states old new older newer event output more planned same x y = (step_same old new older newer event output more planned same x y).states

pub step_outputs : (old new older newer : State) (event : Event) (output more : Output) → IsPlanned old.planned → IsSameState old older → Steps old event new output → Steps older event newer more → IsSameOutput output more
step_outputs old new older newer event output more planned same x y = (step_same old new older newer event output more planned same x y).outputs

-- the configuration that is active is an accepted one
planned_by : (old new : State) → new ≡ old → IsPlanned old.planned → IsPlanned new.planned
planned_by old new same is = subst (λ (s : State). IsPlanned s.planned) (sym same) is

step_planned : (old new : State) (event : Event) (output : Output) → IsPlanned old.planned → BringsPlanned event → Steps old event new output → IsPlanned new.planned
step_planned old new (OfferedUnit b octets bits) output is brings step = planned_by _ new step.state is
step_planned old new (BlockedCombination c on) output is brings step = planned_by _ new step.0 is
step_planned old new (DownlinkFrame frame) output is brings step = planned_by _ new step.0 is
step_planned old new Tick output is brings step = planned_by _ new step.state is
step_planned old new (Change planned) output is brings step = planned_by _ new step.state brings

pub one_output : HasOneOutput Steps (λ state. IsPlanned state.planned) BringsPlanned IsSameState
one_output = record { keeps = step_planned; states = step_states; outputs = step_outputs }

pub trace_one : (old older new newer : State) (events : List Event) (last more : Output) (lines rest : List Line) → IsPlanned old.planned → All BringsPlanned events → IsSameState old older
    → Reaches Steps old events new last lines → Reaches Steps older events newer more rest → IsSameState new newer × ((rest ≡ lines) × IsSameOutput last more)
trace_one old older new newer events last more lines rest planned brings same a b =
    trace_same Steps (λ state. IsPlanned state.planned) BringsPlanned IsSameState one_output old older new newer no_output no_output last more events lines rest planned brings same (same_output no_output) a b
