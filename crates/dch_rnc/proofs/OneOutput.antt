-- A step of a network controller has one output.
use Rattle.std.proofs.Common.{◌≡◌, ◌<◌, ◌+◌, ◌%◌, ◌∙◌, ◌++◌, ℕ, zero, suc, List, [], ◌∷◌, length, arith, refl, ap, ap₂, sym, subst, inl, inr, Option}
use Rattle.std.specs.List.{All}
use Rattle.std.proofs.lemmas.List.Elements.{All-cons, All-nil}
use Rattle.dch_bits.specs.declared.bit.Bit.{Bit}
use Rattle.dch_types.specs.declared.channel.Dir.TheVariants.{Up, Down}
use Rattle.dch_accept.specs.Plans.{Planned}
use Rattle.dch_iub.specs.Back.{IsReadBack}
use Rattle.dch_iub.proofs.Back.{one_reading}
use Rattle.dch_iub.proofs.Refused.{no_form}
use Rattle.dch_node.specs.Lines.{IubBad, Line}
use Rattle.dch_node.specs.Outputs.{IsSameOutput}
use Rattle.dch_node.specs.Traces.{Reaches}
use Rattle.dch_node.specs.Values.{Output, no_output, says}
use Rattle.dch_node.proofs.IubFrames.{one_number}
use Rattle.dch_node.proofs.Outputs.{HasOneOutput, equal_output, same_output, trace_same}
use Rattle.dch_layer2.specs.Layers.{Outcome, offers, ticks}
use Rattle.dch_layer2.specs.Reading.{reads_below}
use Rattle.dch_layer2.specs.SameLayers.{IsSameLayer}
use Rattle.dch_layer2.specs.Starting.{IsStart}
use Rattle.dch_layer2.proofs.OneStart.{start_same}
use Rattle.dch_layer2.proofs.SameLayers.{IsSameOutcome, all_read_same, blocks_same, changed_same, offers_same, same_layer, ticks_same}
use Rattle.dch_rnc.specs.Same.{IsSameState}
use Rattle.dch_rnc.specs.State.{BlockedCombination, Change, Event, IubFrame, OfferedUnit, State, Tick, set_readings}
use Rattle.dch_rnc.specs.Steps.{IsArrival, IsOffer, IsReadFrame, IsRefusedFrame, IsSent, IsTick, Steps, sent_line, sent_lines}
use Rattle.dch_rnc.proofs.Frames.{sent_one}
use Rattle.dch_rnc.proofs.One.{frame_same}

pub same_state : (state : State) → IsSameState state state
same_state state = record { planned = refl; cfn = refl; layer = same_layer state.layer }

-- the next states, and the outputs
record IsSameStep (new newer : State) (output more : Output) : Type 0 where
  states : IsSameState new newer
  outputs : IsSameOutput output more

states_are : (new newer next later : State) → new ≡ next → newer ≡ later → IsSameState next later → IsSameState new newer
states_are new newer next later a b same = subst (λ (s : State). IsSameState s newer) (sym a) (subst (λ (s : State). IsSameState next s) (sym b) same)

-- a unit is offered
offer_same : (planned : Planned) (old new older newer : State) (b : ℕ) (octets : List ℕ) (bits : List Bit) (output more : Output) → IsSameState old older
    → IsOffer planned old b octets bits new output → IsOffer planned older b octets bits newer more → IsSameStep new newer output more
offer_same planned old new older newer b octets bits output more same x y =
    let is : IsSameOutcome (offers planned.config Down b octets bits old.layer) (offers planned.config Down b octets bits older.layer) = offers_same planned.config Down b octets bits old.layer older.layer same.layer in record {
      states = states_are new newer _ _ x.state y.state (record { planned = same.planned; cfn = same.cfn; layer = is.layer });
      outputs = equal_output output more (y.reported ∙ ap says is.lines ∙ sym x.reported);
    }

-- an Iub frame arrives
read_same : (planned : Planned) (old new older newer : State) (set : ℕ) (octets : List ℕ) (output more : Output) → IsSameState old older
    → IsReadFrame planned old set octets new output → IsReadFrame planned older set octets newer more → IsSameStep new newer output more
read_same planned old new older newer set octets output more same a b =
    let side = planned.config.uplink.side in
    let n : ℕ = length side.channels in
    let back : IsReadBack Up side set a.cfn b.cfn a.qe b.qe a.held b.held = one_reading planned.config Up set a.cfn a.qe b.cfn b.qe octets a.held b.held a.read b.read in
    let frame : reads_below planned.config Up (set_readings side set b.held) n older.layer ≡ reads_below planned.config Up (set_readings side set a.held) n older.layer =
    frame_same planned set a.cfn a.qe b.cfn b.qe a.held b.held older.layer back in
    let is : IsSameOutcome (reads_below planned.config Up (set_readings side set a.held) n old.layer) (reads_below planned.config Up (set_readings side set b.held) n older.layer) =
    subst (λ (o : Outcome). IsSameOutcome (reads_below planned.config Up (set_readings side set a.held) n old.layer) o) (sym frame)
    (all_read_same planned.config Up (set_readings side set a.held) n old.layer older.layer same.layer) in record {
      states = states_are new newer _ _ a.state b.state (record { planned = same.planned; cfn = same.cfn; layer = is.layer });
      outputs = equal_output output more (b.reported ∙ ap says is.lines ∙ sym a.reported);
    }

refused_same : (planned : Planned) (old new older newer : State) (set : ℕ) (octets : List ℕ) (output more : Output) → IsSameState old older
    → IsRefusedFrame planned old set octets new output → IsRefusedFrame planned older set octets newer more → IsSameStep new newer output more
refused_same planned old new older newer set octets output more same a b = record {
  states = states_are new newer _ _ a.state b.state (record { planned = same.planned; cfn = same.cfn; layer = same.layer });
  outputs = equal_output output more
      (b.reported ∙ ap (λ n. says (IubBad Up set n ∷ [])) (one_number Up planned.config.uplink.side planned.config.payload_check set octets a.error b.error a.cause b.cause) ∙ sym a.reported);
}

arrival_same : (planned : Planned) (old new older newer : State) (set : ℕ) (octets : List ℕ) (output more : Output) → IsSameState old older
    → IsArrival planned old set octets new output → IsArrival planned older set octets newer more → IsSameStep new newer output more
arrival_same planned old new older newer set octets output more same (inl a) (inl b) = read_same planned old new older newer set octets output more same a b
arrival_same planned old new older newer set octets output more same (inl a) (inr b) = absurd (no_form planned.config Up set octets b.error b.cause a.cfn a.qe a.held a.read)
arrival_same planned old new older newer set octets output more same (inr a) (inl b) = absurd (no_form planned.config Up set octets a.error a.cause b.cfn b.qe b.held b.read)
arrival_same planned old new older newer set octets output more same (inr a) (inr b) = refused_same planned old new older newer set octets output more same a b

-- 10 ms pass
lines_same : (iub other : ℕ → Option (List ℕ)) (n : ℕ) → ((s : ℕ) → s < n → other s ≡ iub s) → sent_lines other n ≡ sent_lines iub n
lines_same iub other zero same = refl
lines_same iub other (suc n) same = ap₂ (λ (ls ms : List Line). ls ++ ms) (lines_same iub other n (λ s early. same s (omega arith))) (ap (sent_line n) (same n (omega arith)))

tick_same : (planned : Planned) (old new older newer : State) (output more : Output) → older.cfn ≡ old.cfn → IsSameState old older → IsTick planned old new output → IsTick planned older newer more → IsSameStep new newer output more
tick_same planned old new older newer output more cfn same a b =
    let layer : IsSameLayer new.layer newer.layer = start_same planned.config Down old.cfn (ticks planned.config old.layer) new.layer (ticks planned.config older.layer) newer.layer
    (ticks_same planned.config old.layer older.layer same.layer) a.start (subst (λ c. IsStart planned.config Down c (ticks planned.config older.layer) newer.layer) cfn b.start) in
    let iub : (s : ℕ) → s < 8 → more.iub s ≡ output.iub s = λ s inside.
    sent_one planned.config old.cfn new.layer newer.layer s (output.iub s) (more.iub s) (λ i there. layer.given i) (a.iub s inside) (subst (λ c. IsSent planned.config c newer.layer s (more.iub s)) cfn (b.iub s inside)) in record {
      states = states_are new newer _ _ a.state b.state (record { planned = same.planned; cfn = ap (λ n. (n + 1) % 256) cfn; layer = layer });
      outputs = record { lines = b.reported ∙ lines_same output.iub more.iub 8 iub ∙ sym a.reported; sent = b.no_radio ∙ sym a.no_radio; iub = iub };
    }

-- any event
step_same : (old new older newer : State) (event : Event) (output more : Output) → IsSameState old older → Steps old event new output → Steps older event newer more → IsSameStep new newer output more
step_same old new older newer (OfferedUnit b octets bits) output more same x y =
    offer_same old.planned old new older newer b octets bits output more same x (subst (λ (p : Planned). IsOffer p older b octets bits newer more) same.planned y)
step_same old new older newer (BlockedCombination c on) output more same x y = record {
  states = states_are new newer _ _ x.0 y.0 (record { planned = same.planned; cfn = same.cfn; layer = blocks_same c on old.layer older.layer same.layer });
  outputs = equal_output output more (y.1 ∙ sym x.1);
}
step_same old new older newer (IubFrame set octets) output more same x y =
    arrival_same old.planned old new older newer set octets output more same x (subst (λ (p : Planned). IsArrival p older set octets newer more) same.planned y)
step_same old new older newer Tick output more same x y = tick_same old.planned old new older newer output more same.cfn same x (subst (λ (p : Planned). IsTick p older newer more) same.planned y)
step_same old new older newer (Change planned) output more same x y = record {
  states = states_are new newer _ _ x.state y.state (record { planned = refl; cfn = same.cfn; layer = changed_same planned.config Down old.layer older.layer same.layer });
  outputs = equal_output output more (y.quiet ∙ sym x.quiet);
}

pub step_states : (old new older newer : State) (event : Event) (output more : Output) → IsSameState old older → Steps old event new output → Steps older event newer more → IsSameState new newer
step_states old new older newer event output more same x y = (step_same old new older newer event output more same x y).states

pub step_outputs : (old new older newer : State) (event : Event) (output more : Output) → IsSameState old older → Steps old event new output → Steps older event newer more → IsSameOutput output more
step_outputs old new older newer event output more same x y = (step_same old new older newer event output more same x y).outputs

pub one_output : HasOneOutput Steps (λ state. Unit {0}) (λ event. Unit {0}) IsSameState
one_output = record {
  keeps = λ old new event output stands comes step. tt;
  states = λ old new older newer event output more stands same x y. step_states old new older newer event output more same x y;
  outputs = λ old new older newer event output more stands same x y. step_outputs old new older newer event output more same x y;
}

-- no event is asked for anything
all_come : (events : List Event) → All (λ (event : Event). Unit {0}) events
all_come [] = All-nil (λ (event : Event). Unit {0})
all_come (event ∷ events) = All-cons (λ (event : Event). Unit {0}) event events tt (all_come events)

pub trace_one : (old older new newer : State) (events : List Event) (last more : Output) (lines rest : List Line) → IsSameState old older
    → Reaches Steps old events new last lines → Reaches Steps older events newer more rest → IsSameState new newer × ((rest ≡ lines) × IsSameOutput last more)
trace_one old older new newer events last more lines rest same a b =
    trace_same Steps (λ state. Unit {0}) (λ event. Unit {0}) IsSameState one_output old older new newer no_output no_output last more events lines rest tt (all_come events) same (same_output no_output) a b
