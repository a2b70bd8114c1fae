-- A step has one output.
use Rattle.std.proofs.Common.{◌≡◌, ◌<◌, ◌∙◌, ◌++◌, ℕ, zero, suc, List, [], ◌∷◌, length, arith, refl, ap, ap₂, sym, subst, inl, inr, Option}
use Rattle.dch_types.specs.declared.channel.Dir.TheVariants.{Up}
use Rattle.dch_types.specs.Limits.{IsSide}
use Rattle.dch_accept.specs.Plans.{IsPlanned, Planned}
use Rattle.dch_tti.proofs.Alike.{KeepTheSame}
use Rattle.dch_node.specs.Lines.{Line, joined}
use Rattle.dch_node.specs.Outputs.{IsSameOutput}
use Rattle.dch_node.specs.Values.{Output, Radio}
use Rattle.dch_node.proofs.Outputs.{HasOneOutput, equal_output}
use Rattle.dch_node.proofs.RxFrames.{heard_same}
use Rattle.dch_nodeb.specs.Same.{BringsPlanned, IsSameState}
use Rattle.dch_nodeb.specs.State.{Change, DownlinkDue, Event, IubFrame, State, UplinkFrame}
use Rattle.dch_nodeb.specs.Steps.{IsDeparture, IsReception, Steps, radio_line}
use Rattle.dch_nodeb.proofs.OneRadio.{radio_one}
use Rattle.dch_nodeb.proofs.OneTti.{delivers_alike, delivers_one}
use Rattle.dch_nodeb.proofs.Same.{arrival_answer, step_same}

-- a downlink radio frame
departure_same : (planned : Planned) (old new older newer : State) (output more : Output) → planned ≡ new.planned → IsSameState new newer → IsDeparture planned old new output → IsDeparture planned older newer more → IsSameOutput output more
departure_same planned old new older newer output more same states a b =
    let given : (i : ℕ) → i < length planned.config.downlink.side.channels → newer.given i ≡ new.given i = λ i inside.
    states.given i (subst (λ (p : Planned). i < length p.config.downlink.side.channels) same inside) in
    let sent : more.sent ≡ output.sent = radio_one planned new newer output.sent more.sent states.cfn given a.radio b.radio in record {
      lines = b.reported ∙ ap (λ (r : Option Radio). radio_line r ∷ []) sent ∙ sym a.reported;
      sent = sent;
      iub = λ s inside. b.no_iub s inside ∙ sym (a.no_iub s inside);
    }

pub departure_output : (old new older newer : State) (output more : Output) → IsSameState old older → Steps old DownlinkDue new output → Steps older DownlinkDue newer more → IsSameOutput output more
departure_output old new older newer output more same a b =
    departure_same old.planned old new older newer output more (sym (ap (λ (s : State). s.planned) a.state)) (step_same old new older newer DownlinkDue output more same a b) a
    (subst (λ (p : Planned). IsDeparture p older newer more) same.planned b)

-- the lines of sets
joined_same : (lines more : ℕ → List Line) (n : ℕ) → ((s : ℕ) → s < n → more s ≡ lines s) → joined more n ≡ joined lines n
joined_same lines more zero same = refl
joined_same lines more (suc n) same = ap₂ (λ (ls ms : List Line). ls ++ ms) (joined_same lines more n (λ s early. same s (omega arith))) (same n (omega arith))

-- an uplink radio frame
reception_same : (planned : Planned) (old new older newer : State) (frame : Option Radio) (output more : Output) → IsSide planned.config.uplink.side → older.cfn ≡ old.cfn → IsSameState new newer
    → IsReception planned old frame new output → IsReception planned older frame newer more → IsSameOutput output more
reception_same planned old new older newer frame output more good cfn states a b =
    let keep : KeepTheSame b.rx_frames a.rx_frames = heard_same planned Up older.cfn old.cfn newer.frames new.frames b.rx_frames a.rx_frames (sym cfn) (λ k. sym (states.frames k)) b.kept a.kept in
    let each : (s : ℕ) → s < 8 → (b.lines s ≡ a.lines s) × (more.iub s ≡ output.iub s) = λ s inside.
    delivers_one planned a.rx_frames s (a.lines s) (b.lines s) (output.iub s) (more.iub s) good (a.sets s inside) (delivers_alike planned b.rx_frames a.rx_frames s (b.lines s) (more.iub s) keep (b.sets s inside)) in record {
      lines = b.reported ∙ joined_same a.lines b.lines 8 (λ s inside. (each s inside).0) ∙ sym a.reported;
      sent = b.no_radio ∙ sym a.no_radio;
      iub = λ s inside. (each s inside).1;
    }

-- any event
pub step_output : (old new older newer : State) (event : Event) (output more : Output) → IsPlanned old.planned → IsSameState old older
    → Steps old event new output → Steps older event newer more → IsSameOutput output more
step_output old new older newer (IubFrame set octets) output more planned same a b =
    equal_output output more (arrival_answer old new older newer set octets output more same.planned a b)
step_output old new older newer DownlinkDue output more planned same a b = departure_output old new older newer output more same a b
step_output old new older newer (UplinkFrame frame) output more planned same a b =
    reception_same old.planned old new older newer frame output more planned.good.uplink.side same.cfn (step_same old new older newer (UplinkFrame frame) output more same a b) a
    (subst (λ (p : Planned). IsReception p older frame newer more) same.planned b)
step_output old new older newer (Change other) output more planned same a b =
    equal_output output more (b.quiet ∙ sym a.quiet)

-- the configuration that is active is an accepted one
planned_by : (old new : State) → new ≡ old → IsPlanned old.planned → IsPlanned new.planned
planned_by old new same is = subst (λ (s : State). IsPlanned s.planned) (sym same) is

step_planned : (old new : State) (event : Event) (output : Output) → IsPlanned old.planned → BringsPlanned event → Steps old event new output → IsPlanned new.planned
step_planned old new (IubFrame set octets) output is brings (inl kept) = planned_by _ new kept.state is
step_planned old new (IubFrame set octets) output is brings (inr refused) = planned_by _ new refused.state is
step_planned old new DownlinkDue output is brings step = planned_by _ new step.state is
step_planned old new (UplinkFrame frame) output is brings step = planned_by _ new step.state is
step_planned old new (Change planned) output is brings step = planned_by _ new step.state brings

pub one_output : HasOneOutput Steps (λ state. IsPlanned state.planned) BringsPlanned IsSameState
one_output = record {
  keeps = step_planned;
  states = λ old new older newer event output more planned same a b. step_same old new older newer event output more same a b;
  outputs = step_output;
}
