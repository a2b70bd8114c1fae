-- What happens between two radio frames leaves how the nodes stand, and over a run all lines of the terminal and the network controller are known.
use Rattle.std.proofs.Common.{◌≡◌, ◌∙◌, ℕ, List, [], ◌∷◌, Bool, ap, sym, subst}
use Rattle.dch_bits.specs.declared.bit.Bit.{Bit}
use Rattle.dch_types.specs.declared.channel.Dir.TheVariants.{Up, Down}
use Rattle.dch_config.specs.Good.{IsGood}
use Rattle.dch_accept.specs.Plans.{Planned}
use Rattle.dch_node.specs.Lines.{Line}
use Rattle.dch_node.specs.Values.{Output}
use Rattle.dch_layer2.specs.Bearings.{answers}
use Rattle.dch_linkcmd.specs.UeState.{BlockedCombination as UeBlocked, Event as UeEvent, OfferedUnit as UeOffered, State as UeState}
use Rattle.dch_linkcmd.specs.UeSteps.{Steps as UeSteps}
use Rattle.dch_linkcmd.specs.NodebState.{Event as NodeBEvent, State as NodeBState}
use Rattle.dch_linkcmd.specs.RncState.{BlockedCombination as RncBlocked, Event as RncEvent, OfferedUnit as RncOffered, State as RncState}
use Rattle.dch_linkcmd.specs.RncSteps.{Steps as RncSteps}
use Rattle.dch_linkcmd.specs.Courses.{Course}
use Rattle.dch_linkcmd.specs.Events.{BlockedCombination, Damages, Event as LinkEvent, Happens, OfferedUnit}
use Rattle.dch_linkcmd.specs.LinkLink.{LinkState}
use Rattle.dch_linkcmd.specs.LinkStages.{RncGoes, UeGoes}
use Rattle.dch_runlaw.specs.Runs.{Between, Event, Frame, Runs, Steps}
use Rattle.dch_runlaw.proofs.Keeping.{but_rnc, but_ue, rnc_lines, rnc_step, ue_lines, ue_step}
use Rattle.dch_runlaw.proofs.HonestStaying.{event_for}
use Rattle.dch_runlaw.proofs.PlainKnown.{AreKnown, answer_known, known-append}
use Rattle.dch_runlaw.proofs.PlainLevels.{Level, TakesGiven, frame_level}
use Rattle.dch_runlaw.proofs.PlainReaching.{kept_reaches}

-- a step of a node that leaves its CFN and what its channels were given
record UeStays (planned : Planned) (old new : UeState) (lines : List Line) : Type 0 where
  cfn : new.cfn ≡ old.cfn
  given : (i : ℕ) → new.layer.given i ≡ old.layer.given i
  known : AreKnown planned.config Down lines

record RncStays (planned : Planned) (old new : RncState) (lines : List Line) : Type 0 where
  cfn : new.cfn ≡ old.cfn
  given : (i : ℕ) → new.layer.given i ≡ old.layer.given i
  known : AreKnown planned.config Up lines

ue_offered : (planned : Planned) (old new : UeState) (b : ℕ) (octets : List ℕ) (bits : List Bit) (output : Output) → UeSteps old (UeOffered b octets bits) new output → UeStays planned old new output.lines
ue_offered planned old new b octets bits output step = record {
  cfn = ap (λ (x : UeState). x.cfn) step.state;
  given = λ i. ap (λ (x : UeState). x.layer.given i) step.state;
  known = subst (λ (o : Output). AreKnown planned.config Down o.lines) (sym step.reported) (answer_known planned.config Down Up b (answers old.planned.config Up b octets bits (old.layer.bearings b)));
}

ue_blocked : (planned : Planned) (old new : UeState) (c : ℕ) (on : Bool) (output : Output) → UeSteps old (UeBlocked c on) new output → UeStays planned old new output.lines
ue_blocked planned old new c on output step = record {
  cfn = ap (λ (x : UeState). x.cfn) step.0;
  given = λ i. ap (λ (x : UeState). x.layer.given i) step.0;
  known = subst (λ (o : Output). AreKnown planned.config Down o.lines) (sym step.1) tt;
}

rnc_offered : (planned : Planned) (old new : RncState) (b : ℕ) (octets : List ℕ) (bits : List Bit) (output : Output) → RncSteps old (RncOffered b octets bits) new output → RncStays planned old new output.lines
rnc_offered planned old new b octets bits output step = record {
  cfn = ap (λ (x : RncState). x.cfn) step.state;
  given = λ i. ap (λ (x : RncState). x.layer.given i) step.state;
  known = subst (λ (o : Output). AreKnown planned.config Up o.lines) (sym step.reported) (answer_known planned.config Up Down b (answers old.planned.config Down b octets bits (old.layer.bearings b)));
}

rnc_blocked : (planned : Planned) (old new : RncState) (c : ℕ) (on : Bool) (output : Output) → RncSteps old (RncBlocked c on) new output → RncStays planned old new output.lines
rnc_blocked planned old new c on output step = record {
  cfn = ap (λ (x : RncState). x.cfn) step.0;
  given = λ i. ap (λ (x : RncState). x.layer.given i) step.0;
  known = subst (λ (o : Output). AreKnown planned.config Up o.lines) (sym step.1) tt;
}

ue_goes : (planned : Planned) (old : LinkState) (said : LinkEvent) (new : LinkState) (lines : List Line) → Happens old said new lines → (event : UeEvent) → UeGoes old event new → UeStays planned old.ue.state new.ue.state new.ue.last.lines → Level planned old → Level planned new
ue_goes planned old said new lines happens event goes stays v =
    let others = but_ue old new event goes in
    let rnc_cfn : new.rnc.state.cfn ≡ old.rnc.state.cfn = ap (λ (c : Course RncState RncEvent). c.state.cfn) others.rnc in
    record {
      are = event_for planned old (Between said) new lines happens v.are;
      ue_cfn = stays.cfn ∙ v.ue_cfn ∙ sym rnc_cfn;
      node_b_cfn = ap (λ (c : Course NodeBState NodeBEvent). c.state.cfn) others.node_b ∙ v.node_b_cfn ∙ sym rnc_cfn;
      ue_reach = kept_reaches planned.config Up old.ue.state.layer new.ue.state.layer stays.given v.ue_reach;
      rnc_reach = kept_reaches planned.config Down old.rnc.state.layer new.rnc.state.layer (λ i. ap (λ (c : Course RncState RncEvent). c.state.layer.given i) others.rnc) v.rnc_reach;
      ue_known = subst (AreKnown planned.config Down) (sym (ue_lines old new event goes)) (known-append planned.config Down old.ue.lines new.ue.last.lines v.ue_known stays.known);
      rnc_known = subst (AreKnown planned.config Up) (sym (ap (λ (c : Course RncState RncEvent). c.lines) others.rnc)) v.rnc_known;
    }

rnc_goes : (planned : Planned) (old : LinkState) (said : LinkEvent) (new : LinkState) (lines : List Line) → Happens old said new lines → (event : RncEvent) → RncGoes old event new → RncStays planned old.rnc.state new.rnc.state new.rnc.last.lines → Level planned old → Level planned new
rnc_goes planned old said new lines happens event goes stays v =
    let others = but_rnc old new event goes in
    record {
      are = event_for planned old (Between said) new lines happens v.are;
      ue_cfn = ap (λ (c : Course UeState UeEvent). c.state.cfn) others.ue ∙ v.ue_cfn ∙ sym stays.cfn;
      node_b_cfn = ap (λ (c : Course NodeBState NodeBEvent). c.state.cfn) others.node_b ∙ v.node_b_cfn ∙ sym stays.cfn;
      ue_reach = kept_reaches planned.config Up old.ue.state.layer new.ue.state.layer (λ i. ap (λ (c : Course UeState UeEvent). c.state.layer.given i) others.ue) v.ue_reach;
      rnc_reach = kept_reaches planned.config Down old.rnc.state.layer new.rnc.state.layer stays.given v.rnc_reach;
      ue_known = subst (AreKnown planned.config Down) (sym (ap (λ (c : Course UeState UeEvent). c.lines) others.ue)) v.ue_known;
      rnc_known = subst (AreKnown planned.config Up) (sym (rnc_lines old new event goes)) (known-append planned.config Up old.rnc.lines new.rnc.last.lines v.rnc_known stays.known);
    }

between_level : (planned : Planned) (old : LinkState) (event : LinkEvent) (new : LinkState) (lines : List Line) → Happens old event new lines → Level planned old → Level planned new
between_level planned old (OfferedUnit Up b octets bits) new lines h v =
    ue_goes planned old (OfferedUnit Up b octets bits) new lines h (UeOffered b octets bits) h.0 (ue_offered planned old.ue.state new.ue.state b octets bits new.ue.last (ue_step old new (UeOffered b octets bits) h.0)) v
between_level planned old (OfferedUnit Down b octets bits) new lines h v =
    rnc_goes planned old (OfferedUnit Down b octets bits) new lines h (RncOffered b octets bits) h.0 (rnc_offered planned old.rnc.state new.rnc.state b octets bits new.rnc.last (rnc_step old new (RncOffered b octets bits) h.0)) v
between_level planned old (BlockedCombination Up c on) new lines h v =
    ue_goes planned old (BlockedCombination Up c on) new lines h (UeBlocked c on) h.0 (ue_blocked planned old.ue.state new.ue.state c on new.ue.last (ue_step old new (UeBlocked c on) h.0)) v
between_level planned old (BlockedCombination Down c on) new lines h v =
    rnc_goes planned old (BlockedCombination Down c on) new lines h (RncBlocked c on) h.0 (rnc_blocked planned old.rnc.state new.rnc.state c on new.rnc.last (rnc_step old new (RncBlocked c on) h.0)) v
between_level planned old (Damages damage) new lines h v = subst (Level planned) (sym h.0) (record {
  are = record { ue = v.are.ue; node_b = v.are.node_b; rnc = v.are.rnc };
  ue_cfn = v.ue_cfn;
  node_b_cfn = v.node_b_cfn;
  ue_reach = v.ue_reach;
  rnc_reach = v.rnc_reach;
  ue_known = v.ue_known;
  rnc_known = v.rnc_known;
})

-- in each radio frame of a run just what was given is taken
abbrev pub EventTakes : (planned : Planned) → (old : LinkState) → (event : Event) → (new : LinkState) → (lines : List Line) → Steps old event new lines → Type 0
EventTakes planned old (Between event) new lines step = Unit {0}
EventTakes planned old Frame new lines step = TakesGiven planned old new lines step.frame

abbrev pub RunTakes : (planned : Planned) → (events : List Event) → (old new : LinkState) → (lines : List Line) → Runs old events new lines → Type 0
RunTakes planned [] old new lines run = Unit {0}
RunTakes planned (event ∷ events) old new lines run = EventTakes planned old event run.next run.own run.step × RunTakes planned events run.next new run.rest run.later

event_level : (planned : Planned) (old : LinkState) (event : Event) (new : LinkState) (lines : List Line) (step : Steps old event new lines) → IsGood planned.config → EventTakes planned old event new lines step → Level planned old → Level planned new
event_level planned old (Between event) new lines step good takes v = between_level planned old event new lines step v
event_level planned old Frame new lines step good takes v = frame_level planned old new lines step.frame good takes v

pub run_level : (planned : Planned) (events : List Event) (old new : LinkState) (lines : List Line) (run : Runs old events new lines) → IsGood planned.config → RunTakes planned events old new lines run → Level planned old → Level planned new
run_level planned [] old new lines run good takes v = subst (Level planned) (sym run.0) v
run_level planned (event ∷ events) old new lines run good takes v = run_level planned events run.next new run.rest run.later good takes.1 (event_level planned old event run.next run.own run.step good takes.0 v)
