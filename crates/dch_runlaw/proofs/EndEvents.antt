-- What happens at the terminal and the network controller in a run is a list of events at a terminal and a network controller.
use Rattle.std.proofs.Common.{◌≡◌, ◌∙◌, ◌++◌, ℕ, List, [], ◌∷◌, Option, Some, None, append_assoc, append-nil, refl, sym, ap, subst, inl, inr}
use Rattle.dch_types.specs.declared.channel.Dir.TheVariants.{Up, Down}
use Rattle.dch_types.specs.declared.config.Config.{Config}
use Rattle.dch_accept.specs.Plans.{Planned}
use Rattle.dch_amlaw.specs.Pair.{At}
use Rattle.dch_node.specs.Lines.{Line}
use Rattle.dch_linkcmd.specs.UeState.{BlockedCombination as UeBlocked, DownlinkFrame, Event as UeEvent, OfferedUnit as UeOffered, State as UeState, Tick as UeTicks}
use Rattle.dch_linkcmd.specs.UeSteps.{Steps as UeSteps}
use Rattle.dch_linkcmd.specs.RncState.{BlockedCombination as RncBlocked, Event as RncEvent, IubFrame as IubFrameUp, OfferedUnit as RncOffered, State as RncState, Tick as RncTicks}
use Rattle.dch_linkcmd.specs.RncSteps.{Steps as RncSteps}
use Rattle.dch_linkcmd.specs.Courses.{Course}
use Rattle.dch_linkcmd.specs.Within.{RncWithin, UeWithin}
use Rattle.dch_linkcmd.specs.SoftEvents.{BlockedCombination, Damages, Event, Happens, OfferedUnit}
use Rattle.dch_linkcmd.specs.SoftPassing.{next_stage}
use Rattle.dch_linkcmd.specs.LinkSoft.{SoftState, given, over, uplink_of}
use Rattle.dch_linkcmd.specs.SoftStages.{AtStage, GivesFrame, RncGoes, UeGoes, WhereOver}
use Rattle.dch_linkcmd.specs.soft_stage.Stage.{Stage}
use Rattle.dch_linkcmd.specs.soft_stage.Stage.TheVariants.{RncTick, IubDown, RadioDown, UeTick, RadioUp, IubUp, Combine}
use Rattle.dch_runlaw.specs.History.{IsAmBearer}
use Rattle.dch_runlaw.specs.Lines.{lines_of}
use Rattle.dch_runlaw.proofs.Bearers.{is_am_bearer}
use Rattle.dch_runlaw.specs.HonestBearers.{IsAcknowledged}
use Rattle.dch_runlaw.specs.Nodes.{Any, AreFaithful, AtRnc, AtUe, Happens as NodesHappen, IsAmHistory, Nodes, Runs as NodesRun, opened_nodes}
use Rattle.dch_runlaw.specs.NodesCalls.{event_calls, nodes_calls}
use Rattle.dch_runlaw.proofs.NodesEvents.{nodes_history}
use Rattle.dch_runlaw.specs.SoftEndEvents.{AfterEach, AreOf, HandsUp, EndEvent, EventAtRnc, EventAtUe, IsListOf, after, after_all, between, combined, event_of, events_of, end_events, in_stage, in_step, rnc_events, ue_events}
use Rattle.dch_runlaw.specs.SoftRuns.{Between, Move, Next, Point, Runs, Steps, behind, opened_point}
use Rattle.dch_runlaw.specs.Told.{IsTold}
use Rattle.dch_runlaw.proofs.Changes.{IsFrameChange, rnc_lines, rnc_step, ue_lines, ue_step, up_change}
use Rattle.dch_runlaw.proofs.Telling.{run_told}

-- each of these happens after the ones before it
abbrev AllHappen : Nodes → List EndEvent → Type 0
AllHappen nodes [] = Unit {0}
AllHappen nodes (happening ∷ later) = NodesHappen nodes (event_of happening) (after nodes happening) × AllHappen (after nodes happening) later

all_append : (nodes : Nodes) (xs ys : List EndEvent) → AllHappen nodes xs → AllHappen (after_all nodes xs) ys → AllHappen nodes (xs ++ ys)
all_append nodes [] ys first later = later
all_append nodes (x ∷ xs) ys first later = (first.0, all_append (after nodes x) xs ys first.1 later)

after-append : (nodes : Nodes) (xs ys : List EndEvent) → after_all nodes (xs ++ ys) ≡ after_all (after_all nodes xs) ys
after-append nodes [] ys = refl
after-append nodes (x ∷ xs) ys = after-append (after nodes x) xs ys

-- so they are a list of events, after each of which something holds
unfoldable all_run : (Holds : Nodes → Type 0) (nodes : Nodes) (happened : List EndEvent) → AllHappen nodes happened → AfterEach Holds nodes happened → NodesRun Holds nodes (events_of happened) (after_all nodes happened)
all_run Holds nodes [] all holds = refl
all_run Holds nodes (x ∷ happened) all holds = record { next = after nodes x; first = all.0; holds = holds.0; later = all_run Holds (after nodes x) happened all.1 holds.1 }

unfoldable any_each : (nodes : Nodes) (happened : List EndEvent) → AfterEach Any nodes happened
any_each nodes [] = tt
any_each nodes (x ∷ happened) = (tt, any_each (after nodes x) happened)

-- with the same calls, whatever holds
all_called : (config : Config) (b : ℕ) (Holds : Nodes → Type 0) (nodes : Nodes) (happened : List EndEvent) (all : AllHappen nodes happened) (holds : AfterEach Holds nodes happened)
    → nodes_calls config b Holds nodes (events_of happened) (after_all nodes happened) (all_run Holds nodes happened all holds) ≡ nodes_calls config b Any nodes (events_of happened) (after_all nodes happened) (all_run Any nodes happened all (any_each nodes happened))
unfolding all_run any_each
all_called config b Holds nodes [] all holds = refl
all_called config b Holds nodes (x ∷ happened) all holds = ap (λ (l : List At). event_calls config b nodes (event_of x) (after nodes x) ++ l) (all_called config b Holds (after nodes x) happened all.1 holds.1)

-- one event at the terminal, or at the network controller
ue_happens : (old new : SoftState) (event : UeEvent) (nodes : Nodes) → UeWithin event → UeGoes old event new → AreOf old nodes → NodesHappen nodes (AtUe event) (after nodes (EventAtUe event new.ue))
ue_happens old new event nodes within goes are = record {
  within = within;
  output = new.ue.last;
  step = subst (λ (s : UeState). UeSteps s event new.ue.state new.ue.last) (sym are.ue) (ue_step old new event goes);
  reported = ue_lines old new event goes ∙ ap (λ (l : List Line). l ++ new.ue.last.lines) (sym are.ue_lines);
  rnc = refl;
  rnc_lines = refl;
  up = λ i. refl;
  down = λ i. refl;
}

rnc_happens : (old new : SoftState) (event : RncEvent) (nodes : Nodes) → RncWithin event → RncGoes old event new → AreOf old nodes → NodesHappen nodes (AtRnc event) (after nodes (EventAtRnc event new.rnc))
rnc_happens old new event nodes within goes are = record {
  within = within;
  output = new.rnc.last;
  step = subst (λ (s : RncState). RncSteps s event new.rnc.state new.rnc.last) (sym are.rnc) (rnc_step old new event goes);
  reported = rnc_lines old new event goes ∙ ap (λ (l : List Line). l ++ new.rnc.last.lines) (sym are.rnc_lines);
  ue = refl;
  ue_lines = refl;
  down = λ i. refl;
  up = λ i. refl;
}

ue_are : (old new : SoftState) (event : UeEvent) (nodes : Nodes) → UeGoes old event new → AreOf old nodes → AreOf new (after nodes (EventAtUe event new.ue))
ue_are old new event nodes goes are =
    let rnc : new.rnc ≡ old.rnc = ap (λ (s : SoftState). s.rnc) goes.is in
    record {
      ue = refl;
      rnc = are.rnc ∙ ap (λ (c : Course RncState RncEvent). c.state) (sym rnc);
      ue_lines = refl;
      rnc_lines = are.rnc_lines ∙ ap (λ (c : Course RncState RncEvent). c.lines) (sym rnc);
    }

rnc_are : (old new : SoftState) (event : RncEvent) (nodes : Nodes) → RncGoes old event new → AreOf old nodes → AreOf new (after nodes (EventAtRnc event new.rnc))
rnc_are old new event nodes goes are =
    let ue : new.ue ≡ old.ue = ap (λ (s : SoftState). s.ue) goes.is in
    record {
      ue = are.ue ∙ ap (λ (c : Course UeState UeEvent). c.state) (sym ue);
      rnc = refl;
      ue_lines = are.ue_lines ∙ ap (λ (c : Course UeState UeEvent). c.lines) (sym ue);
      rnc_lines = refl;
    }

same_are : (old new : SoftState) (nodes : Nodes) → new.ue ≡ old.ue → new.rnc ≡ old.rnc → AreOf old nodes → AreOf new nodes
same_are old new nodes ue rnc are = record {
  ue = are.ue ∙ ap (λ (c : Course UeState UeEvent). c.state) (sym ue);
  rnc = are.rnc ∙ ap (λ (c : Course RncState RncEvent). c.state) (sym rnc);
  ue_lines = are.ue_lines ∙ ap (λ (c : Course UeState UeEvent). c.lines) (sym ue);
  rnc_lines = are.rnc_lines ∙ ap (λ (c : Course RncState RncEvent). c.lines) (sym rnc);
}

-- the events at each of them
ue-append : (xs ys : List EndEvent) → ue_events (xs ++ ys) ≡ ue_events xs ++ ue_events ys
ue-append [] ys = refl
ue-append (EventAtUe event ue ∷ xs) ys = ap (λ (events : List UeEvent). event ∷ events) (ue-append xs ys)
ue-append (EventAtRnc event rnc ∷ xs) ys = ue-append xs ys

rnc-append : (xs ys : List EndEvent) → rnc_events (xs ++ ys) ≡ rnc_events xs ++ rnc_events ys
rnc-append [] ys = refl
rnc-append (EventAtUe event ue ∷ xs) ys = rnc-append xs ys
rnc-append (EventAtRnc event rnc ∷ xs) ys = ap (λ (events : List RncEvent). event ∷ events) (rnc-append xs ys)

-- what happened leads from two nodes to those of another state, and is all that happened at them
record Leads (old : SoftState) (nodes : Nodes) (happened : List EndEvent) (new : SoftState) : Type 0 where
  all : AllHappen nodes happened
  are : AreOf new (after_all nodes happened)
  ue : new.ue.events ≡ old.ue.events ++ ue_events happened
  rnc : new.rnc.events ≡ old.rnc.events ++ rnc_events happened

same_ue : (old new : SoftState) → new.ue ≡ old.ue → new.ue.events ≡ old.ue.events ++ []
same_ue old new same = ap (λ (c : Course UeState UeEvent). c.events) same ∙ sym (append-nil old.ue.events)

same_rnc : (old new : SoftState) → new.rnc ≡ old.rnc → new.rnc.events ≡ old.rnc.events ++ []
same_rnc old new same = ap (λ (c : Course RncState RncEvent). c.events) same ∙ sym (append-nil old.rnc.events)

at_ue : (old new : SoftState) (event : UeEvent) (nodes : Nodes) → UeWithin event → UeGoes old event new → AreOf old nodes → Leads old nodes (EventAtUe event new.ue ∷ []) new
at_ue old new event nodes within goes are = record {
  all = (ue_happens old new event nodes within goes are, tt);
  are = ue_are old new event nodes goes are;
  ue = ap (λ (c : Course UeState UeEvent). c.events) (ap (λ (s : SoftState). s.ue) goes.is ∙ goes.goes.is);
  rnc = same_rnc old new (ap (λ (s : SoftState). s.rnc) goes.is);
}

at_rnc : (old new : SoftState) (event : RncEvent) (nodes : Nodes) → RncWithin event → RncGoes old event new → AreOf old nodes → Leads old nodes (EventAtRnc event new.rnc ∷ []) new
at_rnc old new event nodes within goes are = record {
  all = (rnc_happens old new event nodes within goes are, tt);
  are = rnc_are old new event nodes goes are;
  ue = same_ue old new (ap (λ (s : SoftState). s.ue) goes.is);
  rnc = ap (λ (c : Course RncState RncEvent). c.events) (ap (λ (s : SoftState). s.rnc) goes.is ∙ goes.goes.is);
}

at_none : (old new : SoftState) (nodes : Nodes) → new.ue ≡ old.ue → new.rnc ≡ old.rnc → AreOf old nodes → Leads old nodes [] new
at_none old new nodes ue rnc are = record { all = tt; are = same_are old new nodes ue rnc are; ue = same_ue old new ue; rnc = same_rnc old new rnc }

-- what happened, and what happened then
leads_on : (old mid new : SoftState) (nodes : Nodes) (xs ys : List EndEvent) → Leads old nodes xs mid → Leads mid (after_all nodes xs) ys new → Leads old nodes (xs ++ ys) new
leads_on old mid new nodes xs ys first later = record {
  all = all_append nodes xs ys first.all later.all;
  are = subst (AreOf new) (sym (after-append nodes xs ys)) later.are;
  ue = later.ue ∙ ap (λ (events : List UeEvent). events ++ ue_events ys) first.ue ∙ append_assoc old.ue.events (ue_events xs) (ue_events ys) ∙ ap (λ (events : List UeEvent). old.ue.events ++ events) (sym (ue-append xs ys));
  rnc = later.rnc ∙ ap (λ (events : List RncEvent). events ++ rnc_events ys) first.rnc ∙ append_assoc old.rnc.events (rnc_events xs) (rnc_events ys) ∙ ap (λ (events : List RncEvent). old.rnc.events ++ events) (sym (rnc-append xs ys));
}

-- between two radio frames
between_leads : (old : SoftState) (event : Event) (new : SoftState) (lines : List Line) (nodes : Nodes) → Happens old event new lines → AreOf old nodes → Leads old nodes (between event new) new
between_leads old (OfferedUnit Up b octets bits) new lines nodes happens are = at_ue old new (UeOffered b octets bits) nodes tt happens.0 are
between_leads old (OfferedUnit Down b octets bits) new lines nodes happens are = at_rnc old new (RncOffered b octets bits) nodes tt happens.0 are
between_leads old (BlockedCombination Up c on) new lines nodes happens are = at_ue old new (UeBlocked c on) nodes tt happens.0 are
between_leads old (BlockedCombination Down c on) new lines nodes happens are = at_rnc old new (RncBlocked c on) nodes tt happens.0 are
between_leads old (Damages leg damage) new lines nodes happens are = at_none old new nodes (ap (λ (s : SoftState). s.ue) happens.0) (ap (λ (s : SoftState). s.rnc) happens.0) are

-- in a stage
combined_leads : (started : Option ℕ) (set : ℕ) (old new : SoftState) (lines : List Line) (nodes : Nodes) (gives : WhereOver started (λ cfn. GivesFrame cfn set) old new lines) → AreOf old nodes → Leads old nodes (combined started set old new lines gives) new
combined_leads None set old new lines nodes gives are = at_none old new nodes (ap (λ (s : SoftState). s.ue) gives.0) (ap (λ (s : SoftState). s.rnc) gives.0) are
combined_leads (Some cfn) set old new lines nodes (inl none) are = at_none old new nodes (ap (λ (s : SoftState). s.ue) none.stays.0) (ap (λ (s : SoftState). s.rnc) none.stays.0) are
combined_leads (Some cfn) set old new lines nodes (inr frame) are =
    let leads : Leads (given old set) nodes (EventAtRnc (IubFrameUp set frame.octets) new.rnc ∷ []) new =
    at_rnc (given old set) new (IubFrameUp set frame.octets) nodes tt frame.comes (record { ue = are.ue; rnc = are.rnc; ue_lines = are.ue_lines; rnc_lines = are.rnc_lines }) in
    record { all = leads.all; are = leads.are; ue = leads.ue; rnc = leads.rnc }

stage_leads : (stage : Stage) (old new : SoftState) (lines : List Line) (nodes : Nodes) (passes : AtStage stage old new lines) → AreOf old nodes → Leads old nodes (in_stage stage old new lines passes) new
stage_leads RncTick old new lines nodes passes are = at_rnc old new RncTicks nodes tt passes.0 are
stage_leads (IubDown leg set) old new lines nodes passes are = at_none old new nodes (ap (λ (s : SoftState). s.ue) passes.is) (ap (λ (s : SoftState). s.rnc) passes.is) are
stage_leads (RadioDown leg) old new lines nodes passes are = at_none old new nodes (ap (λ (s : SoftState). s.ue) passes.is) (ap (λ (s : SoftState). s.rnc) passes.is) are
stage_leads UeTick old new lines nodes passes are =
    let event : UeEvent = DownlinkFrame passes.hears.heard in
    let first : Leads old nodes (EventAtUe event passes.mid.ue ∷ []) passes.mid = at_ue old passes.mid event nodes tt passes.hears.comes are in
    let later : Leads passes.mid (after nodes (EventAtUe event passes.mid.ue)) (EventAtUe UeTicks new.ue ∷ []) new = at_ue passes.mid new UeTicks (after nodes (EventAtUe event passes.mid.ue)) tt passes.ticks.0 first.are in
    leads_on old passes.mid new nodes (EventAtUe event passes.mid.ue ∷ []) (EventAtUe UeTicks new.ue ∷ []) first later
stage_leads (RadioUp leg) old new lines nodes passes are = at_none old new nodes (ap (λ (s : SoftState). s.ue) passes.is) (ap (λ (s : SoftState). s.rnc) passes.is) are
stage_leads (IubUp set leg) old new lines nodes passes are =
    let change : IsFrameChange old new = up_change (over (uplink_of old) set old.cfn) set leg old new lines passes in
    at_none old new nodes change.ue change.rnc are
stage_leads (Combine set) old new lines nodes passes are = combined_leads (over (uplink_of old) set old.cfn) set old new lines nodes passes are

-- the end of a radio frame changes nothing at the two
behind_leads : (old soft : SoftState) (next : Option Stage) (nodes : Nodes) (happened : List EndEvent) → Leads old nodes happened soft → Leads old nodes happened (behind soft next).soft
behind_leads old soft None nodes happened leads = record {
  all = leads.all;
  are = record { ue = leads.are.ue; rnc = leads.are.rnc; ue_lines = leads.are.ue_lines; rnc_lines = leads.are.rnc_lines };
  ue = leads.ue;
  rnc = leads.rnc;
}
behind_leads old soft (Some next) nodes happened leads = leads

step_leads : (move : Move) (old new : Point) (lines : List Line) (nodes : Nodes) (step : Steps old move new lines) → AreOf old.soft nodes → Leads old.soft nodes (in_step move old new lines step) new.soft
step_leads (Between event) old new lines nodes step are =
    subst (λ (p : Point). Leads old.soft nodes (between event step.soft) p.soft) (sym step.is) (between_leads old.soft event step.soft lines nodes step.happens are)
step_leads Next old new lines nodes step are =
    let happened : List EndEvent = in_stage old.stage old.soft step.soft lines step.passes in
    subst (λ (p : Point). Leads old.soft nodes happened p.soft) (sym step.is)
    (behind_leads old.soft step.soft (next_stage old.soft.count old.stage) nodes happened (stage_leads old.stage old.soft step.soft lines nodes step.passes are))

-- a run
runs_lead : (moves : List Move) (old new : Point) (lines : List Line) (nodes : Nodes) (run : Runs old moves new lines) → AreOf old.soft nodes → Leads old.soft nodes (end_events moves old new lines run) new.soft
runs_lead [] old new lines nodes run are =
    let same : Leads old.soft nodes [] old.soft = at_none old.soft old.soft nodes refl refl are in
    subst (λ (p : Point). Leads old.soft nodes [] p.soft) (sym run.0) same
runs_lead (move ∷ moves) old new lines nodes run are =
    let own : List EndEvent = in_step move old run.next run.own run.step in
    let rest : List EndEvent = end_events moves run.next new run.rest run.later in
    let first : Leads old.soft nodes own run.next.soft = step_leads move old run.next run.own nodes run.step are in
    leads_on old.soft run.next.soft new.soft nodes own rest first (runs_lead moves run.next new run.rest (after_all nodes own) run.later first.are)

opened_leads : (planned : Planned) (first legs : ℕ) (moves : List Move) (new : Point) (lines : List Line) (run : Runs (opened_point planned first legs) moves new lines)
    → Leads (opened_point planned first legs).soft (opened_nodes planned first first) (end_events moves (opened_point planned first legs) new lines run) new.soft
opened_leads planned first legs moves new lines run =
    runs_lead moves (opened_point planned first legs) new lines (opened_nodes planned first first) run (record { ue = refl; rnc = refl; ue_lines = refl; rnc_lines = refl })

-- so it is a list of events
abbrev list_of : (planned : Planned) (first legs : ℕ) (happened : List EndEvent) (soft : SoftState) → Leads (opened_point planned first legs).soft (opened_nodes planned first first) happened soft → IsListOf planned first happened soft
list_of planned first legs happened soft leads = record {
  ue = leads.ue;
  rnc = leads.rnc;
  run = all_run Any (opened_nodes planned first first) happened leads.all (any_each (opened_nodes planned first first) happened);
  are = leads.are;
}

pub run_listed : (planned : Planned) (first legs : ℕ) (moves : List Move) (new : Point) (lines : List Line) (run : Runs (opened_point planned first legs) moves new lines) → IsListOf planned first (end_events moves (opened_point planned first legs) new lines run) new.soft
run_listed planned first legs moves new lines run = list_of planned first legs (end_events moves (opened_point planned first legs) new lines run) new.soft (opened_leads planned first legs moves new lines run)

pub run_faithful : (planned : Planned) (first legs up down : ℕ) (moves : List Move) (new : Point) (lines : List Line) (run : Runs (opened_point planned first legs) moves new lines)
    → AfterEach (AreFaithful up down) (opened_nodes planned first first) (end_events moves (opened_point planned first legs) new lines run)
    → NodesRun (AreFaithful up down) (opened_nodes planned first first) (events_of (end_events moves (opened_point planned first legs) new lines run)) (after_all (opened_nodes planned first first) (end_events moves (opened_point planned first legs) new lines run))
run_faithful planned first legs up down moves new lines run faithful =
    all_run (AreFaithful up down) (opened_nodes planned first first) (end_events moves (opened_point planned first legs) new lines run) (opened_leads planned first legs moves new lines run).all faithful

pub run_hands_up : (planned : Planned) (first legs b up down : ℕ) (moves : List Move) (new : Point) (lines : List Line) (run : Runs (opened_point planned first legs) moves new lines) → IsAcknowledged planned b up down
    → AfterEach (AreFaithful up down) (opened_nodes planned first first) (end_events moves (opened_point planned first legs) new lines run)
    → HandsUp planned first b (end_events moves (opened_point planned first legs) new lines run) new.soft lines
run_hands_up planned first legs b up down moves new lines run is faithful =
    let happened : List EndEvent = end_events moves (opened_point planned first legs) new lines run in
    let nodes : Nodes = after_all (opened_nodes planned first first) happened in
    let leads : Leads (opened_point planned first legs).soft (opened_nodes planned first first) happened new.soft = opened_leads planned first legs moves new lines run in
    let listed : IsListOf planned first happened new.soft = list_of planned first legs happened new.soft leads in
    let bearer : IsAmBearer planned.config Up Down b up down = is_am_bearer planned.config b up down is.good is.there is.mode is.up_is is.down_is in
    let history : IsAmHistory planned b (nodes_calls planned.config b Any (opened_nodes planned first first) (events_of happened) nodes listed.run) nodes =
    subst (λ (calls : List At). IsAmHistory planned b calls nodes) (all_called planned.config b (AreFaithful up down) (opened_nodes planned first first) happened leads.all faithful)
    (nodes_history planned first first b up down (events_of happened) nodes bearer (all_run (AreFaithful up down) (opened_nodes planned first first) happened leads.all faithful)) in
    let told : IsTold (opened_point planned first legs).soft new.soft lines = run_told (opened_point planned first legs) moves new lines run in
    record {
      listed = listed;
      history = history;
      up = sym (told.up b) ∙ ap (lines_of b) (sym listed.are.rnc_lines) ∙ history.pair.far.lines;
      down = sym (told.down b) ∙ ap (lines_of b) (sym listed.are.ue_lines) ∙ history.pair.near.lines;
    }
