-- A run of the two nodes is a run of their layers 2.
use Rattle.std.proofs.Common.{◌≡◌, ◌∙◌, ◌++◌, ℕ, List, [], ◌∷◌, map, refl, ap, ap₂, subst, ⊎_elim}
use Rattle.dch_types.specs.declared.channel.Dir.{Dir}
use Rattle.dch_types.specs.declared.channel.Dir.TheVariants.{Up, Down}
use Rattle.dch_types.specs.declared.config.Config.{Config}
use Rattle.dch_accept.specs.Plans.{Planned}
use Rattle.dch_node.specs.Values.{Output}
use Rattle.dch_linkcmd.specs.UeState.{Event as UeEvent, OfferedUnit as UeOffered, BlockedCombination as UeBlocked, Change as UeChange, DownlinkFrame, Tick as UeTicks, State as UeState}
use Rattle.dch_linkcmd.specs.UeSteps.{Steps as UeSteps}
use Rattle.dch_linkcmd.specs.RncState.{Event as RncEvent, OfferedUnit as RncOffered, BlockedCombination as RncBlocked, Change as RncChange, IubFrame, Tick as RncTicks, State as RncState}
use Rattle.dch_linkcmd.specs.RncSteps.{IsReadFrame, IsRefusedFrame, Steps as RncSteps}
use Rattle.dch_linkcmd.specs.Within.{RncWithin, UeWithin}
use Rattle.dch_amlaw.specs.Pair.{At as Call, Far as FarCall, Near as NearCall}
use Rattle.dch_runlaw.specs.Calls.{calls_at, run_calls}
use Rattle.dch_runlaw.specs.History.{IsAmBearer}
use Rattle.dch_runlaw.specs.TmHistory.{IsTmBearer, IsTmHistory}
use Rattle.dch_runlaw.specs.UmHistory.{Any as AnyWorld, IsKnownHistory, IsUmBearer, IsUmHistory}
use Rattle.dch_runlaw.specs.Worlds.{AreFaithful as AreWorldFaithful, AreWholeSoFar, At, Far, Happens as WorldHappens, IsFaithful, Near, Runs as WorldRuns, World, turned}
use Rattle.dch_runlaw.proofs.Histories.{am_history, whole_history}
use Rattle.dch_runlaw.proofs.Tm.{tm_some}
use Rattle.dch_runlaw.proofs.TmRuns.{tm_history}
use Rattle.dch_runlaw.proofs.UmKnown.{known_history}
use Rattle.dch_runlaw.proofs.UmRuns.{um_history}
use Rattle.dch_runlaw.specs.Nodes.{Any, AreFaithful, AreWhole, AtRnc, AtUe, Event, Happens, IsAmHistory, IsDownSome, IsUpSome, IsWholeAmHistory, Nodes, Runs, opened_nodes, world_of}
use Rattle.dch_runlaw.specs.NodesCalls.{event_calls, nodes_calls}
use Rattle.dch_runlaw.proofs.NodesSteps.{rnc_lifts, ue_lifts}

-- a step of a node keeps its configuration, but for a change
pub ue_stays : (old : UeState) (e : UeEvent) (new : UeState) (output : Output) → UeWithin e → UeSteps old e new output → new.planned ≡ old.planned
ue_stays old (UeOffered b octets bits) new output within step = ap (λ (x : UeState). x.planned) step.state
ue_stays old (UeBlocked c on) new output within step = ap (λ (x : UeState). x.planned) step.0
ue_stays old (DownlinkFrame frame) new output within step = ap (λ (x : UeState). x.planned) step.0
ue_stays old UeTicks new output within step = ap (λ (x : UeState). x.planned) step.state
ue_stays old (UeChange second) new output within step = absurd within

pub rnc_stays : (old : RncState) (e : RncEvent) (new : RncState) (output : Output) → RncWithin e → RncSteps old e new output → new.planned ≡ old.planned
rnc_stays old (RncOffered b octets bits) new output within step = ap (λ (x : RncState). x.planned) step.state
rnc_stays old (RncBlocked c on) new output within step = ap (λ (x : RncState). x.planned) step.0
rnc_stays old (IubFrame set octets) new output within step = ⊎_elim
    (λ (f : IsReadFrame old.planned old set octets new output). ap (λ (x : RncState). x.planned) f.state)
    (λ (r : IsRefusedFrame old.planned old set octets new output). ap (λ (x : RncState). x.planned) r.state)
    step
rnc_stays old RncTicks new output within step = ap (λ (x : RncState). x.planned) step.state
rnc_stays old (RncChange second) new output within step = absurd within

-- both nodes have a configuration
pub record Have (planned : Planned) (nodes : Nodes) : Type 0 where
  pub ue : nodes.ue.planned ≡ planned
  pub rnc : nodes.rnc.planned ≡ planned

pub still_have : (planned : Planned) (old : Nodes) (e : Event) (new : Nodes) → Happens old e new → Have planned old → Have planned new
still_have planned old (AtUe e) new s h = record { ue = ue_stays old.ue e new.ue s.output s.within s.step ∙ h.ue; rnc = ap (λ (x : RncState). x.planned) s.rnc ∙ h.rnc }
still_have planned old (AtRnc e) new s h = record { ue = ap (λ (x : UeState). x.planned) s.ue ∙ h.ue; rnc = rnc_stays old.rnc e new.rnc s.output s.within s.step ∙ h.rnc }

-- an event, and a run, with the calls that each bearer gets
record Goes (config : Config) (old new : Nodes) (calls : ℕ → List Call) : Type 0 where
  event : At
  happens : WorldHappens config Up Down (world_of old) event (world_of new)
  called : (b : ℕ) → calls_at config Up Down b (world_of old) event (world_of new) happens ≡ calls b

goes : (planned : Planned) (old : Nodes) (e : Event) (new : Nodes) → Have planned old → Happens old e new → Goes planned.config old new (λ b. event_calls planned.config b old e new)
goes planned old (AtUe e) new h s = let l = ue_lifts planned old e new h.ue s in record { event = Near l.doings; happens = l.all; called = λ b. ap (map NearCall) (l.called b) }
goes planned old (AtRnc e) new h s = let l = rnc_lifts planned old e new h.rnc s in record { event = Far l.doings; happens = l.all; called = λ b. ap (map FarCall) (l.called b) }

-- where what holds of the nodes after each event says something of the two layers 2
pub record RunsOn (config : Config) (Holds : World → Type 0) (old new : Nodes) (calls : ℕ → List Call) : Type 0 where
  pub events : List At
  pub run : WorldRuns config Up Down Holds (world_of old) events (world_of new)
  pub called : (b : ℕ) → run_calls config Up Down b Holds (world_of old) events (world_of new) run ≡ calls b

pub runs_on : (planned : Planned) (Is : Nodes → Type 0) (Holds : World → Type 0) → ((nodes : Nodes) → Is nodes → Holds (world_of nodes)) → (events : List Event) (old new : Nodes) → Have planned old → (r : Runs Is old events new) → RunsOn planned.config Holds old new (λ b. nodes_calls planned.config b Is old events new r)
runs_on planned Is Holds f [] old new h e = record { events = []; run = ap world_of e; called = λ b. refl }
runs_on planned Is Holds f (e ∷ events) old new h r =
    let g = goes planned old e r.next h r.first in
    let l = runs_on planned Is Holds f events r.next new (still_have planned old e r.next r.first h) r.later in
    record {
      events = g.event ∷ l.events;
      run = record { next = world_of r.next; first = g.happens; holds = f r.next r.holds; later = l.run };
      called = λ b. ap₂ (λ (xs ys : List Call). xs ++ ys) (g.called b) (l.called b);
    }

pub nodes_history : (planned : Planned) (ue_first rnc_first b up down : ℕ) (events : List Event) (nodes : Nodes) → IsAmBearer planned.config Up Down b up down → (run : Runs (AreFaithful up down) (opened_nodes planned ue_first rnc_first) events nodes) → IsAmHistory planned b (nodes_calls planned.config b (AreFaithful up down) (opened_nodes planned ue_first rnc_first) events nodes run) nodes
nodes_history planned ue_first rnc_first b up down events nodes is run =
    let r = runs_on planned (AreFaithful up down) (AreWorldFaithful up down) (λ n holds. record { out = holds.up_is; back = holds.down_is }) events (opened_nodes planned ue_first rnc_first) nodes (record { ue = refl; rnc = refl }) run in
    subst (λ (calls : List Call). IsAmHistory planned b calls nodes) (r.called b) (am_history planned.config Up Down b up down r.events (world_of nodes) is r.run)

pub nodes_whole_history : (planned : Planned) (ue_first rnc_first b up down : ℕ) (events : List Event) (nodes : Nodes) → IsAmBearer planned.config Up Down b up down → (run : Runs (AreWhole up down) (opened_nodes planned ue_first rnc_first) events nodes) → IsWholeAmHistory planned b up down (nodes_calls planned.config b (AreWhole up down) (opened_nodes planned ue_first rnc_first) events nodes run) nodes
nodes_whole_history planned ue_first rnc_first b up down events nodes is run =
    let r = runs_on planned (AreWhole up down) (AreWholeSoFar up down) (λ n holds. record { out = holds.up_is; back = holds.down_is }) events (opened_nodes planned ue_first rnc_first) nodes (record { ue = refl; rnc = refl }) run in
    subst (λ (calls : List Call). IsWholeAmHistory planned b up down calls nodes) (r.called b) (whole_history planned.config Up Down b up down r.events (world_of nodes) is r.run)

-- any run, and the same seen from the network controller
any_run : (planned : Planned) (ue_first rnc_first : ℕ) (events : List Event) (nodes : Nodes) → (run : Runs Any (opened_nodes planned ue_first rnc_first) events nodes) → RunsOn planned.config AnyWorld (opened_nodes planned ue_first rnc_first) nodes (λ b. nodes_calls planned.config b Any (opened_nodes planned ue_first rnc_first) events nodes run)
any_run planned ue_first rnc_first events nodes run = runs_on planned Any AnyWorld (λ n holds. tt) events (opened_nodes planned ue_first rnc_first) nodes (record { ue = refl; rnc = refl }) run

abbrev pub flipped : At → At
flipped (Near doings) = Far doings
flipped (Far doings) = Near doings

happens_turned : (config : Config) (out into : Dir) (w new : World) (e : At) → WorldHappens config out into w e new → WorldHappens config into out (turned w) (flipped e) (turned new)
happens_turned config out into w new (Near doings) h = h
happens_turned config out into w new (Far doings) h = h

pub run_turned : (config : Config) (out into : Dir) (events : List At) (w new : World) → WorldRuns config out into AnyWorld w events new → WorldRuns config into out AnyWorld (turned w) (map flipped events) (turned new)
run_turned config out into [] w new r = ap turned r
run_turned config out into (e ∷ events) w new r = record { next = turned r.next; first = happens_turned config out into w r.next e r.first; holds = tt; later = run_turned config out into events r.next new r.later }

-- bearers that are not acknowledged, in each direction
pub um_up_history : (planned : Planned) (ue_first rnc_first b up : ℕ) (events : List Event) (nodes : Nodes) → IsUmBearer planned.config Up b up → Runs Any (opened_nodes planned ue_first rnc_first) events nodes → IsUmHistory planned.config Up b up [] [] (world_of nodes)
um_up_history planned ue_first rnc_first b up events nodes is run =
    let r = any_run planned ue_first rnc_first events nodes run in
    um_history planned.config Up Down b up r.events (world_of nodes) is r.run

pub um_down_history : (planned : Planned) (ue_first rnc_first b down : ℕ) (events : List Event) (nodes : Nodes) → IsUmBearer planned.config Down b down → Runs Any (opened_nodes planned ue_first rnc_first) events nodes → IsUmHistory planned.config Down b down [] [] (turned (world_of nodes))
um_down_history planned ue_first rnc_first b down events nodes is run =
    let r = any_run planned ue_first rnc_first events nodes run in
    um_history planned.config Down Up b down (map flipped r.events) (turned (world_of nodes)) is (run_turned planned.config Up Down r.events (world_of (opened_nodes planned ue_first rnc_first)) (world_of nodes) r.run)

pub tm_up_history : (planned : Planned) (ue_first rnc_first b up : ℕ) (events : List Event) (nodes : Nodes) → IsTmBearer planned.config Up b up → Runs Any (opened_nodes planned ue_first rnc_first) events nodes → IsTmHistory planned.config Up b up [] [] (world_of nodes)
tm_up_history planned ue_first rnc_first b up events nodes is run =
    let r = any_run planned ue_first rnc_first events nodes run in
    tm_history planned.config Up Down b up r.events (world_of nodes) is r.run

pub tm_down_history : (planned : Planned) (ue_first rnc_first b down : ℕ) (events : List Event) (nodes : Nodes) → IsTmBearer planned.config Down b down → Runs Any (opened_nodes planned ue_first rnc_first) events nodes → IsTmHistory planned.config Down b down [] [] (turned (world_of nodes))
tm_down_history planned ue_first rnc_first b down events nodes is run =
    let r = any_run planned ue_first rnc_first events nodes run in
    tm_history planned.config Down Up b down (map flipped r.events) (turned (world_of nodes)) is (run_turned planned.config Up Down r.events (world_of (opened_nodes planned ue_first rnc_first)) (world_of nodes) r.run)

pub um_up : (planned : Planned) (ue_first rnc_first b up : ℕ) (events : List Event) (nodes : Nodes) → IsUmBearer planned.config Up b up → Runs Any (opened_nodes planned ue_first rnc_first) events nodes → IsFaithful (nodes.up up) → IsKnownHistory planned.config Up b up [] [] (world_of nodes)
um_up planned ue_first rnc_first b up events nodes is run faithful =
    known_history planned.config Up b up [] [] (world_of nodes) (um_up_history planned ue_first rnc_first b up events nodes is run) tt faithful

pub um_down : (planned : Planned) (ue_first rnc_first b down : ℕ) (events : List Event) (nodes : Nodes) → IsUmBearer planned.config Down b down → Runs Any (opened_nodes planned ue_first rnc_first) events nodes → IsFaithful (nodes.down down) → IsKnownHistory planned.config Down b down [] [] (turned (world_of nodes))
um_down planned ue_first rnc_first b down events nodes is run faithful =
    known_history planned.config Down b down [] [] (turned (world_of nodes)) (um_down_history planned ue_first rnc_first b down events nodes is run) tt faithful

pub tm_up : (planned : Planned) (ue_first rnc_first b up : ℕ) (events : List Event) (nodes : Nodes) → IsTmBearer planned.config Up b up → Runs Any (opened_nodes planned ue_first rnc_first) events nodes → IsFaithful (nodes.up up) → IsUpSome planned b up nodes
tm_up planned ue_first rnc_first b up events nodes is run faithful =
    tm_some planned.config Up b up [] [] (world_of nodes) (tm_up_history planned ue_first rnc_first b up events nodes is run) tt faithful

pub tm_down : (planned : Planned) (ue_first rnc_first b down : ℕ) (events : List Event) (nodes : Nodes) → IsTmBearer planned.config Down b down → Runs Any (opened_nodes planned ue_first rnc_first) events nodes → IsFaithful (nodes.down down) → IsDownSome planned b down nodes
tm_down planned ue_first rnc_first b down events nodes is run faithful =
    tm_some planned.config Down b down [] [] (turned (world_of nodes)) (tm_down_history planned ue_first rnc_first b down events nodes is run) tt faithful
