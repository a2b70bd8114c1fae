-- A run of the two nodes in two parts is one of their layers 2.
use Rattle.std.proofs.Common.{◌≡◌, ◌∙◌, ◌++◌, ℕ, List, map, refl, ap, ap₂, subst₂}
use Rattle.std.proofs.lemmas.List.{append-nil}
use Rattle.dch_bits.specs.declared.bit.Bit.{Bit}
use Rattle.dch_types.specs.declared.channel.Dir.TheVariants.{Up, Down}
use Rattle.dch_config.specs.Changes.{KeepsBearer}
use Rattle.dch_accept.specs.Plans.{Planned}
use Rattle.dch_node.specs.Lines.{Line}
use Rattle.dch_node.specs.Values.{Output}
use Rattle.dch_linkcmd.specs.UeState.{State as UeState}
use Rattle.dch_linkcmd.specs.RncState.{State as RncState}
use Rattle.dch_amlaw.specs.Pair.{At as Call}
use Rattle.dch_runlaw.specs.History.{IsAmBearer}
use Rattle.dch_runlaw.specs.TmHistory.{IsTmBearer, IsTmCarried, units_in}
use Rattle.dch_runlaw.specs.UmHistory.{Any as AnyWorld, IsUmBearer, IsUmCarried, pdus_in}
use Rattle.dch_runlaw.specs.Worlds.{AreFaithful as AreWorldFaithful, AreWholeSoFar, HasChanged, IsFaithful, RunsInTwo as WorldsInTwo, World, turned}
use Rattle.dch_runlaw.proofs.Parts.{over_parts, whole_parts}
use Rattle.dch_runlaw.proofs.Tm.{sub_units, tm_all_came, tm_some}
use Rattle.dch_runlaw.proofs.TmRuns.{tm_over}
use Rattle.dch_runlaw.proofs.UmKnown.{known_over}
use Rattle.dch_runlaw.proofs.UmRuns.{um_over}
use Rattle.dch_runlaw.proofs.UmWhole.{um_all_came}
use Rattle.dch_runlaw.specs.Nodes.{Any, AreAllTaken, AreFaithful, AreWhole, Changes, Event, IsAmHistoryOver, IsDownKnownOver, IsDownSomeOver, IsUpKnownOver, IsUpSomeOver, IsWholeAmHistory, Nodes, RunsInTwo, opened_nodes, world_of}
use Rattle.dch_runlaw.specs.NodesCalls.{nodes_calls}
use Rattle.dch_runlaw.proofs.NodesEvents.{Have, RunsOn, flipped, run_turned, runs_on}

-- both layers 2 changed
pub has_changed : (second : Planned) (old new : Nodes) → Changes second old new → HasChanged second.config Up Down (world_of old) (world_of new)
has_changed second old new c = record {
  near = ap₂ (λ (x : UeState) (l : List Line). record { layer = x.layer; said = l }) c.ue.state (c.ue_reported ∙ ap (λ (o : Output). old.ue_lines ++ o.lines) c.ue.quiet ∙ append-nil old.ue_lines);
  far = ap₂ (λ (x : RncState) (l : List Line). record { layer = x.layer; said = l }) c.rnc.state (c.rnc_reported ∙ ap (λ (o : Output). old.rnc_lines ++ o.lines) c.rnc.quiet ∙ append-nil old.rnc_lines);
  out_log = c.up;
  back_log = c.down;
}

-- and both nodes have the second configuration
pub have_second : (second : Planned) (old new : Nodes) → Changes second old new → Have second new
have_second second old new c = record { ue = ap (λ (x : UeState). x.planned) c.ue.state; rnc = ap (λ (x : RncState). x.planned) c.rnc.state }

-- a run in two parts, where what holds of the nodes after each event says something of the two layers 2
record Lifted (first second : Planned) (Before Behind : World → Type 0) (ue_first rnc_first : ℕ) (mid next new : Nodes) (one two : ℕ → List Call) : Type 0 where
  before : RunsOn first.config Before (opened_nodes first ue_first rnc_first) mid one
  changes : HasChanged second.config Up Down (world_of mid) (world_of next)
  behind : RunsOn second.config Behind next new two

-- the calls of each part
abbrev first_calls : (first second : Planned) (Is On : Nodes → Type 0) (ue_first rnc_first : ℕ) (earlier later : List Event) (new : Nodes) → RunsInTwo first second Is On ue_first rnc_first earlier later new → ℕ → List Call
first_calls first second Is On ue_first rnc_first earlier later new r b = nodes_calls first.config b Is (opened_nodes first ue_first rnc_first) earlier r.mid r.before

abbrev second_calls : (first second : Planned) (Is On : Nodes → Type 0) (ue_first rnc_first : ℕ) (earlier later : List Event) (new : Nodes) → RunsInTwo first second Is On ue_first rnc_first earlier later new → ℕ → List Call
second_calls first second Is On ue_first rnc_first earlier later new r b = nodes_calls second.config b On r.next later new r.behind

lifted : (first second : Planned) (Is On : Nodes → Type 0) (Before Behind : World → Type 0) (ue_first rnc_first : ℕ) (earlier later : List Event) (new : Nodes) → ((nodes : Nodes) → Is nodes → Before (world_of nodes)) → ((nodes : Nodes) → On nodes → Behind (world_of nodes)) → (r : RunsInTwo first second Is On ue_first rnc_first earlier later new)
    → Lifted first second Before Behind ue_first rnc_first r.mid r.next new (first_calls first second Is On ue_first rnc_first earlier later new r) (second_calls first second Is On ue_first rnc_first earlier later new r)
lifted first second Is On Before Behind ue_first rnc_first earlier later new f g r = record {
  before = runs_on first Is Before f earlier (opened_nodes first ue_first rnc_first) r.mid (record { ue = refl; rnc = refl }) r.before;
  changes = has_changed second r.mid r.next r.changes;
  behind = runs_on second On Behind g later r.next new (have_second second r.mid r.next r.changes) r.behind;
}

-- as one of layers 2, and as the network controller sees it
abbrev in_two : (first second : Planned) (Before Behind : World → Type 0) (ue_first rnc_first : ℕ) (mid next new : Nodes) {one two : ℕ → List Call} (l : Lifted first second Before Behind ue_first rnc_first mid next new one two) → WorldsInTwo first.config second.config Up Down Before Behind l.before.events l.behind.events (world_of new)
in_two first second Before Behind ue_first rnc_first mid next new l = record { mid = world_of mid; next = world_of next; before = l.before.run; changes = l.changes; behind = l.behind.run }

abbrev turned_two : (first second : Planned) (ue_first rnc_first : ℕ) (mid next new : Nodes) {one two : ℕ → List Call} (l : Lifted first second AnyWorld AnyWorld ue_first rnc_first mid next new one two) → WorldsInTwo first.config second.config Down Up AnyWorld AnyWorld (map flipped l.before.events) (map flipped l.behind.events) (turned (world_of new))
turned_two first second ue_first rnc_first mid next new l = record {
  mid = turned (world_of mid);
  next = turned (world_of next);
  before = run_turned first.config Up Down l.before.events (world_of (opened_nodes first ue_first rnc_first)) (world_of mid) l.before.run;
  changes = record { near = l.changes.far; far = l.changes.near; out_log = l.changes.back_log; back_log = l.changes.out_log };
  behind = run_turned second.config Up Down l.behind.events (world_of next) (world_of new) l.behind.run;
}

-- acknowledged bearers
pub two_history : (first second : Planned) (ue_first rnc_first b up down up_later down_later : ℕ) (earlier later : List Event) (nodes : Nodes) → KeepsBearer first.config second.config b → IsAmBearer first.config Up Down b up down → IsAmBearer second.config Up Down b up_later down_later → (run : RunsInTwo first second (AreFaithful up down) (AreFaithful up_later down_later) ue_first rnc_first earlier later nodes)
    → IsAmHistoryOver second b (nodes_calls first.config b (AreFaithful up down) (opened_nodes first ue_first rnc_first) earlier run.mid run.before) (nodes_calls second.config b (AreFaithful up_later down_later) run.next later nodes run.behind) run.mid nodes
two_history first second ue_first rnc_first b up down up_later down_later earlier later nodes keeps is on run =
    let l = lifted first second (AreFaithful up down) (AreFaithful up_later down_later) (AreWorldFaithful up down) (AreWorldFaithful up_later down_later) ue_first rnc_first earlier later nodes (λ n holds. record { out = holds.up_is; back = holds.down_is }) (λ n holds. record { out = holds.up_is; back = holds.down_is }) run in
    subst₂ (λ (one two : List Call). IsAmHistoryOver second b one two run.mid nodes) (l.before.called b) (l.behind.called b)
    (over_parts first.config second.config Up Down b up down up_later down_later l.before.events l.behind.events (world_of nodes) keeps is on (in_two first second (AreWorldFaithful up down) (AreWorldFaithful up_later down_later) ue_first rnc_first run.mid run.next nodes l))

pub two_whole : (first second : Planned) (ue_first rnc_first b up down up_later down_later : ℕ) (earlier later : List Event) (nodes : Nodes) → KeepsBearer first.config second.config b → IsAmBearer first.config Up Down b up down → IsAmBearer second.config Up Down b up_later down_later → (run : RunsInTwo first second (AreWhole up down) (AreWhole up_later down_later) ue_first rnc_first earlier later nodes) → AreAllTaken up down run.mid
    → IsWholeAmHistory second b up_later down_later (nodes_calls first.config b (AreWhole up down) (opened_nodes first ue_first rnc_first) earlier run.mid run.before ++ nodes_calls second.config b (AreWhole up_later down_later) run.next later nodes run.behind) nodes
two_whole first second ue_first rnc_first b up down up_later down_later earlier later nodes keeps is on run taken =
    let l = lifted first second (AreWhole up down) (AreWhole up_later down_later) (AreWholeSoFar up down) (AreWholeSoFar up_later down_later) ue_first rnc_first earlier later nodes (λ n holds. record { out = holds.up_is; back = holds.down_is }) (λ n holds. record { out = holds.up_is; back = holds.down_is }) run in
    subst₂ (λ (one two : List Call). IsWholeAmHistory second b up_later down_later (one ++ two) nodes) (l.before.called b) (l.behind.called b)
    (whole_parts first.config second.config Up Down b up down up_later down_later l.before.events l.behind.events (world_of nodes) keeps is on (in_two first second (AreWholeSoFar up down) (AreWholeSoFar up_later down_later) ue_first rnc_first run.mid run.next nodes l) taken.up_is taken.down_is)

-- and bearers of which nothing is asked of the channels after each event
any_two : (first second : Planned) (ue_first rnc_first : ℕ) (earlier later : List Event) (nodes : Nodes) → (run : RunsInTwo first second Any Any ue_first rnc_first earlier later nodes) → Lifted first second AnyWorld AnyWorld ue_first rnc_first run.mid run.next nodes (first_calls first second Any Any ue_first rnc_first earlier later nodes run) (second_calls first second Any Any ue_first rnc_first earlier later nodes run)
any_two first second ue_first rnc_first earlier later nodes run = lifted first second Any Any AnyWorld AnyWorld ue_first rnc_first earlier later nodes (λ n holds. tt) (λ n holds. tt) run

pub um_up_two : (first second : Planned) (ue_first rnc_first b up up_later : ℕ) (earlier later : List Event) (nodes : Nodes) → IsUmBearer first.config Up b up → IsUmBearer second.config Up b up_later → (run : RunsInTwo first second Any Any ue_first rnc_first earlier later nodes) → IsFaithful (run.mid.up up) → IsFaithful (nodes.up up_later) → IsUpKnownOver first second b up up_later run.mid nodes
um_up_two first second ue_first rnc_first b up up_later earlier later nodes is on run before faithful =
    let l = any_two first second ue_first rnc_first earlier later nodes run in
    known_over first.config second.config Up b up up_later (world_of run.mid) (world_of nodes) (um_over first.config second.config Up Down b up up_later l.before.events l.behind.events (world_of nodes) is on (in_two first second AnyWorld AnyWorld ue_first rnc_first run.mid run.next nodes l)) before faithful

pub um_up_whole : (first second : Planned) (ue_first rnc_first b up up_later : ℕ) (earlier later : List Event) (nodes : Nodes) (running : List (List Bit)) → IsUmBearer first.config Up b up → IsUmBearer second.config Up b up_later → (run : RunsInTwo first second Any Any ue_first rnc_first earlier later nodes) → (run.mid.up up).given ≡ (run.mid.up up).taken → (nodes.up up_later).given ≡ (nodes.up up_later).taken ++ running → IsUmCarried second.config Up b up_later nodes.ue.layer nodes.rnc_lines running
um_up_whole first second ue_first rnc_first b up up_later earlier later nodes running is on run before e =
    let l = any_two first second ue_first rnc_first earlier later nodes run in
    um_all_came second.config Up b up_later (pdus_in first.config Up b up (run.mid.up up).given) (pdus_in first.config Up b up (run.mid.up up).taken) (world_of nodes) running (um_over first.config second.config Up Down b up up_later l.before.events l.behind.events (world_of nodes) is on (in_two first second AnyWorld AnyWorld ue_first rnc_first run.mid run.next nodes l)) (ap (pdus_in first.config Up b up) before) e

pub tm_up_two : (first second : Planned) (ue_first rnc_first b up up_later : ℕ) (earlier later : List Event) (nodes : Nodes) → IsTmBearer first.config Up b up → IsTmBearer second.config Up b up_later → (run : RunsInTwo first second Any Any ue_first rnc_first earlier later nodes) → IsFaithful (run.mid.up up) → IsFaithful (nodes.up up_later) → IsUpSomeOver first second b up up_later run.mid nodes
tm_up_two first second ue_first rnc_first b up up_later earlier later nodes is on run before faithful =
    let l = any_two first second ue_first rnc_first earlier later nodes run in
    tm_some second.config Up b up_later (units_in first.config Up b up (run.mid.up up).given) (units_in first.config Up b up (run.mid.up up).taken) (world_of nodes) (tm_over first.config second.config Up Down b up up_later l.before.events l.behind.events (world_of nodes) is on (in_two first second AnyWorld AnyWorld ue_first rnc_first run.mid run.next nodes l)) (sub_units first.config Up b up (run.mid.up up) before) faithful

pub tm_up_whole : (first second : Planned) (ue_first rnc_first b up up_later : ℕ) (earlier later : List Event) (nodes : Nodes) (running : List (List Bit)) → IsTmBearer first.config Up b up → IsTmBearer second.config Up b up_later → (run : RunsInTwo first second Any Any ue_first rnc_first earlier later nodes) → (run.mid.up up).given ≡ (run.mid.up up).taken → (nodes.up up_later).given ≡ (nodes.up up_later).taken ++ running → IsTmCarried second.config Up b up_later nodes.ue.layer nodes.rnc_lines running
tm_up_whole first second ue_first rnc_first b up up_later earlier later nodes running is on run before e =
    let l = any_two first second ue_first rnc_first earlier later nodes run in
    tm_all_came second.config Up b up_later (units_in first.config Up b up (run.mid.up up).given) (units_in first.config Up b up (run.mid.up up).taken) (world_of nodes) running (tm_over first.config second.config Up Down b up up_later l.before.events l.behind.events (world_of nodes) is on (in_two first second AnyWorld AnyWorld ue_first rnc_first run.mid run.next nodes l)) (ap (units_in first.config Up b up) before) e

pub um_down_two : (first second : Planned) (ue_first rnc_first b down down_later : ℕ) (earlier later : List Event) (nodes : Nodes) → IsUmBearer first.config Down b down → IsUmBearer second.config Down b down_later → (run : RunsInTwo first second Any Any ue_first rnc_first earlier later nodes) → IsFaithful (run.mid.down down) → IsFaithful (nodes.down down_later) → IsDownKnownOver first second b down down_later run.mid nodes
um_down_two first second ue_first rnc_first b down down_later earlier later nodes is on run before faithful =
    let l = any_two first second ue_first rnc_first earlier later nodes run in
    known_over first.config second.config Down b down down_later (turned (world_of run.mid)) (turned (world_of nodes)) (um_over first.config second.config Down Up b down down_later (map flipped l.before.events) (map flipped l.behind.events) (turned (world_of nodes)) is on (turned_two first second ue_first rnc_first run.mid run.next nodes l)) before faithful

pub um_down_whole : (first second : Planned) (ue_first rnc_first b down down_later : ℕ) (earlier later : List Event) (nodes : Nodes) (running : List (List Bit)) → IsUmBearer first.config Down b down → IsUmBearer second.config Down b down_later → (run : RunsInTwo first second Any Any ue_first rnc_first earlier later nodes) → (run.mid.down down).given ≡ (run.mid.down down).taken → (nodes.down down_later).given ≡ (nodes.down down_later).taken ++ running → IsUmCarried second.config Down b down_later nodes.rnc.layer nodes.ue_lines running
um_down_whole first second ue_first rnc_first b down down_later earlier later nodes running is on run before e =
    let l = any_two first second ue_first rnc_first earlier later nodes run in
    um_all_came second.config Down b down_later (pdus_in first.config Down b down (run.mid.down down).given) (pdus_in first.config Down b down (run.mid.down down).taken) (turned (world_of nodes)) running (um_over first.config second.config Down Up b down down_later (map flipped l.before.events) (map flipped l.behind.events) (turned (world_of nodes)) is on (turned_two first second ue_first rnc_first run.mid run.next nodes l)) (ap (pdus_in first.config Down b down) before) e

pub tm_down_two : (first second : Planned) (ue_first rnc_first b down down_later : ℕ) (earlier later : List Event) (nodes : Nodes) → IsTmBearer first.config Down b down → IsTmBearer second.config Down b down_later → (run : RunsInTwo first second Any Any ue_first rnc_first earlier later nodes) → IsFaithful (run.mid.down down) → IsFaithful (nodes.down down_later) → IsDownSomeOver first second b down down_later run.mid nodes
tm_down_two first second ue_first rnc_first b down down_later earlier later nodes is on run before faithful =
    let l = any_two first second ue_first rnc_first earlier later nodes run in
    tm_some second.config Down b down_later (units_in first.config Down b down (run.mid.down down).given) (units_in first.config Down b down (run.mid.down down).taken) (turned (world_of nodes)) (tm_over first.config second.config Down Up b down down_later (map flipped l.before.events) (map flipped l.behind.events) (turned (world_of nodes)) is on (turned_two first second ue_first rnc_first run.mid run.next nodes l)) (sub_units first.config Down b down (run.mid.down down) before) faithful

pub tm_down_whole : (first second : Planned) (ue_first rnc_first b down down_later : ℕ) (earlier later : List Event) (nodes : Nodes) (running : List (List Bit)) → IsTmBearer first.config Down b down → IsTmBearer second.config Down b down_later → (run : RunsInTwo first second Any Any ue_first rnc_first earlier later nodes) → (run.mid.down down).given ≡ (run.mid.down down).taken → (nodes.down down_later).given ≡ (nodes.down down_later).taken ++ running → IsTmCarried second.config Down b down_later nodes.rnc.layer nodes.ue_lines running
tm_down_whole first second ue_first rnc_first b down down_later earlier later nodes running is on run before e =
    let l = any_two first second ue_first rnc_first earlier later nodes run in
    tm_all_came second.config Down b down_later (units_in first.config Down b down (run.mid.down down).given) (units_in first.config Down b down (run.mid.down down).taken) (turned (world_of nodes)) running (tm_over first.config second.config Down Up b down down_later (map flipped l.before.events) (map flipped l.behind.events) (turned (world_of nodes)) is on (turned_two first second ue_first rnc_first run.mid run.next nodes l)) (ap (units_in first.config Down b down) before) e
