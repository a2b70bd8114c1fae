-- A second configuration that becomes active at each node.
use Rattle.std.proofs.Common.{◌≡◌, ℕ, List, [], refl, subst}
use Rattle.dch_types.specs.declared.channel.Dir.TheVariants.{Up, Down}
use Rattle.dch_accept.specs.Plans.{Planned}
use Rattle.dch_node.specs.Lines.{Line}
use Rattle.dch_node.specs.Standing.{Tells}
use Rattle.dch_node.specs.Values.{Output, no_output}
use Rattle.dch_ue.specs.Standing.{Represents as UeStands, Shows as UeShows, Stepped as UeStepped}
use Rattle.dch_ue.specs.State.{Change as UeChange, Event as UeEvent, State as UeState, opened_state as opened_ue}
use Rattle.dch_ue.specs.Steps.{Steps as UeSteps}
use Rattle.dch_ue.specs.Values.{Node as Ue}
use Rattle.dch_nodeb.specs.Standing.{Represents as NodeBStands, Shows as NodeBShows, Stepped as NodeBStepped}
use Rattle.dch_nodeb.specs.State.{Change as NodeBChange, Event as NodeBEvent, State as NodeBState, opened_state as opened_node_b}
use Rattle.dch_nodeb.specs.Steps.{Steps as NodeBSteps}
use Rattle.dch_nodeb.specs.Values.{Node as NodeB}
use Rattle.dch_rnc.specs.Standing.{Represents as RncStands, Shows as RncShows, Stepped as RncStepped}
use Rattle.dch_rnc.specs.State.{Change as RncChange, Event as RncEvent, State as RncState, opened_state as opened_rnc}
use Rattle.dch_rnc.specs.Steps.{Steps as RncSteps}
use Rattle.dch_rnc.specs.Values.{Node as Rnc}
use Rattle.dch_link.specs.Courses.{Course, course_after}
use Rattle.dch_link.specs.Link.{LinkState}
use Rattle.dch_link.specs.LinkNodes.{ChangesTo, Represents}
use Rattle.dch_link.specs.Values.{Nodes}
use Rattle.dch_link.proofs.Coursing.{course_changes}
use Rattle.dch_link.proofs.Fits.{says_fits}

-- nothing is told
unsaid : {U : Type 0} (shows : U → Line → U → Type 0) (before after : U) (output : Output) → output ≡ no_output → Tells shows before after output.lines → after ≡ before
unsaid shows before after output quiet told = subst (λ (o : Output). Tells shows before after o.lines) quiet told

pub rnc_unsaid : {U : Type 0} (shows : U → Line → U → Type 0) (second : Planned) (state : RncState) (rnc : Rnc) (before after : U) → RncStepped second state (RncChange second) rnc (Tells shows before after) → after ≡ before
rnc_unsaid shows second state rnc before after step = unsaid shows before after step.output step.step.quiet step.tells

pub node_b_unsaid : {U : Type 0} (shows : U → Line → U → Type 0) (second : Planned) (state : NodeBState) (node_b : NodeB) (before after : U) → NodeBStepped second state (NodeBChange second) node_b (Tells shows before after) → after ≡ before
node_b_unsaid shows second state node_b before after step = unsaid shows before after step.output step.step.quiet step.tells

pub ue_unsaid : {U : Type 0} (shows : U → Line → U → Type 0) (second : Planned) (state : UeState) (ue : Ue) (before after : U) → UeStepped second state (UeChange second) ue (Tells shows before after) → after ≡ before
ue_unsaid shows second state ue before after step = unsaid shows before after step.output step.step.quiet step.tells

-- and the nodes stand for the states behind
pub nodes_change : (began before second : Planned) (first : ℕ) (link : LinkState) (nodes : Nodes) (rnc : Rnc) (node_b : NodeB) (ue : Ue) (Front Mid Back : List Line → Type 0) → Represents began before first link nodes
    → RncStepped second link.rnc.state (RncChange second) rnc Front → NodeBStepped second link.node_b.state (NodeBChange second) node_b Mid → UeStepped second link.ue.state (UeChange second) ue Back
    → ChangesTo began second first link (record nodes { rnc = rnc; node_b = node_b; ue = ue })
nodes_change began before second first link nodes rnc node_b ue Front Mid Back was rnc_step node_b_step ue_step =
    let rnc_now : Course RncState RncEvent = course_after link.rnc (RncChange second) rnc_step.next rnc_step.output in
    let node_b_now : Course NodeBState NodeBEvent = course_after link.node_b (NodeBChange second) node_b_step.next node_b_step.output in
    let ue_now : Course UeState UeEvent = course_after link.ue (UeChange second) ue_step.next ue_step.output in
    record {
      next = record link { rnc = rnc_now; node_b = node_b_now; ue = ue_now };
      changes = record {
        rnc_new = record link { rnc = rnc_now };
        node_b_new = record link { rnc = rnc_now; node_b = node_b_now };
        rnc_changes = record { rnc = rnc_now; goes = record { state = rnc_step.next; output = rnc_step.output; step = rnc_step.step; is = refl }; is = refl };
        node_b_changes = record { node_b = node_b_now; goes = record { state = node_b_step.next; output = node_b_step.output; step = node_b_step.step; is = refl }; is = refl };
        ue_changes = record { ue = ue_now; goes = record { state = ue_step.next; output = ue_step.output; step = ue_step.step; is = refl }; is = refl };
      };
      stands = record {
        ue = course_changes UeSteps (UeStands before) (UeStands second) UeShows (opened_ue began first) link.ue (UeChange second) nodes.ue ue Back was.ue ue_step;
        node_b = course_changes NodeBSteps (NodeBStands before) (NodeBStands second) NodeBShows (opened_node_b began first) link.node_b (NodeBChange second) nodes.node_b node_b Mid was.node_b node_b_step;
        rnc = course_changes RncSteps (RncStands before) (RncStands second) RncShows (opened_rnc began first) link.rnc (RncChange second) nodes.rnc rnc Front was.rnc rnc_step;
        ue_sends = says_fits second Up Up ue_step.output [] ue_step.step.quiet;
        node_b_sends = says_fits second Down Up node_b_step.output [] node_b_step.step.quiet;
        rnc_sends = says_fits second Down Down rnc_step.output [] rnc_step.step.quiet;
        damage = was.damage;
      };
    }
