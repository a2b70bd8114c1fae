-- Steps of one node as steps of all three.
use Rattle.std.proofs.Common.{◌<◌, ℕ, List, [], ◌∷◌, length, refl, subst}
use Rattle.dch_types.specs.declared.channel.Dir.{Dir}
use Rattle.dch_types.specs.Parts.{side_of}
use Rattle.dch_accept.specs.Plans.{Planned}
use Rattle.dch_node.specs.Lines.{Line}
use Rattle.dch_damage.specs.Damage.{Damage}
use Rattle.dch_damage.specs.Tables.{Tables}
use Rattle.dch_damage.specs.Waiting.{Waits}
use Rattle.dch_ue.specs.Opened.{IsNodeOf as IsUeOf}
use Rattle.dch_ue.specs.Standing.{Represents as UeStands, Shows as UeShows, Stepped as UeStepped}
use Rattle.dch_ue.specs.State.{Event as UeEvent, State as UeState, opened_state as opened_ue}
use Rattle.dch_ue.specs.Steps.{Steps as UeSteps}
use Rattle.dch_ue.specs.Values.{Node as Ue}
use Rattle.dch_nodeb.specs.Standing.{Represents as NodeBStands, Shows as NodeBShows, Stepped as NodeBStepped}
use Rattle.dch_nodeb.specs.State.{Event as NodeBEvent, opened_state as opened_node_b}
use Rattle.dch_nodeb.specs.Steps.{Steps as NodeBSteps}
use Rattle.dch_nodeb.specs.Values.{Node as NodeB}
use Rattle.dch_rnc.specs.Standing.{Represents as RncStands, Shows as RncShows, Stepped as RncStepped}
use Rattle.dch_rnc.specs.State.{Event as RncEvent, opened_state as opened_rnc}
use Rattle.dch_rnc.specs.Steps.{Steps as RncSteps}
use Rattle.dch_rnc.specs.Values.{Node as Rnc}
use Rattle.dch_link.specs.Courses.{course_after}
use Rattle.dch_link.specs.Events.{Damages, Happens}
use Rattle.dch_link.specs.Link.{LinkState}
use Rattle.dch_link.specs.Stages.{NodeBReports, RncReports, UeReports}
use Rattle.dch_link.specs.LinkNodes.{AreNodesOf, IsLinkOf, LeadsTo, Represents}
use Rattle.dch_link.specs.Values.{Nodes}
use Rattle.dch_link.proofs.Coursing.{course_is}
use Rattle.dch_link.proofs.Fits.{node_b_fits, rnc_fits, ue_fits}

-- a combination runs that there is
ue_running : (planned : Planned) (state : UeState) (ue : Ue) → IsUeOf planned ue → UeStands planned state ue → state.layer.running < length planned.config.uplink.side.combinations
ue_running planned state ue opened is =
    subst (λ n. n < length planned.config.uplink.side.combinations) is.at.layer.running (subst (λ (d : Dir). ue.layer.running < length (side_of planned.config d).combinations) opened.sends is.at.layer.runs)

pub ue_next : (began planned : Planned) (first : ℕ) (link : LinkState) (nodes : Nodes) (event : UeEvent) (ue : Ue) (Says : List Line → Type 0) → Represents began planned first link nodes → IsUeOf planned ue
    → UeStepped planned link.ue.state event ue Says → LeadsTo began planned first (UeReports link event) (record nodes { ue = ue }) Says
ue_next began planned first link nodes event ue Says was opened step = record {
  next = record link { ue = course_after link.ue event step.next step.output };
  lines = step.output.lines;
  does = (record { ue = course_after link.ue event step.next step.output; goes = record { state = step.next; output = step.output; step = step.step; is = refl }; is = refl }, refl);
  stands = record {
    ue = course_is UeSteps (UeStands planned) UeShows (opened_ue began first) link.ue event nodes.ue ue Says was.ue step;
    node_b = was.node_b;
    rnc = was.rnc;
    ue_sends = ue_fits planned link.ue.state step.next event step.output step.step was.ue.stands.at.active (ue_running planned step.next ue opened step.stands);
    node_b_sends = was.node_b_sends;
    rnc_sends = was.rnc_sends;
    damage = was.damage;
  };
  tells = step.tells;
}

pub node_b_next : (began planned : Planned) (first : ℕ) (link : LinkState) (nodes : Nodes) (event : NodeBEvent) (node_b : NodeB) (Says : List Line → Type 0) → Represents began planned first link nodes
    → NodeBStepped planned link.node_b.state event node_b Says → LeadsTo began planned first (NodeBReports link event) (record nodes { node_b = node_b }) Says
node_b_next began planned first link nodes event node_b Says was step = record {
  next = record link { node_b = course_after link.node_b event step.next step.output };
  lines = step.output.lines;
  does = (record { node_b = course_after link.node_b event step.next step.output; goes = record { state = step.next; output = step.output; step = step.step; is = refl }; is = refl }, refl);
  stands = record {
    ue = was.ue;
    node_b = course_is NodeBSteps (NodeBStands planned) NodeBShows (opened_node_b began first) link.node_b event nodes.node_b node_b Says was.node_b step;
    rnc = was.rnc;
    ue_sends = was.ue_sends;
    node_b_sends = node_b_fits planned link.node_b.state step.next event step.output step.step was.node_b.stands.active;
    rnc_sends = was.rnc_sends;
    damage = was.damage;
  };
  tells = step.tells;
}

pub rnc_next : (began planned : Planned) (first : ℕ) (link : LinkState) (nodes : Nodes) (event : RncEvent) (rnc : Rnc) (Says : List Line → Type 0) → Represents began planned first link nodes
    → RncStepped planned link.rnc.state event rnc Says → LeadsTo began planned first (RncReports link event) (record nodes { rnc = rnc }) Says
rnc_next began planned first link nodes event rnc Says was step = record {
  next = record link { rnc = course_after link.rnc event step.next step.output };
  lines = step.output.lines;
  does = (record { rnc = course_after link.rnc event step.next step.output; goes = record { state = step.next; output = step.output; step = step.step; is = refl }; is = refl }, refl);
  stands = record {
    ue = was.ue;
    node_b = was.node_b;
    rnc = course_is RncSteps (RncStands planned) RncShows (opened_rnc began first) link.rnc event nodes.rnc rnc Says was.rnc step;
    ue_sends = was.ue_sends;
    node_b_sends = was.node_b_sends;
    rnc_sends = rnc_fits planned link.rnc.state step.next event step.output step.step was.rnc.stands.at.active;
    damage = was.damage;
  };
  tells = step.tells;
}

-- the tables of damage change, and keep another list
pub with_damage : (began planned : Planned) (first : ℕ) (link : LinkState) (nodes : Nodes) (damage : List Damage) (tables : Tables) → Represents began planned first link nodes → Waits damage tables → Represents began planned first (record link { damage = damage }) (record nodes { damage = tables })
with_damage began planned first link nodes damage tables was waits = record {
  ue = was.ue;
  node_b = was.node_b;
  rnc = was.rnc;
  ue_sends = was.ue_sends;
  node_b_sends = was.node_b_sends;
  rnc_sends = was.rnc_sends;
  damage = waits;
}

-- one more piece of damage waits
pub damage_next : (began planned : Planned) (first : ℕ) (link : LinkState) (nodes : Nodes) (one : Damage) (tables : Tables) (Says : List Line → Type 0) → Says [] → Represents began planned first link nodes → Waits (one ∷ link.damage) tables
    → LeadsTo began planned first (Happens link (Damages one)) (record nodes { damage = tables }) Says
damage_next began planned first link nodes one tables Says none was waits = record {
  next = record link { damage = one ∷ link.damage };
  lines = [];
  does = (refl, refl);
  stands = with_damage began planned first link nodes (one ∷ link.damage) tables was waits;
  tells = none;
}

-- nodes that stood for something still do
pub still : (planned : Planned) (Does : LinkState → LinkState → List Line → Type 0) (old new : Nodes) (Says : List Line → Type 0) → IsLinkOf planned old → AreNodesOf planned new
    → ((began : Planned) (first : ℕ) (link : LinkState) → Represents began planned first link old → LeadsTo began planned first (Does link) new Says) → IsLinkOf planned new
still planned Does old new Says was opened leads =
    let led = leads was.began was.first was.link was.stands in
    record { opened = opened; began = was.began; first = was.first; link = led.next; stands = led.stands }

-- what was done is something else that was done
pub led_by : (began planned : Planned) (first : ℕ) (One Other : LinkState → List Line → Type 0) (nodes : Nodes) (Says : List Line → Type 0) → ((next : LinkState) (lines : List Line) → One next lines → Other next lines)
    → LeadsTo began planned first One nodes Says → LeadsTo began planned first Other nodes Says
led_by began planned first One Other nodes Says other leads = record { next = leads.next; lines = leads.lines; does = other leads.next leads.lines leads.does; stands = leads.stands; tells = leads.tells }
