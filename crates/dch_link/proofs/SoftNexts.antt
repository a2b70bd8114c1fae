-- Steps of one node as steps of all.
use Rattle.std.proofs.Common.{◌≡◌, ◌<◌, ◌≤◌, ◌∙◌, ℕ, List, [], length, refl, ap, sym, subst, eq-eqb, ne_eqb}
use Rattle.std.specs.Prelude.{slice_set}
use Rattle.std.proofs.lemmas.List.{length-set}
use Rattle.dch_types.specs.declared.channel.Dir.{Dir}
use Rattle.dch_types.specs.Parts.{side_of}
use Rattle.dch_accept.specs.Plans.{Planned}
use Rattle.dch_node.specs.Lines.{Line}
use Rattle.dch_damage.specs.Damage.{Damage}
use Rattle.dch_damage.specs.Tables.{Tables}
use Rattle.dch_damage.specs.Waiting.{Waits}
use Rattle.dch_ue.specs.Opened.{IsNodeOf as IsUeOf}
use Rattle.dch_ue.specs.Standing.{Represents as UeStands, Shows as UeShows, Stepped as UeStepped}
use Rattle.dch_ue.specs.State.{Event as UeEvent, State as UeState, opened_state as opened_ue}
use Rattle.dch_ue.specs.Steps.{Steps as UeSteps}
use Rattle.dch_ue.specs.Values.{Node as Ue}
use Rattle.dch_nodeb.specs.Standing.{Represents as NodeBStands, Shows as NodeBShows, Stepped as NodeBStepped}
use Rattle.dch_nodeb.specs.State.{Event as NodeBEvent, opened_state as opened_node_b}
use Rattle.dch_nodeb.specs.Steps.{Steps as NodeBSteps}
use Rattle.dch_nodeb.specs.Values.{Node as NodeB}
use Rattle.dch_rnc.specs.Standing.{Represents as RncStands, Shows as RncShows, Stepped as RncStepped}
use Rattle.dch_rnc.specs.State.{Event as RncEvent, opened_state as opened_rnc}
use Rattle.dch_rnc.specs.Steps.{Steps as RncSteps}
use Rattle.dch_rnc.specs.Values.{Node as Rnc}
use Rattle.dch_link.specs.Courses.{course_after}
use Rattle.dch_link.proofs.Coursing.{course_is}
use Rattle.dch_link.proofs.Fits.{node_b_fits, rnc_fits, ue_fits}
use Rattle.dch_link.specs.SoftEvents.{Damages, Happens, damaged}
use Rattle.dch_link.specs.Legs.{LegGoes, LegState}
use Rattle.dch_link.specs.Soft.{SoftState, over, uplink_of, with_leg}
use Rattle.dch_link.specs.SoftStages.{AtLeg, RncReports, UeReports}
use Rattle.dch_link.specs.SoftNodes.{AreLegsOf, ArePartsOf, IsLegOf, IsSoftOf, IsStandingLeg, LeadsTo, LegLeadsTo, RepresentLegs, Represents, RepresentsLeg}
use Rattle.dch_link.specs.SoftValues.{IsLeg, LegParts, Parts}
use Rattle.dch_link.proofs.Legs.{set_leg}

-- a combination runs that there is
ue_running : (planned : Planned) (state : UeState) (ue : Ue) → IsUeOf planned ue → UeStands planned state ue → state.layer.running < length planned.config.uplink.side.combinations
ue_running planned state ue opened is =
    subst (λ n. n < length planned.config.uplink.side.combinations) is.at.layer.running (subst (λ (d : Dir). ue.layer.running < length (side_of planned.config d).combinations) opened.sends is.at.layer.runs)

pub ue_next : (planned : Planned) (first : ℕ) (soft : SoftState) (parts : Parts) (event : UeEvent) (ue : Ue) (Says : List Line → Type 0) → Represents planned first soft parts → IsUeOf planned ue
    → UeStepped planned soft.ue.state event ue Says → LeadsTo planned first (UeReports soft event) (record parts { ue = ue }) Says
ue_next planned first soft parts event ue Says was opened step = record {
  next = record soft { ue = course_after soft.ue event step.next step.output };
  lines = step.output.lines;
  does = (record { ue = course_after soft.ue event step.next step.output; goes = record { state = step.next; output = step.output; step = step.step; is = refl }; is = refl }, refl);
  stands = record {
    ue = course_is UeSteps (UeStands planned) UeShows (opened_ue planned first) soft.ue event parts.ue ue Says was.ue step;
    rnc = was.rnc;
    ue_sends = ue_fits planned soft.ue.state step.next event step.output step.step was.ue.stands.at.active (ue_running planned step.next ue opened step.stands);
    rnc_sends = was.rnc_sends;
    count = was.count;
    legs = was.legs;
    frames = was.frames;
    cfn = was.cfn;
  };
  tells = step.tells;
}

pub rnc_next : (planned : Planned) (first : ℕ) (soft : SoftState) (parts : Parts) (event : RncEvent) (rnc : Rnc) (Says : List Line → Type 0) → Represents planned first soft parts
    → RncStepped planned soft.rnc.state event rnc Says → LeadsTo planned first (RncReports soft event) (record parts { rnc = rnc }) Says
rnc_next planned first soft parts event rnc Says was step = record {
  next = record soft { rnc = course_after soft.rnc event step.next step.output };
  lines = step.output.lines;
  does = (record { rnc = course_after soft.rnc event step.next step.output; goes = record { state = step.next; output = step.output; step = step.step; is = refl }; is = refl }, refl);
  stands = record {
    ue = was.ue;
    rnc = course_is RncSteps (RncStands planned) RncShows (opened_rnc planned first) soft.rnc event parts.rnc rnc Says was.rnc step;
    ue_sends = was.ue_sends;
    rnc_sends = rnc_fits planned soft.rnc.state step.next event step.output step.step was.rnc.stands.at.active;
    count = was.count;
    legs = was.legs;
    frames = was.frames;
    cfn = was.cfn;
  };
  tells = step.tells;
}

-- a step of the Node B of a leg
pub leg_goes : (planned : Planned) (first : ℕ) (leg : LegState) (it : LegParts) (event : NodeBEvent) (node_b : NodeB) (Says : List Line → Type 0) → RepresentsLeg planned first leg it
    → NodeBStepped planned leg.node_b.state event node_b Says → LegLeadsTo planned first (LegGoes leg event) (record it { node_b = node_b }) Says
leg_goes planned first leg it event node_b Says was step = record {
  next = record leg { node_b = course_after leg.node_b event step.next step.output };
  lines = step.output.lines;
  does = record { node_b = course_after leg.node_b event step.next step.output; goes = record { state = step.next; output = step.output; step = step.step; is = refl }; is = refl; reported = refl };
  stands = record {
    node_b = course_is NodeBSteps (NodeBStands planned) NodeBShows (opened_node_b planned first) leg.node_b event it.node_b node_b Says was.node_b step;
    sends = node_b_fits planned leg.node_b.state step.next event step.output step.step was.node_b.stands.active;
    damage = was.damage;
  };
  tells = step.tells;
}

-- the tables of a leg's damage change, and keep another list
pub with_damage : (planned : Planned) (first : ℕ) (leg : LegState) (it : LegParts) (damage : List Damage) (tables : Tables) → RepresentsLeg planned first leg it → Waits damage tables
    → RepresentsLeg planned first (record leg { damage = damage }) (record it { damage = tables })
with_damage planned first leg it damage tables was waits = record { node_b = was.node_b; sends = was.sends; damage = waits }

-- nothing comes to a leg
pub leg_stays : (planned : Planned) (first : ℕ) (leg : LegState) (it : LegParts) (Says : List Line → Type 0) → Says [] → RepresentsLeg planned first leg it → LegLeadsTo planned first (λ new lines. (new ≡ leg) × (lines ≡ [])) it Says
leg_stays planned first leg it Says none was = record { next = leg; lines = []; does = (refl, refl); stands = was; tells = none }

-- a leg of nodes that stand for something does
pub standing_leg : (planned : Planned) (parts : Parts) (k : ℕ) (it : LegParts) → IsSoftOf planned parts → IsLeg parts.legs k it → IsStandingLeg planned it
standing_leg planned parts k it are is = record { opened = are.opened.legs k it is; first = are.first; state = are.soft.legs k; stands = are.stands.legs k it is }

-- leg k is another one
pub parts_with_leg : (planned : Planned) (parts : Parts) (k : ℕ) (new : LegParts) → ArePartsOf planned parts → k < length parts.legs → IsLegOf planned new → ArePartsOf planned (record parts { legs = slice_set parts.legs k new })
parts_with_leg planned parts k new are inside is =
    let long : length (slice_set parts.legs k new) ≡ length parts.legs = length-set parts.legs k new in
    record {
      ue = are.ue;
      rnc = are.rnc;
      legs = set_leg (λ j leg. IsLegOf planned leg) parts.legs k new inside is (λ j leg other here. are.legs j leg here);
      combiner = are.combiner;
      all = are.all ∙ sym long;
      some = subst (λ n. 1 ≤ n) (sym long) are.some;
      few = subst (λ n. n ≤ 6) (sym long) are.few;
      room = are.room;
    }

pub stands_with_leg : (planned : Planned) (first : ℕ) (soft : SoftState) (parts : Parts) (k : ℕ) (leg : LegState) (new : LegParts) → Represents planned first soft parts → k < length parts.legs → RepresentsLeg planned first leg new
    → Represents planned first (with_leg soft k leg) (record parts { legs = slice_set parts.legs k new })
stands_with_leg planned first soft parts k leg new was inside is = record {
  ue = was.ue;
  rnc = was.rnc;
  ue_sends = was.ue_sends;
  rnc_sends = was.rnc_sends;
  count = was.count ∙ sym (length-set parts.legs k new);
  legs = set_leg (λ j it. RepresentsLeg planned first ((with_leg soft k leg).legs j) it) parts.legs k new inside (rw (eq-eqb k k refl) is) (λ j it other here. rw (ne_eqb j k other) (was.legs j it here));
  frames = was.frames;
  cfn = was.cfn;
}

-- the legs are others, of which as many stand for the same
pub parts_with_legs : (planned : Planned) (parts : Parts) (legs : List LegParts) → ArePartsOf planned parts → AreLegsOf planned legs → length legs ≡ length parts.legs → ArePartsOf planned (record parts { legs = legs })
parts_with_legs planned parts legs are legs_are long = record {
  ue = are.ue;
  rnc = are.rnc;
  legs = legs_are;
  combiner = are.combiner;
  all = are.all ∙ sym long;
  some = subst (λ n. 1 ≤ n) (sym long) are.some;
  few = subst (λ n. n ≤ 6) (sym long) are.few;
  room = are.room;
}

pub stands_with_legs : (planned : Planned) (first : ℕ) (soft : SoftState) (parts : Parts) (legs : List LegParts) → Represents planned first soft parts → RepresentLegs planned first soft.legs legs → length legs ≡ length parts.legs
    → Represents planned first soft (record parts { legs = legs })
stands_with_legs planned first soft parts legs was are long = record {
  ue = was.ue;
  rnc = was.rnc;
  ue_sends = was.ue_sends;
  rnc_sends = was.rnc_sends;
  count = was.count ∙ sym long;
  legs = are;
  frames = was.frames;
  cfn = was.cfn;
}

-- something is done at leg k
pub leg_next : (planned : Planned) (first : ℕ) (soft : SoftState) (parts : Parts) (k : ℕ) (Does : LegState → LegState → List Line → Type 0) (it new : LegParts) (Says : List Line → Type 0) → Represents planned first soft parts → IsLeg parts.legs k it
    → ((at : ℕ) (leg : LegState) → RepresentsLeg planned at leg it → LegLeadsTo planned at (Does leg) new Says) → LeadsTo planned first (AtLeg k Does soft) (record parts { legs = slice_set parts.legs k new }) Says
leg_next planned first soft parts k Does it new Says was is leads =
    let led = leads first (soft.legs k) (was.legs k it is) in
    record {
      next = with_leg soft k led.next;
      lines = led.lines;
      does = record { leg = led.next; does = led.does; is = refl };
      stands = stands_with_leg planned first soft parts k led.next new was is.0 led.stands;
      tells = led.tells;
    }

-- one more piece of damage waits on leg k
pub damage_next : (planned : Planned) (first : ℕ) (soft : SoftState) (parts : Parts) (k : ℕ) (one : Damage) (it new : LegParts) (Says : List Line → Type 0) → Says [] → Represents planned first soft parts → IsLeg parts.legs k it
    → ((leg : LegState) → RepresentsLeg planned first leg it → RepresentsLeg planned first (damaged leg one) new) → LeadsTo planned first (Happens soft (Damages k one)) (record parts { legs = slice_set parts.legs k new }) Says
damage_next planned first soft parts k one it new Says none was is waits = record {
  next = with_leg soft k (damaged (soft.legs k) one);
  lines = [];
  does = (refl, refl);
  stands = stands_with_leg planned first soft parts k (damaged (soft.legs k) one) new was is.0 (waits (soft.legs k) (was.legs k it is));
  tells = none;
}

-- nothing happens
pub soft_stays : (planned : Planned) (first : ℕ) (soft : SoftState) (parts : Parts) (Says : List Line → Type 0) → Says [] → Represents planned first soft parts → LeadsTo planned first (λ new lines. (new ≡ soft) × (lines ≡ [])) parts Says
soft_stays planned first soft parts Says none was = record { next = soft; lines = []; does = (refl, refl); stands = was; tells = none }

-- a leg changes, and stands for the same
pub stands_with_hit : (planned : Planned) (first : ℕ) (soft : SoftState) (parts : Parts) (k : ℕ) (new : LegParts) → Represents planned first soft parts → k < length parts.legs → RepresentsLeg planned first (soft.legs k) new
    → Represents planned first soft (record parts { legs = slice_set parts.legs k new })
stands_with_hit planned first soft parts k new was inside is =
    stands_with_legs planned first soft parts (slice_set parts.legs k new) was (set_leg (λ j leg. RepresentsLeg planned first (soft.legs j) leg) parts.legs k new inside is (λ j leg other here. was.legs j leg here)) (length-set parts.legs k new)

-- what was done is something else that was done
pub led_by : (planned : Planned) (first : ℕ) (One Other : SoftState → List Line → Type 0) (parts : Parts) (Says : List Line → Type 0) → ((next : SoftState) (lines : List Line) → One next lines → Other next lines)
    → LeadsTo planned first One parts Says → LeadsTo planned first Other parts Says
led_by planned first One Other parts Says other leads = record { next = leads.next; lines = leads.lines; does = other leads.next leads.lines leads.does; stands = leads.stands; tells = leads.tells }

-- whether the TTI of a set is over is known of the nodes
pub over_is : (planned : Planned) (first : ℕ) (soft : SoftState) (parts : Parts) (set : ℕ) → Represents planned first soft parts → over planned.config.uplink.side set parts.cfn ≡ over (uplink_of soft) set soft.cfn
over_is planned first soft parts set is = ap (λ (p : Planned). over p.config.uplink.side set parts.cfn) (sym is.rnc.stands.at.active) ∙ ap (λ n. over (uplink_of soft) set n) (sym is.cfn)

-- nodes that stood for something still do
pub still : (planned : Planned) (Does : SoftState → SoftState → List Line → Type 0) (old new : Parts) (Says : List Line → Type 0) → IsSoftOf planned old → ArePartsOf planned new
    → ((first : ℕ) (soft : SoftState) → Represents planned first soft old → LeadsTo planned first (Does soft) new Says) → IsSoftOf planned new
still planned Does old new Says was opened leads =
    let led = leads was.first was.soft was.stands in
    record { opened = opened; first = was.first; soft = led.next; stands = led.stands }
