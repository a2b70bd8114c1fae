-- Three nodes that run together have one text.
use Rattle.std.proofs.Common.{◌≡◌, ◌<◌, ◌∙◌, ◌++◌, ◌∷◌, ℕ, List, [], Option, Some, None, length, refl, ap, ap₂, sym, subst}
use Rattle.dch_types.specs.declared.channel.Dir.{Dir}
use Rattle.dch_types.specs.declared.channel.Dir.TheVariants.{Up, Down}
use Rattle.dch_accept.specs.Plans.{IsPlanned, Planned}
use Rattle.dch_node.specs.Lines.{Line}
use Rattle.dch_node.specs.Values.{Radio, no_output}
use Rattle.dch_node.proofs.Outputs.{same_output}
use Rattle.dch_damage.specs.Damage.{Damage, iub_after, radio_after}
use Rattle.dch_layer2.specs.Layers.{Given}
use Rattle.dch_ue.specs.Same.{ReadsSame}
use Rattle.dch_ue.specs.State.{BlockedCombination as UeBlocked, Change as UeChange, DownlinkFrame, Event as UeEvent, OfferedUnit as UeOffered, State as UeState, Tick as UeTicks, opened_state as opened_ue}
use Rattle.dch_ue.proofs.OneOutput.{same_state as same_ue}
use Rattle.dch_ue.proofs.OneReading.{tick_reading}
use Rattle.dch_nodeb.specs.State.{Change as NodeBChange, DownlinkDue, IubFrame as IubFrameDown, UplinkFrame, opened_state as opened_node_b}
use Rattle.dch_nodeb.proofs.Same.{same_state as same_node_b}
use Rattle.dch_rnc.specs.State.{BlockedCombination as RncBlocked, Change as RncChange, Event as RncEvent, IubFrame as IubFrameUp, OfferedUnit as RncOffered, State as RncState, Tick as RncTicks, opened_state as opened_rnc}
use Rattle.dch_rnc.proofs.OneOutput.{same_state as same_rnc}
use Rattle.dch_rnc.specs.Steps.{IsArrival}
use Rattle.dch_link.specs.Changing.{Changes}
use Rattle.dch_link.specs.Checks.{good_in}
use Rattle.dch_link.specs.Courses.{Course}
use Rattle.dch_link.specs.Events.{BlockedCombination, Damages, Event, Happens, OfferedUnit}
use Rattle.dch_link.specs.Link.{LinkState, active, opened_link}
use Rattle.dch_link.specs.Passing.{IsStage}
use Rattle.dch_link.specs.Same.{ArePlanned, IsSameLink}
use Rattle.dch_link.specs.Stages.{AreCompared, AtStage, MayGoDown, MayGoUp, NodeBReports, RncGoes, RncReceives, UeGoes, UeReceives}
use Rattle.dch_link.specs.declared.stage.Stage.{Stage}
use Rattle.dch_link.specs.declared.stage.Stage.TheVariants.{RncTick, IubDown, RadioDown, UeTick, RadioUp, IubUp}
use Rattle.dch_link.proofs.OneNodes.{IsOnePass, node_b_pass, node_b_planned, node_b_same, planned_as, rnc_pass, rnc_planned, rnc_same, same_as, ue_pass, ue_planned, ue_same}
use Rattle.dch_link.proofs.OneReadings.{arrival_good, checks_one, good_same}

-- at opening the nodes say the same
pub same_opened : (planned : Planned) (first : ℕ) → IsSameLink (opened_link planned first) (opened_link planned first)
same_opened planned first = record {
  ue = record { state = same_ue (opened_ue planned first); last = same_output no_output };
  node_b = record { state = same_node_b (opened_node_b planned first); last = same_output no_output };
  rnc = record { state = same_rnc (opened_rnc planned first); last = same_output no_output };
  damage = refl;
}

-- what arrives of a frame
iub_arrives : (damage other : List Damage) (dir : Dir) (set : ℕ) (sent more : Option (List ℕ)) → other ≡ damage → more ≡ sent → iub_after other dir set more ≡ iub_after damage dir set sent
iub_arrives damage other dir set sent more same also = ap₂ (λ (d : List Damage) (s : Option (List ℕ)). iub_after d dir set s) same also

radio_arrives : (damage other : List Damage) (dir : Dir) (sent more : Option Radio) → other ≡ damage → more ≡ sent → radio_after other dir more ≡ radio_after damage dir sent
radio_arrives damage other dir sent more same also = ap₂ (λ (d : List Damage) (s : Option Radio). radio_after d dir s) same also

-- nothing arrives
no_pass : (old new older newer : LinkState) (lines rest : List Line) → ArePlanned old → IsSameLink old older → (new ≡ old) × (lines ≡ []) → (newer ≡ older) × (rest ≡ []) → IsOnePass new newer lines rest
no_pass old new older newer lines rest planned same a b = record { planned = planned_as new old a.0 planned; same = same_as new newer old older a.0 b.0 same; lines_are = b.1 ∙ sym a.1 }

-- a downlink Iub frame at the Node B
down_pass : (set : ℕ) (octets : Option (List ℕ)) (old new older newer : LinkState) (lines rest : List Line) → ArePlanned old → IsSameLink old older
    → MayGoDown set octets old new lines → MayGoDown set octets older newer rest → IsOnePass new newer lines rest
down_pass set None old new older newer lines rest planned same a b = no_pass old new older newer lines rest planned same a b
down_pass set (Some octets) old new older newer lines rest planned same a b = node_b_pass old new older newer (IubFrameDown set octets) lines rest tt planned same a b

-- the terminal takes the downlink radio frame, and 10 ms pass: what it reads then has the same good blocks
ticks_good : (old new older newer : LinkState) → ArePlanned old → IsSameLink old older → UeGoes old UeTicks new → UeGoes older UeTicks newer
    → (i : ℕ) → good_in (newer.ue.state.readings i) ≡ good_in (new.ue.state.readings i)
ticks_good old new older newer planned same a b i =
    let states = same.ue.state in
    let reading : ReadsSame (a.goes.state.readings i) (b.goes.state.readings i) =
    tick_reading old.ue.state a.goes.state older.ue.state b.goes.state a.goes.output b.goes.output planned.ue states.planned states.cfn states.came states.frames a.goes.step b.goes.step i in
    let here : new.ue.state ≡ a.goes.state = ap (λ (l : LinkState). l.ue.state) a.is ∙ ap (λ (c : Course UeState UeEvent). c.state) a.goes.is in
    let there : newer.ue.state ≡ b.goes.state = ap (λ (l : LinkState). l.ue.state) b.is ∙ ap (λ (c : Course UeState UeEvent). c.state) b.goes.is in
    ap (λ (s : UeState). good_in (s.readings i)) there ∙ good_same (a.goes.state.readings i) (b.goes.state.readings i) reading ∙ sym (ap (λ (s : UeState). good_in (s.readings i)) here)

receives_pass : (old new older newer : LinkState) (lines rest : List Line) → ArePlanned old → IsSameLink old older → UeReceives old new lines → UeReceives older newer rest → IsOnePass new newer lines rest
receives_pass old new older newer lines rest planned same a b =
    let radio : Option Radio = radio_after old.damage Down old.node_b.last.sent in
    let comes : UeGoes older (DownlinkFrame radio) b.mid =
    subst (λ (r : Option Radio). UeGoes older (DownlinkFrame r) b.mid) (radio_arrives old.damage older.damage Down old.node_b.last.sent older.node_b.last.sent same.damage same.node_b.last.sent) b.comes in
    let ready : ArePlanned a.mid = ue_planned old a.mid (DownlinkFrame radio) tt planned a.comes in
    let mid : IsSameLink a.mid b.mid = ue_same old a.mid older b.mid (DownlinkFrame radio) planned same a.comes comes in
    let behind : IsSameLink new newer = ue_same a.mid new b.mid newer UeTicks ready mid a.ticks b.ticks in
    let compared : AreCompared Down (active old).config.downlink.side newer.ue.state.readings newer.rnc.state.layer b.checks =
    subst (λ (p : Planned). AreCompared Down p.config.downlink.side newer.ue.state.readings newer.rnc.state.layer b.checks) same.rnc.state.planned b.compared in
    let checks : b.checks ≡ a.checks = checks_one Down (λ i. good_in (new.ue.state.readings i)) (λ i. (new.rnc.state.layer.given i).blocks) (λ i. good_in (newer.ue.state.readings i)) (λ i. (newer.rnc.state.layer.given i).blocks)
    (length (active old).config.downlink.side.channels) a.checks b.checks (λ i inside. ticks_good a.mid new b.mid newer ready mid a.ticks b.ticks i) (λ i inside. ap (λ (g : Given). g.blocks) (behind.rnc.state.layer.given i)) a.compared compared in
    record {
      planned = ue_planned a.mid new UeTicks tt ready a.ticks;
      same = behind;
      lines_are = b.all ∙ ap₂ (λ (ls ms : List Line). ls ++ ms) behind.ue.last.lines checks ∙ sym a.all;
    }

-- the network controller takes an uplink Iub frame: what it reads of it has the same good blocks
comes_good : (set : ℕ) (octets : List ℕ) (old new older newer : LinkState) → IsSameLink old older → RncGoes old (IubFrameUp set octets) new → RncGoes older (IubFrameUp set octets) newer
    → (i : ℕ) → i < length (active old).config.uplink.side.channels → good_in (newer.rnc.state.readings i) ≡ good_in (new.rnc.state.readings i)
comes_good set octets old new older newer same a b i inside =
    let arrival : IsArrival (active old) older.rnc.state set octets b.goes.state b.goes.output =
    subst (λ (p : Planned). IsArrival p older.rnc.state set octets b.goes.state b.goes.output) same.rnc.state.planned b.goes.step in
    let here : new.rnc.state ≡ a.goes.state = ap (λ (l : LinkState). l.rnc.state) a.is ∙ ap (λ (c : Course RncState RncEvent). c.state) a.goes.is in
    let there : newer.rnc.state ≡ b.goes.state = ap (λ (l : LinkState). l.rnc.state) b.is ∙ ap (λ (c : Course RncState RncEvent). c.state) b.goes.is in
    ap (λ (s : RncState). good_in (s.readings i)) there
    ∙ arrival_good (active old) old.rnc.state a.goes.state older.rnc.state b.goes.state set octets a.goes.output b.goes.output a.goes.step arrival i inside
    ∙ sym (ap (λ (s : RncState). good_in (s.readings i)) here)

taken_pass : (set : ℕ) (octets : List ℕ) (old new older newer : LinkState) (lines rest : List Line) → ArePlanned old → IsSameLink old older
    → RncReceives set octets old new lines → RncReceives set octets older newer rest → IsOnePass new newer lines rest
taken_pass set octets old new older newer lines rest planned same a b =
    let behind : IsSameLink new newer = rnc_same old new older newer (IubFrameUp set octets) same a.comes b.comes in
    let compared : AreCompared Up (active old).config.uplink.side newer.rnc.state.readings newer.ue.state.layer b.checks =
    subst (λ (p : Planned). AreCompared Up p.config.uplink.side newer.rnc.state.readings newer.ue.state.layer b.checks) same.rnc.state.planned b.compared in
    let checks : b.checks ≡ a.checks = checks_one Up (λ i. good_in (new.rnc.state.readings i)) (λ i. (new.ue.state.layer.given i).blocks) (λ i. good_in (newer.rnc.state.readings i)) (λ i. (newer.ue.state.layer.given i).blocks)
    (length (active old).config.uplink.side.channels) a.checks b.checks (λ i inside. comes_good set octets old new older newer same a.comes b.comes i inside) (λ i inside. ap (λ (g : Given). g.blocks) (behind.ue.state.layer.given i)) a.compared compared in
    record {
      planned = rnc_planned old new (IubFrameUp set octets) planned a.comes;
      same = behind;
      lines_are = b.all ∙ ap₂ (λ (ls ms : List Line). ls ++ ms) behind.rnc.last.lines checks ∙ sym a.all;
    }

up_pass : (set : ℕ) (octets : Option (List ℕ)) (old new older newer : LinkState) (lines rest : List Line) → ArePlanned old → IsSameLink old older
    → MayGoUp set octets old new lines → MayGoUp set octets older newer rest → IsOnePass new newer lines rest
up_pass set None old new older newer lines rest planned same a b = no_pass old new older newer lines rest planned same a b
up_pass set (Some octets) old new older newer lines rest planned same a b = taken_pass set octets old new older newer lines rest planned same a b

-- any stage
pub stage_pass : (stage : Stage) (old new older newer : LinkState) (lines rest : List Line) → IsStage stage → ArePlanned old → IsSameLink old older
    → AtStage stage old new lines → AtStage stage older newer rest → IsOnePass new newer lines rest
stage_pass RncTick old new older newer lines rest is planned same a b = rnc_pass old new older newer RncTicks lines rest planned same a b
stage_pass (IubDown set) old new older newer lines rest is planned same a b =
    down_pass set (iub_after old.damage Down set (old.rnc.last.iub set)) old new older newer lines rest planned same a
    (subst (λ (o : Option (List ℕ)). MayGoDown set o older newer rest) (iub_arrives old.damage older.damage Down set (old.rnc.last.iub set) (older.rnc.last.iub set) same.damage (same.rnc.last.iub set is)) b)
stage_pass RadioDown old new older newer lines rest is planned same a b = node_b_pass old new older newer DownlinkDue lines rest tt planned same a b
stage_pass UeTick old new older newer lines rest is planned same a b = receives_pass old new older newer lines rest planned same a b
stage_pass RadioUp old new older newer lines rest is planned same a b =
    node_b_pass old new older newer (UplinkFrame (radio_after old.damage Up old.ue.last.sent)) lines rest tt planned same a
    (subst (λ (r : Option Radio). NodeBReports older (UplinkFrame r) newer rest) (radio_arrives old.damage older.damage Up old.ue.last.sent older.ue.last.sent same.damage same.ue.last.sent) b)
stage_pass (IubUp set) old new older newer lines rest is planned same a b =
    up_pass set (iub_after old.damage Up set (old.node_b.last.iub set)) old new older newer lines rest planned same a
    (subst (λ (o : Option (List ℕ)). MayGoUp set o older newer rest) (iub_arrives old.damage older.damage Up set (old.node_b.last.iub set) (older.node_b.last.iub set) same.damage (same.node_b.last.iub set is)) b)

-- any event of a script
pub event_pass : (event : Event) (old new older newer : LinkState) (lines rest : List Line) → ArePlanned old → IsSameLink old older → Happens old event new lines → Happens older event newer rest → IsOnePass new newer lines rest
event_pass (OfferedUnit Up bearer octets bits) old new older newer lines rest planned same a b = ue_pass old new older newer (UeOffered bearer octets bits) lines rest tt planned same a b
event_pass (OfferedUnit Down bearer octets bits) old new older newer lines rest planned same a b = rnc_pass old new older newer (RncOffered bearer octets bits) lines rest planned same a b
event_pass (BlockedCombination Up combination on) old new older newer lines rest planned same a b = ue_pass old new older newer (UeBlocked combination on) lines rest tt planned same a b
event_pass (BlockedCombination Down combination on) old new older newer lines rest planned same a b = rnc_pass old new older newer (RncBlocked combination on) lines rest planned same a b
event_pass (Damages damage) old new older newer lines rest planned same a b = record {
  planned = planned_as new _ a.0 (record { ue = planned.ue; node_b = planned.node_b });
  same = same_as new newer _ _ a.0 b.0 (record { ue = same.ue; node_b = same.node_b; rnc = same.rnc; damage = ap (λ (d : List Damage). damage ∷ d) same.damage });
  lines_are = b.1 ∙ sym a.1;
}

-- a second configuration
pub change_planned : (second : Planned) (old new : LinkState) → IsPlanned second → ArePlanned old → Changes second old new → ArePlanned new
change_planned second old new good planned a =
    let at_rnc : ArePlanned a.rnc_new = rnc_planned old a.rnc_new (RncChange second) planned a.rnc_changes in
    let at_node_b : ArePlanned a.node_b_new = node_b_planned a.rnc_new a.node_b_new (NodeBChange second) good at_rnc a.node_b_changes in
    ue_planned a.node_b_new new (UeChange second) good at_node_b a.ue_changes

pub change_same : (second : Planned) (old new older newer : LinkState) → IsPlanned second → ArePlanned old → IsSameLink old older → Changes second old new → Changes second older newer → IsSameLink new newer
change_same second old new older newer good planned same a b =
    let at_rnc : ArePlanned a.rnc_new = rnc_planned old a.rnc_new (RncChange second) planned a.rnc_changes in
    let at_node_b : ArePlanned a.node_b_new = node_b_planned a.rnc_new a.node_b_new (NodeBChange second) good at_rnc a.node_b_changes in
    ue_same a.node_b_new new b.node_b_new newer (UeChange second) at_node_b
    (node_b_same a.rnc_new a.node_b_new b.rnc_new b.node_b_new (NodeBChange second) at_rnc (rnc_same old a.rnc_new older b.rnc_new (RncChange second) same a.rnc_changes b.rnc_changes) a.node_b_changes b.node_b_changes)
    a.ue_changes b.ue_changes
