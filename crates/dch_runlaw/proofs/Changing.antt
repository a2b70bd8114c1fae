-- What three nodes know where another configuration has become active.
use Rattle.std.proofs.Common.{◌≡◌, ◌∙◌, ◌++◌, append-nil, ap}
use Rattle.dch_accept.specs.Plans.{Planned}
use Rattle.dch_node.specs.Values.{Output}
use Rattle.dch_linkcmd.specs.UeState.{Change as UeChange, Event as UeEvent, State as UeState, changed as ue_changed}
use Rattle.dch_linkcmd.specs.NodebState.{Change as NodeBChange, Event as NodeBEvent, State as NodeBState, changed as node_b_changed}
use Rattle.dch_linkcmd.specs.RncState.{Change as RncChange, Event as RncEvent, State as RncState, changed as rnc_changed}
use Rattle.dch_linkcmd.specs.LinkChanging.{Changes}
use Rattle.dch_linkcmd.specs.Courses.{Course}
use Rattle.dch_linkcmd.specs.LinkLink.{LinkState}
use Rattle.dch_runlaw.proofs.Keeping.{but_node_b, but_rnc, but_ue, node_b_step, rnc_lines, rnc_step, ue_lines, ue_step}

-- each node has changed, without a word, and what waits of damage stays
pub record IsChanged (second : Planned) (old new : LinkState) : Type 0 where
  pub ue : new.ue.state ≡ ue_changed second old.ue.state
  pub node_b : new.node_b.state ≡ node_b_changed second old.node_b.state
  pub rnc : new.rnc.state ≡ rnc_changed second old.rnc.state
  pub ue_said : new.ue.lines ≡ old.ue.lines
  pub rnc_said : new.rnc.lines ≡ old.rnc.lines
  pub damage : new.damage ≡ old.damage

pub changed_is : (second : Planned) (old new : LinkState) → Changes second old new → IsChanged second old new
changed_is second old new c =
    let one = but_rnc old c.rnc_new (RncChange second) c.rnc_changes in
    let two = but_node_b c.rnc_new c.node_b_new (NodeBChange second) c.node_b_changes in
    let three = but_ue c.node_b_new new (UeChange second) c.ue_changes in
    let ue_was : c.node_b_new.ue ≡ old.ue = two.ue ∙ one.ue in
    let rnc_is : new.rnc ≡ c.rnc_new.rnc = three.rnc ∙ two.rnc in
    let rnc = rnc_step old c.rnc_new (RncChange second) c.rnc_changes in
    let node_b = node_b_step c.rnc_new c.node_b_new (NodeBChange second) c.node_b_changes in
    let ue = ue_step c.node_b_new new (UeChange second) c.ue_changes in
    record {
      ue = ue.state ∙ ap (λ (x : Course UeState UeEvent). ue_changed second x.state) ue_was;
      node_b = ap (λ (x : Course NodeBState NodeBEvent). x.state) three.node_b ∙ node_b.state ∙ ap (λ (x : Course NodeBState NodeBEvent). node_b_changed second x.state) one.node_b;
      rnc = ap (λ (x : Course RncState RncEvent). x.state) rnc_is ∙ rnc.state;
      ue_said = ue_lines c.node_b_new new (UeChange second) c.ue_changes ∙ ap (λ (o : Output). c.node_b_new.ue.lines ++ o.lines) ue.quiet ∙ append-nil c.node_b_new.ue.lines ∙ ap (λ (x : Course UeState UeEvent). x.lines) ue_was;
      rnc_said = ap (λ (x : Course RncState RncEvent). x.lines) rnc_is ∙ rnc_lines old c.rnc_new (RncChange second) c.rnc_changes ∙ ap (λ (o : Output). old.rnc.lines ++ o.lines) rnc.quiet ∙ append-nil old.rnc.lines;
      damage = three.damage ∙ two.damage ∙ one.damage;
    }
