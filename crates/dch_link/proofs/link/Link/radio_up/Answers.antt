use Rattle.dch_steptext.proofs.Reporting.{few_less}
use Rattle.dch_accept.specs.Reports.{step_bytes}
use Rattle.std.proofs.Common.{◌≡◌, ◌∙◌, Option, refl, ap, sym, subst, arith}
use Rattle.dch_types.specs.declared.channel.Dir.TheVariants.{Up}
use Rattle.dch_node.specs.Standing.{Tells}
use Rattle.dch_link.specs.LinkNodes.{HasNext, IsLinkOf, LeadsTo, Represents}
use Rattle.dch_link.specs.Values.{Nodes}
use Rattle.dch_link.specs.contracts.link.Link.{the_view}
use Rattle.dch_nodeb.specs.State.{UplinkFrame}
use Rattle.dch_node.specs.Values.{Radio}
use Rattle.dch_txframes.specs.Lending.{radio_of}
use Rattle.dch_damage.specs.Damage.{radio_after}
use Rattle.dch_damage.specs.Opened.{HasRadioRoom}
use Rattle.dch_link.specs.Stages.{NodeBReports}
use Rattle.dch_link.proofs.Following.{damage_follows, node_b_follows}
use Rattle.dch_link.proofs.Arriving.{radio_room, radio_same, tfci_kept}
use Rattle.dch_link.proofs.Nexts.{node_b_next, with_damage}
use Rattle.dch_link.proofs.link.Link.radio_up.Goals as goal

pub hit_radio-requires : goal.hit_radio-requires
hit_radio-requires g c =
    let planned = c.args.accepted.now in
    let nodes : Nodes = the_view c.self.inside in
    let opened : IsLinkOf planned nodes = subst (λ (n : Nodes). IsLinkOf planned n) (sym c.self.view_is) c.requires.opened in
    record {
      room = subst (λ (r : Option Radio). HasRadioRoom nodes.damage Up r) (sym (radio_same c.sent-sent.result ∙ c.sent-sent.ensures ∙ opened.stands.ue.shows.radio))
          (radio_room planned nodes.damage Up opened.link.ue.last.sent opened.opened.damage opened.stands.ue_sends.radio_is);
    }

pub step_with-requires-clause-event : goal.step_with-requires-clause-event
step_with-requires-clause-event g c =
    let planned = c.args.accepted.now in
    let nodes : Nodes = the_view c.self.inside in
    let opened : IsLinkOf planned nodes = subst (λ (n : Nodes). IsLinkOf planned n) (sym c.self.view_is) c.requires.opened in
    tfci_kept planned Up opened.link.damage opened.link.ue.last.sent c.radio-frame.result opened.stands.ue_sends.radio_is
    (sym (radio_same c.radio-frame.result) ∙ c.radio-frame.ensures ∙ (c.hit_radio.ensures.arrives opened.link.damage opened.stands.damage).1
    ∙ ap (radio_after opened.link.damage Up) (radio_same c.sent-sent.result ∙ c.sent-sent.ensures ∙ opened.stands.ue.shows.radio))

pub returns-clause-passes : goal.returns-clause-passes
returns-clause-passes g c = λ began first link was.
    let planned = c.args.accepted.now in
    let nodes : Nodes = the_view c.self.inside in
    let is : Represents began planned first link nodes = subst (λ (n : Nodes). Represents began planned first link n) (sym c.self.view_is) was in
    let waits = c.hit_radio.ensures.arrives link.damage is.damage in
    let arrives : radio_of c.radio-frame.result ≡ radio_after link.damage Up link.ue.last.sent =
    sym (radio_same c.radio-frame.result) ∙ c.radio-frame.ensures ∙ waits.1 ∙ ap (radio_after link.damage Up) (radio_same c.sent-sent.result ∙ c.sent-sent.ensures ∙ is.ue.shows.radio) in
    let hit : Nodes = record nodes { damage = c.hit_radio.new.self } in
    let stood : Represents began planned first link hit = with_damage began planned first link nodes link.damage c.hit_radio.new.self is waits.0 in
    subst (λ (r : Option Radio). LeadsTo began planned first (NodeBReports link (UplinkFrame r)) (record hit { node_b = c.step_with.new.self }) (Tells g.U.Indications.shows c.args.user.now c.step_with.new.user)) arrives
    (node_b_next began planned first link hit (UplinkFrame (radio_of c.radio-frame.result)) c.step_with.new.self (Tells g.U.Indications.shows c.args.user.now c.step_with.new.user) stood (c.step_with.ensures.step planned link.node_b.state refl is.node_b.stands))

pub returns-clause-next : goal.returns-clause-next
returns-clause-next g c = λ second was.
    let planned = c.args.accepted.now in
    let nodes : Nodes = the_view c.self.inside in
    let has : HasNext planned second nodes = subst (λ (n : Nodes). HasNext planned second n) (sym c.self.view_is) was in
    let hit : Nodes = record nodes { damage = c.hit_radio.new.self } in
    node_b_follows planned second hit c.step_with.new.self c.step_with.ensures.next (damage_follows planned second nodes c.hit_radio.new.self c.hit_radio.ensures.opened has)

pub returns-clause-few : goal.returns-clause-few
returns-clause-few g c = few_less g.U.Indications.shows 4000000 (step_bytes c.args.accepted.now.config) c.args.user.now c.step_with.new.user (omega arith) c.step_with.ensures.few
