use Rattle.std.proofs.Common.{◌≡◌, ◌∙◌, Option, refl, ap, sym, subst}
use Rattle.dch_types.specs.declared.channel.Dir.TheVariants.{Down}
use Rattle.dch_node.specs.Standing.{Tells}
use Rattle.dch_link.specs.LinkNodes.{HasNext, IsLinkOf, Represents}
use Rattle.dch_link.specs.Values.{Nodes}
use Rattle.dch_link.specs.contracts.link.Link.{the_view}
use Rattle.dch_ue.specs.State.{DownlinkFrame}
use Rattle.dch_node.specs.Values.{Output, Radio}
use Rattle.dch_txframes.specs.Lending.{radio_of}
use Rattle.dch_damage.specs.Damage.{radio_after}
use Rattle.dch_damage.specs.Opened.{HasRadioRoom}
use Rattle.dch_link.specs.Stages.{UeGoes}
use Rattle.dch_link.proofs.Following.{damage_follows, ue_follows}
use Rattle.dch_link.proofs.Arriving.{radio_room, radio_same, tfci_kept}
use Rattle.dch_link.proofs.Nexts.{ue_next, with_damage}
use Rattle.dch_link.proofs.link.Link.radio_down.Goals as goal

pub hit_radio-requires : goal.hit_radio-requires
hit_radio-requires g c =
    let planned = c.args.accepted.now in
    let nodes : Nodes = the_view c.self.inside in
    let opened : IsLinkOf planned nodes = subst (λ (n : Nodes). IsLinkOf planned n) (sym c.self.view_is) c.requires.opened in
    record {
      room = subst (λ (r : Option Radio). HasRadioRoom nodes.damage Down r) (sym (radio_same c.sent-sent.result ∙ c.sent-sent.ensures ∙ opened.stands.node_b.shows.radio))
          (radio_room planned nodes.damage Down opened.link.node_b.last.sent opened.opened.damage opened.stands.node_b_sends.radio_is);
    }

pub step_with-requires-clause-event : goal.step_with-requires-clause-event
step_with-requires-clause-event g c =
    let planned = c.args.accepted.now in
    let nodes : Nodes = the_view c.self.inside in
    let opened : IsLinkOf planned nodes = subst (λ (n : Nodes). IsLinkOf planned n) (sym c.self.view_is) c.requires.opened in
    tfci_kept planned Down opened.link.damage opened.link.node_b.last.sent c.radio-frame.result opened.stands.node_b_sends.radio_is
    (sym (radio_same c.radio-frame.result) ∙ c.radio-frame.ensures ∙ (c.hit_radio.ensures.arrives opened.link.damage opened.stands.damage).1
    ∙ ap (radio_after opened.link.damage Down) (radio_same c.sent-sent.result ∙ c.sent-sent.ensures ∙ opened.stands.node_b.shows.radio))

pub returns-clause-comes : goal.returns-clause-comes
returns-clause-comes g c = λ began first link was.
    let planned = c.args.accepted.now in
    let nodes : Nodes = the_view c.self.inside in
    let is : Represents began planned first link nodes = subst (λ (n : Nodes). Represents began planned first link n) (sym c.self.view_is) was in
    let waits = c.hit_radio.ensures.arrives link.damage is.damage in
    let arrives : radio_of c.radio-frame.result ≡ radio_after link.damage Down link.node_b.last.sent =
    sym (radio_same c.radio-frame.result) ∙ c.radio-frame.ensures ∙ waits.1 ∙ ap (radio_after link.damage Down) (radio_same c.sent-sent.result ∙ c.sent-sent.ensures ∙ is.node_b.shows.radio) in
    let hit : Nodes = record nodes { damage = c.hit_radio.new.self } in
    let stood : Represents began planned first link hit = with_damage began planned first link nodes link.damage c.hit_radio.new.self is waits.0 in
    let led = ue_next began planned first link hit (DownlinkFrame (radio_of c.radio-frame.result)) c.step_with.new.self (Tells g.U.Indications.shows c.args.user.now c.step_with.new.user) stood c.step_with.ensures.opened (c.step_with.ensures.step planned link.ue.state refl is.ue.stands) in
    (led.next, (subst (λ (r : Option Radio). UeGoes link (DownlinkFrame r) led.next) arrives led.does.0, led.stands))

pub returns-clause-same : goal.returns-clause-same
returns-clause-same g c =
    let planned = c.args.accepted.now in
    let nodes : Nodes = the_view c.self.inside in
    let opened : IsLinkOf planned nodes = subst (λ (n : Nodes). IsLinkOf planned n) (sym c.self.view_is) c.requires.opened in
    let stepped = c.step_with.ensures.step planned opened.link.ue.state refl opened.stands.ue.stands in
    subst (λ (o : Output). Tells g.U.Indications.shows c.args.user.now c.step_with.new.user o.lines) stepped.step.1 stepped.tells

pub returns-clause-next : goal.returns-clause-next
returns-clause-next g c = λ second was.
    let planned = c.args.accepted.now in
    let nodes : Nodes = the_view c.self.inside in
    let has : HasNext planned second nodes = subst (λ (n : Nodes). HasNext planned second n) (sym c.self.view_is) was in
    let hit : Nodes = record nodes { damage = c.hit_radio.new.self } in
    ue_follows planned second hit c.step_with.new.self c.step_with.ensures.next (damage_follows planned second nodes c.hit_radio.new.self c.hit_radio.ensures.opened has)
