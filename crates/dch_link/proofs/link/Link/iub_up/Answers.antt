use Rattle.dch_steptext.proofs.Reporting.{few_none, few_then}
use Rattle.dch_accept.specs.Reports.{step_bytes}
use Rattle.std.proofs.Common.{◌≡◌, ◌∙◌, ◌++◌, ℕ, List, length, Option, Some, refl, ap, sym, subst, None, [], arith, ◌+◌}
use Rattle.dch_types.specs.declared.channel.Dir.TheVariants.{Up}
use Rattle.dch_accept.specs.Plans.{Planned}
use Rattle.dch_node.specs.Lines.{Line}
use Rattle.dch_indication.proofs.Telling.{told-append}
use Rattle.dch_node.specs.Standing.{Tells}
use Rattle.dch_link.specs.Checks.{AreChecked, good_in}
use Rattle.dch_link.specs.LinkNodes.{AreNodesOf, HasNext, IsLinkOf, LeadsTo, Represents}
use Rattle.dch_link.specs.Values.{Nodes}
use Rattle.dch_link.specs.contracts.link.Link.{the_view}
use Rattle.dch_rnc.specs.State.{IubFrame}
use Rattle.dch_damage.specs.Damage.{iub_after}
use Rattle.dch_damage.specs.Lending.{octets_of as octets_hit}
use Rattle.dch_damage.specs.Opened.{HasIubRoom}
use Rattle.dch_link.specs.Stages.{MayGoUp}
use Rattle.dch_link.proofs.Following.{damage_follows, rnc_follows}
use Rattle.dch_link.proofs.Arriving.{iub_room, octets_same, set_there}
use Rattle.dch_link.proofs.Compared.{compared_up}
use Rattle.dch_link.proofs.Nexts.{rnc_next, with_damage}
use Rattle.dch_link.proofs.link.Link.iub_up.Goals as goal

pub hit_iub-requires-clause-room : goal.hit_iub-requires-clause-room
hit_iub-requires-clause-room g c =
    let planned = c.args.accepted.now in
    let nodes : Nodes = the_view c.self.inside in
    let opened : IsLinkOf planned nodes = subst (λ (n : Nodes). IsLinkOf planned n) (sym c.self.view_is) c.requires.opened in
    subst (λ (o : Option (List ℕ)). HasIubRoom nodes.damage Up c.args.set o) (sym (octets_same c.iub-sent.result ∙ c.iub-sent.ensures ∙ opened.stands.node_b.shows.iub c.args.set c.requires.set))
    (iub_room planned nodes.damage Up c.args.set (opened.link.node_b.last.iub c.args.set) opened.opened.damage c.requires.set (opened.stands.node_b_sends.iub_is c.args.set c.requires.set))

pub step_with-requires-clause-event : goal.step_with-requires-clause-event
step_with-requires-clause-event g c =
    let planned = c.args.accepted.now in
    let nodes : Nodes = the_view c.self.inside in
    let opened : IsLinkOf planned nodes = subst (λ (n : Nodes). IsLinkOf planned n) (sym c.self.view_is) c.requires.opened in
    set_there planned Up c.args.set opened.link.damage (opened.link.node_b.last.iub c.args.set) c.in-Some.frame.now (opened.stands.node_b_sends.iub_is c.args.set c.requires.set)
    (ap octets_hit (sym c.in-Some.is) ∙ c.iub.ensures ∙ (c.hit_iub.ensures.arrives opened.link.damage opened.stands.damage).1
    ∙ ap (iub_after opened.link.damage Up c.args.set) (octets_same c.iub-sent.result ∙ c.iub-sent.ensures ∙ opened.stands.node_b.shows.iub c.args.set c.requires.set))

pub returns-in-Some-clause-passes : goal.returns-in-Some-clause-passes
returns-in-Some-clause-passes g c = λ began first link was.
    let set = c.args.set in
    let planned = c.args.accepted.now in
    let nodes : Nodes = the_view c.self.inside in
    let opened : IsLinkOf planned nodes = subst (λ (n : Nodes). IsLinkOf planned n) (sym c.self.view_is) c.requires.opened in
    let is : Represents began planned first link nodes = subst (λ (n : Nodes). Represents began planned first link n) (sym c.self.view_is) was in
    let waits = c.hit_iub.ensures.arrives link.damage is.damage in
    let arrives : Some c.in-Some.frame.now ≡ iub_after link.damage Up set (link.node_b.last.iub set) =
    ap octets_hit (sym c.in-Some.is) ∙ c.iub.ensures ∙ waits.1 ∙ ap (iub_after link.damage Up set) (octets_same c.iub-sent.result ∙ c.iub-sent.ensures ∙ is.node_b.shows.iub set c.requires.set) in
    let hit : Nodes = record nodes { damage = c.hit_iub.new.self } in
    let stood : Represents began planned first link hit = with_damage began planned first link nodes link.damage c.hit_iub.new.self is waits.0 in
    let led = rnc_next began planned first link hit (IubFrame set c.in-Some.frame.now) c.step_with.new.self (Tells g.U.Indications.shows c.args.user.now c.step_with.new.user) stood (c.step_with.ensures.step planned link.rnc.state refl is.rnc.stands) in
    let now : Nodes = record hit { rnc = c.step_with.new.self } in
    let all : AreNodesOf planned now = record { ue = opened.opened.ue; node_b = opened.opened.node_b; rnc = c.step_with.ensures.opened; damage = c.hit_iub.ensures.opened planned opened.opened.damage } in
    let compared = compared_up began planned first led.next now (Tells g.U.Indications.shows c.step_with.new.user c.compare_up.new.user) all led.stands c.compare_up.ensures.compared in
    subst (λ (o : Option (List ℕ)). LeadsTo began planned first (λ next lines. MayGoUp set o link next lines) now (Tells g.U.Indications.shows c.args.user.now c.compare_up.new.user)) arrives (record {
      next = led.next;
      lines = led.lines ++ compared.lines;
      does = record {
        comes = led.does.0;
        checks = compared.lines;
        compared = subst (λ (p : Planned). AreChecked Up (λ i. good_in (led.next.rnc.state.readings i)) (λ i. (led.next.ue.state.layer.given i).blocks) (length p.config.uplink.side.channels) compared.lines) (sym was.rnc.stands.at.active) compared.checked;
        all = ap (λ (l : List Line). l ++ compared.lines) led.does.1;
      };
      stands = led.stands;
      tells = told-append g.U.Indications.shows c.args.user.now c.step_with.new.user c.compare_up.new.user led.lines compared.lines led.tells compared.tells;
    })

pub returns-in-Some-clause-next : goal.returns-in-Some-clause-next
returns-in-Some-clause-next g c = λ second was.
    let planned = c.args.accepted.now in
    let nodes : Nodes = the_view c.self.inside in
    let has : HasNext planned second nodes = subst (λ (n : Nodes). HasNext planned second n) (sym c.self.view_is) was in
    let hit : Nodes = record nodes { damage = c.hit_iub.new.self } in
    rnc_follows planned second hit c.step_with.new.self c.step_with.ensures.next (damage_follows planned second nodes c.hit_iub.new.self c.hit_iub.ensures.opened has)

pub returns-in_default-clause-passes : goal.returns-in_default-clause-passes
returns-in_default-clause-passes g c = λ began first link was.
    let planned = c.args.accepted.now in
    let set = c.args.set in
    let nodes : Nodes = the_view c.self.inside in
    let is : Represents began planned first link nodes = subst (λ (n : Nodes). Represents began planned first link n) (sym c.self.view_is) was in
    let waits = c.hit_iub.ensures.arrives link.damage is.damage in
    let none : None ≡ iub_after link.damage Up set (link.node_b.last.iub set) =
    ap octets_hit (sym c.in_default.is) ∙ c.iub.ensures ∙ waits.1 ∙ ap (iub_after link.damage Up set) (octets_same c.iub-sent.result ∙ c.iub-sent.ensures ∙ is.node_b.shows.iub set c.requires.set) in
    let hit : Nodes = record nodes { damage = c.hit_iub.new.self } in
    subst (λ (o : Option (List ℕ)). LeadsTo began planned first (λ next lines. MayGoUp set o link next lines) hit (Tells g.U.Indications.shows c.args.user.now c.args.user.now)) none (record {
      next = link;
      lines = [];
      does = (refl, refl);
      stands = with_damage began planned first link nodes link.damage c.hit_iub.new.self is waits.0;
      tells = refl;
    })

pub returns-in-Some-clause-few : goal.returns-in-Some-clause-few
returns-in-Some-clause-few g c = few_then g.U.Indications.shows (step_bytes c.args.accepted.now.config) 2401 (step_bytes c.args.accepted.now.config + 2400) c.args.user.now c.step_with.new.user c.compare_up.new.user (omega arith) c.step_with.ensures.few c.compare_up.ensures.few

pub returns-in_default-clause-few : goal.returns-in_default-clause-few
returns-in_default-clause-few g c = few_none g.U.Indications.shows (step_bytes c.args.accepted.now.config + 2400) c.args.user.now (omega arith)
