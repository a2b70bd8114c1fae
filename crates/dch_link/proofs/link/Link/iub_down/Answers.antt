use Rattle.dch_steptext.proofs.Reporting.{few_less, few_none}
use Rattle.dch_accept.specs.Reports.{step_bytes}
use Rattle.std.proofs.Common.{◌≡◌, ◌∙◌, ℕ, List, Option, Some, refl, ap, sym, subst, None, [], arith}
use Rattle.dch_types.specs.declared.channel.Dir.TheVariants.{Down}
use Rattle.dch_node.specs.Standing.{Tells}
use Rattle.dch_link.specs.LinkNodes.{HasNext, IsLinkOf, LeadsTo, Represents}
use Rattle.dch_link.specs.Values.{Nodes}
use Rattle.dch_link.specs.contracts.link.Link.{the_view}
use Rattle.dch_nodeb.specs.State.{IubFrame}
use Rattle.dch_damage.specs.Damage.{iub_after}
use Rattle.dch_damage.specs.Lending.{octets_of as octets_hit}
use Rattle.dch_damage.specs.Opened.{HasIubRoom}
use Rattle.dch_link.specs.Stages.{MayGoDown}
use Rattle.dch_link.proofs.Following.{damage_follows, node_b_follows}
use Rattle.dch_link.proofs.Arriving.{iub_room, octets_same, set_there}
use Rattle.dch_link.proofs.Nexts.{node_b_next, with_damage}
use Rattle.dch_link.proofs.link.Link.iub_down.Goals as goal

pub hit_iub-requires-clause-room : goal.hit_iub-requires-clause-room
hit_iub-requires-clause-room g c =
    let planned = c.args.accepted.now in
    let nodes : Nodes = the_view c.self.inside in
    let opened : IsLinkOf planned nodes = subst (λ (n : Nodes). IsLinkOf planned n) (sym c.self.view_is) c.requires.opened in
    subst (λ (o : Option (List ℕ)). HasIubRoom nodes.damage Down c.args.set o) (sym (octets_same c.iub-sent.result ∙ c.iub-sent.ensures ∙ opened.stands.rnc.shows.iub c.args.set c.requires.set))
    (iub_room planned nodes.damage Down c.args.set (opened.link.rnc.last.iub c.args.set) opened.opened.damage c.requires.set (opened.stands.rnc_sends.iub_is c.args.set c.requires.set))

pub step_with-requires-clause-event : goal.step_with-requires-clause-event
step_with-requires-clause-event g c =
    let planned = c.args.accepted.now in
    let nodes : Nodes = the_view c.self.inside in
    let opened : IsLinkOf planned nodes = subst (λ (n : Nodes). IsLinkOf planned n) (sym c.self.view_is) c.requires.opened in
    set_there planned Down c.args.set opened.link.damage (opened.link.rnc.last.iub c.args.set) c.in-Some.frame.now (opened.stands.rnc_sends.iub_is c.args.set c.requires.set)
    (ap octets_hit (sym c.in-Some.is) ∙ c.iub.ensures ∙ (c.hit_iub.ensures.arrives opened.link.damage opened.stands.damage).1
    ∙ ap (iub_after opened.link.damage Down c.args.set) (octets_same c.iub-sent.result ∙ c.iub-sent.ensures ∙ opened.stands.rnc.shows.iub c.args.set c.requires.set))

pub returns-in-Some-clause-passes : goal.returns-in-Some-clause-passes
returns-in-Some-clause-passes g c = λ began first link was.
    let planned = c.args.accepted.now in
    let set = c.args.set in
    let nodes : Nodes = the_view c.self.inside in
    let is : Represents began planned first link nodes = subst (λ (n : Nodes). Represents began planned first link n) (sym c.self.view_is) was in
    let waits = c.hit_iub.ensures.arrives link.damage is.damage in
    let arrives : Some c.in-Some.frame.now ≡ iub_after link.damage Down set (link.rnc.last.iub set) =
    ap octets_hit (sym c.in-Some.is) ∙ c.iub.ensures ∙ waits.1 ∙ ap (iub_after link.damage Down set) (octets_same c.iub-sent.result ∙ c.iub-sent.ensures ∙ is.rnc.shows.iub set c.requires.set) in
    let hit : Nodes = record nodes { damage = c.hit_iub.new.self } in
    let stood : Represents began planned first link hit = with_damage began planned first link nodes link.damage c.hit_iub.new.self is waits.0 in
    subst (λ (o : Option (List ℕ)). LeadsTo began planned first (λ next lines. MayGoDown set o link next lines) (record hit { node_b = c.step_with.new.self }) (Tells g.U.Indications.shows c.args.user.now c.step_with.new.user)) arrives
    (node_b_next began planned first link hit (IubFrame set c.in-Some.frame.now) c.step_with.new.self (Tells g.U.Indications.shows c.args.user.now c.step_with.new.user) stood (c.step_with.ensures.step planned link.node_b.state refl is.node_b.stands))

pub returns-in-Some-clause-next : goal.returns-in-Some-clause-next
returns-in-Some-clause-next g c = λ second was.
    let planned = c.args.accepted.now in
    let nodes : Nodes = the_view c.self.inside in
    let has : HasNext planned second nodes = subst (λ (n : Nodes). HasNext planned second n) (sym c.self.view_is) was in
    let hit : Nodes = record nodes { damage = c.hit_iub.new.self } in
    node_b_follows planned second hit c.step_with.new.self c.step_with.ensures.next (damage_follows planned second nodes c.hit_iub.new.self c.hit_iub.ensures.opened has)

pub returns-in_default-clause-passes : goal.returns-in_default-clause-passes
returns-in_default-clause-passes g c = λ began first link was.
    let planned = c.args.accepted.now in
    let set = c.args.set in
    let nodes : Nodes = the_view c.self.inside in
    let is : Represents began planned first link nodes = subst (λ (n : Nodes). Represents began planned first link n) (sym c.self.view_is) was in
    let waits = c.hit_iub.ensures.arrives link.damage is.damage in
    let none : None ≡ iub_after link.damage Down set (link.rnc.last.iub set) =
    ap octets_hit (sym c.in_default.is) ∙ c.iub.ensures ∙ waits.1 ∙ ap (iub_after link.damage Down set) (octets_same c.iub-sent.result ∙ c.iub-sent.ensures ∙ is.rnc.shows.iub set c.requires.set) in
    let hit : Nodes = record nodes { damage = c.hit_iub.new.self } in
    subst (λ (o : Option (List ℕ)). LeadsTo began planned first (λ next lines. MayGoDown set o link next lines) hit (Tells g.U.Indications.shows c.args.user.now c.args.user.now)) none (record {
      next = link;
      lines = [];
      does = (refl, refl);
      stands = with_damage began planned first link nodes link.damage c.hit_iub.new.self is waits.0;
      tells = refl;
    })

pub returns-in-Some-clause-few : goal.returns-in-Some-clause-few
returns-in-Some-clause-few g c = few_less g.U.Indications.shows 4000000 (step_bytes c.args.accepted.now.config) c.args.user.now c.step_with.new.user (omega arith) c.step_with.ensures.few

pub returns-in_default-clause-few : goal.returns-in_default-clause-few
returns-in_default-clause-few g c = few_none g.U.Indications.shows (step_bytes c.args.accepted.now.config) c.args.user.now (omega arith)
