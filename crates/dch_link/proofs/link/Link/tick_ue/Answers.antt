use Rattle.dch_steptext.specs.Reports.{TellsFew}
use Rattle.dch_steptext.proofs.Reporting.{few_then}
use Rattle.dch_accept.specs.Reports.{step_bytes}
use Rattle.std.proofs.Common.{◌++◌, List, length, refl, ap, sym, subst, arith, ◌+◌}
use Rattle.dch_types.specs.declared.channel.Dir.TheVariants.{Down}
use Rattle.dch_accept.specs.Plans.{Planned}
use Rattle.dch_node.specs.Lines.{Line}
use Rattle.dch_indication.proofs.Telling.{told-append}
use Rattle.dch_node.specs.Standing.{Tells}
use Rattle.dch_link.specs.Checks.{AreChecked, good_in}
use Rattle.dch_link.specs.Link.{LinkState}
use Rattle.dch_link.specs.LinkNodes.{AreNodesOf, HasNext, Represents}
use Rattle.dch_link.specs.Values.{Nodes}
use Rattle.dch_link.specs.contracts.link.Link.{the_view}
use Rattle.dch_ue.specs.State.{Tick}
use Rattle.dch_link.proofs.Following.{ue_follows}
use Rattle.dch_link.proofs.Compared.{compared_down}
use Rattle.dch_link.proofs.Nexts.{ue_next}
use Rattle.dch_link.proofs.link.Link.tick_ue.Goals as goal

pub returns-clause-passes : goal.returns-clause-passes
returns-clause-passes g c = λ began first link was.
    let planned = c.args.accepted.now in
    let came = c.radio_down.ensures.comes began first link was in
    let mid : LinkState = came.0 in
    let nodes : Nodes = the_view c.self.inside in
    let opened : AreNodesOf planned nodes = subst (λ (n : Nodes). AreNodesOf planned n) (sym c.self.view_is) c.radio_down.ensures.opened in
    let is : Represents began planned first mid nodes = subst (λ (n : Nodes). Represents began planned first mid n) (sym c.self.view_is) came.1.1 in
    let led = ue_next began planned first mid nodes Tick c.step_with.new.self (Tells g.U.Indications.shows c.radio_down.new.user c.step_with.new.user) is c.step_with.ensures.opened (c.step_with.ensures.step planned mid.ue.state refl is.ue.stands) in
    let now : Nodes = record nodes { ue = c.step_with.new.self } in
    let all : AreNodesOf planned now = record { ue = c.step_with.ensures.opened; node_b = opened.node_b; rnc = opened.rnc; damage = opened.damage } in
    let compared = compared_down began planned first led.next now (Tells g.U.Indications.shows c.step_with.new.user c.compare_down.new.user) all led.stands c.compare_down.ensures.compared in
    record {
      next = led.next;
      lines = led.lines ++ compared.lines;
      does = record {
        mid = mid;
        comes = came.1.0;
        ticks = led.does.0;
        checks = compared.lines;
        compared = subst (λ (p : Planned). AreChecked Down (λ i. good_in (led.next.ue.state.readings i)) (λ i. (led.next.rnc.state.layer.given i).blocks) (length p.config.downlink.side.channels) compared.lines) (sym was.rnc.stands.at.active) compared.checked;
        all = ap (λ (l : List Line). l ++ compared.lines) led.does.1;
      };
      stands = led.stands;
      tells = subst (λ u. Tells g.U.Indications.shows u c.compare_down.new.user (led.lines ++ compared.lines)) c.radio_down.ensures.same
          (told-append g.U.Indications.shows c.radio_down.new.user c.step_with.new.user c.compare_down.new.user led.lines compared.lines led.tells compared.tells);
    }

pub returns-clause-next : goal.returns-clause-next
returns-clause-next g c = λ second was.
    let planned = c.args.accepted.now in
    let nodes : Nodes = the_view c.self.inside in
    let has : HasNext planned second nodes = subst (λ (n : Nodes). HasNext planned second n) (sym c.self.view_is) (c.radio_down.ensures.next second was) in
    ue_follows planned second nodes c.step_with.new.self c.step_with.ensures.next has

pub returns-clause-few : goal.returns-clause-few
returns-clause-few g c =
    subst (λ u. TellsFew g.U.Indications.shows (step_bytes c.args.accepted.now.config + 2400) u c.compare_down.new.user) c.radio_down.ensures.same
    (few_then g.U.Indications.shows (step_bytes c.args.accepted.now.config) 2401 (step_bytes c.args.accepted.now.config + 2400) c.radio_down.new.user c.step_with.new.user c.compare_down.new.user (omega arith) c.step_with.ensures.few c.compare_down.ensures.few)
