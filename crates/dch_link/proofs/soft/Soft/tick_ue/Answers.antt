use Rattle.dch_steptext.specs.Reports.{TellsFew}
use Rattle.dch_accept.specs.Reports.{step_bytes}
use Rattle.std.proofs.Common.{refl, sym, subst}
use Rattle.dch_ue.specs.State.{Tick}
use Rattle.dch_node.specs.Standing.{Tells}
use Rattle.dch_link.specs.SoftNodes.{ArePartsOf, Represents}
use Rattle.dch_link.specs.SoftValues.{Parts}
use Rattle.dch_link.specs.contracts.soft.Soft.{the_view}
use Rattle.dch_link.specs.Soft.{SoftState}
use Rattle.dch_link.proofs.SoftNexts.{ue_next}
use Rattle.dch_link.proofs.soft.Soft.tick_ue.Goals as goal

pub returns-clause-opened : goal.returns-clause-opened
returns-clause-opened g c =
    let planned = c.args.accepted.now in
    let parts : Parts = the_view c.self.inside in
    let opened : ArePartsOf planned parts = subst (λ (p : Parts). ArePartsOf planned p) (sym c.self.view_is) c.hear.ensures.opened in
    record { ue = c.step_with.ensures.opened; rnc = opened.rnc; legs = opened.legs; combiner = opened.combiner; all = opened.all; some = opened.some; few = opened.few; room = opened.room }

pub returns-clause-passes : goal.returns-clause-passes
returns-clause-passes g c = λ first soft was.
    let planned = c.args.accepted.now in
    let came = c.hear.ensures.hears first soft was in
    let mid : SoftState = came.0 in
    let parts : Parts = the_view c.self.inside in
    let is : Represents planned first mid parts = subst (λ (p : Parts). Represents planned first mid p) (sym c.self.view_is) came.1.1 in
    let led = ue_next planned first mid parts Tick c.step_with.new.self (Tells g.U.Indications.shows c.hear.new.user c.step_with.new.user) is c.step_with.ensures.opened (c.step_with.ensures.step planned mid.ue.state refl is.ue.stands) in
    record {
      next = led.next;
      lines = led.lines;
      does = record { mid = mid; hears = came.1.0; ticks = led.does };
      stands = led.stands;
      tells = subst (λ u. Tells g.U.Indications.shows u c.step_with.new.user led.lines) c.hear.ensures.same led.tells;
    }

pub returns-clause-few : goal.returns-clause-few
returns-clause-few g c = subst (λ u. TellsFew g.U.Indications.shows (step_bytes c.args.accepted.now.config) u c.step_with.new.user) c.hear.ensures.same c.step_with.ensures.few
