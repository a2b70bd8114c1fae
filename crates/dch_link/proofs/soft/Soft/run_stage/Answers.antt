use Rattle.std.proofs.Common.{refl, sym, subst}
use Rattle.dch_rnc.specs.State.{Tick}
use Rattle.dch_node.specs.Standing.{Tells}
use Rattle.dch_link.specs.SoftStages.{AtStage}
use Rattle.dch_link.specs.declared.soft_stage.Stage.{Stage}
use Rattle.dch_link.specs.SoftNodes.{IsSoftOf, LeadsTo, Represents}
use Rattle.dch_link.specs.SoftValues.{Parts}
use Rattle.dch_link.specs.contracts.soft.Soft.{the_view}
use Rattle.dch_link.proofs.SoftNexts.{rnc_next}
use Rattle.dch_link.proofs.soft.Soft.run_stage.Goals as goal

pub returns-in-RncTick-clause-passes : goal.returns-in-RncTick-clause-passes
returns-in-RncTick-clause-passes g c = λ first soft was.
    let planned = c.args.accepted.now in
    let parts : Parts = the_view c.self.inside in
    let is : Represents planned first soft parts = subst (λ (p : Parts). Represents planned first soft p) (sym c.self.view_is) was in
    subst (λ (s : Stage). LeadsTo planned first (AtStage s soft) (record parts { rnc = c.step_with.new.self }) (Tells g.U.Indications.shows c.args.user.now c.step_with.new.user)) (sym c.in-RncTick.is)
    (rnc_next planned first soft parts Tick c.step_with.new.self (Tells g.U.Indications.shows c.args.user.now c.step_with.new.user) is (c.step_with.ensures.step planned soft.rnc.state refl is.rnc.stands))

pub returns-in-RncTick-clause-opened : goal.returns-in-RncTick-clause-opened
returns-in-RncTick-clause-opened g c =
    let planned = c.args.accepted.now in
    let parts : Parts = the_view c.self.inside in
    let opened : IsSoftOf planned parts = subst (λ (p : Parts). IsSoftOf planned p) (sym c.self.view_is) c.requires.opened in
    let were = opened.opened in
    record { ue = were.ue; rnc = c.step_with.ensures.opened; legs = were.legs; combiner = were.combiner; all = were.all; some = were.some; few = were.few; room = were.room }
