use Rattle.dch_steptext.proofs.Reporting.{few_less}
use Rattle.dch_accept.specs.Reports.{step_bytes}
use Rattle.std.proofs.Common.{refl, sym, subst, arith, ◌+◌}
use Rattle.dch_node.specs.Standing.{Tells}
use Rattle.dch_link.specs.Stages.{AtStage}
use Rattle.dch_link.specs.LinkNodes.{HasNext, LeadsTo, Represents}
use Rattle.dch_link.specs.Values.{Nodes}
use Rattle.dch_link.specs.contracts.link.Link.{the_view}
use Rattle.dch_rnc.specs.State.{Tick}
use Rattle.dch_nodeb.specs.State.{DownlinkDue}
use Rattle.dch_link.specs.declared.stage.Stage.{Stage}
use Rattle.dch_link.proofs.Following.{node_b_follows, rnc_follows}
use Rattle.dch_link.proofs.Nexts.{node_b_next, rnc_next}
use Rattle.dch_link.proofs.link.Link.run_stage.Goals as goal

pub returns-in-RncTick-clause-passes : goal.returns-in-RncTick-clause-passes
returns-in-RncTick-clause-passes g c = λ began first link was.
    let planned = c.args.accepted.now in
    let nodes : Nodes = the_view c.self.inside in
    let is : Represents began planned first link nodes = subst (λ (n : Nodes). Represents began planned first link n) (sym c.self.view_is) was in
    subst (λ (s : Stage). LeadsTo began planned first (AtStage s link) (record nodes { rnc = c.step_with.new.self }) (Tells g.U.Indications.shows c.args.user.now c.step_with.new.user)) (sym c.in-RncTick.is)
    (rnc_next began planned first link nodes Tick c.step_with.new.self (Tells g.U.Indications.shows c.args.user.now c.step_with.new.user) is (c.step_with.ensures.step planned link.rnc.state refl is.rnc.stands))

pub returns-in-RadioDown-clause-passes : goal.returns-in-RadioDown-clause-passes
returns-in-RadioDown-clause-passes g c = λ began first link was.
    let planned = c.args.accepted.now in
    let nodes : Nodes = the_view c.self-in-RadioDown.inside in
    let is : Represents began planned first link nodes = subst (λ (n : Nodes). Represents began planned first link n) (sym c.self-in-RadioDown.view_is) was in
    subst (λ (s : Stage). LeadsTo began planned first (AtStage s link) (record nodes { node_b = c.step_with-in-RadioDown.new.self }) (Tells g.U.Indications.shows c.args.user.now c.step_with-in-RadioDown.new.user)) (sym c.in-RadioDown.is)
    (node_b_next began planned first link nodes DownlinkDue c.step_with-in-RadioDown.new.self (Tells g.U.Indications.shows c.args.user.now c.step_with-in-RadioDown.new.user) is (c.step_with-in-RadioDown.ensures.step planned link.node_b.state refl is.node_b.stands))

pub returns-in-RncTick-clause-next : goal.returns-in-RncTick-clause-next
returns-in-RncTick-clause-next g c = λ second was.
    let planned = c.args.accepted.now in
    let nodes : Nodes = the_view c.self.inside in
    let has : HasNext planned second nodes = subst (λ (n : Nodes). HasNext planned second n) (sym c.self.view_is) was in
    rnc_follows planned second nodes c.step_with.new.self c.step_with.ensures.next has

pub returns-in-RadioDown-clause-next : goal.returns-in-RadioDown-clause-next
returns-in-RadioDown-clause-next g c = λ second was.
    let planned = c.args.accepted.now in
    let nodes : Nodes = the_view c.self-in-RadioDown.inside in
    let has : HasNext planned second nodes = subst (λ (n : Nodes). HasNext planned second n) (sym c.self-in-RadioDown.view_is) was in
    node_b_follows planned second nodes c.step_with-in-RadioDown.new.self c.step_with-in-RadioDown.ensures.next has

pub returns-in-RncTick-clause-few : goal.returns-in-RncTick-clause-few
returns-in-RncTick-clause-few g c = few_less g.U.Indications.shows (step_bytes c.args.accepted.now.config) (step_bytes c.args.accepted.now.config + 2400) c.args.user.now c.step_with.new.user (omega arith) c.step_with.ensures.few

pub returns-in-RadioDown-clause-few : goal.returns-in-RadioDown-clause-few
returns-in-RadioDown-clause-few g c = few_less g.U.Indications.shows 4000000 (step_bytes c.args.accepted.now.config + 2400) c.args.user.now c.step_with-in-RadioDown.new.user (omega arith) c.step_with-in-RadioDown.ensures.few

pub returns-in-IubDown-clause-few : goal.returns-in-IubDown-clause-few
returns-in-IubDown-clause-few g c = few_less g.U.Indications.shows (step_bytes c.args.accepted.now.config) (step_bytes c.args.accepted.now.config + 2400) c.args.user.now c.iub_down.new.user (omega arith) c.iub_down.ensures.few

pub returns-in-RadioUp-clause-few : goal.returns-in-RadioUp-clause-few
returns-in-RadioUp-clause-few g c = few_less g.U.Indications.shows (step_bytes c.args.accepted.now.config) (step_bytes c.args.accepted.now.config + 2400) c.args.user.now c.radio_up.new.user (omega arith) c.radio_up.ensures.few
