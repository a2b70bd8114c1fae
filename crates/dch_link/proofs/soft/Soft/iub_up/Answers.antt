use Rattle.dch_steptext.proofs.Reporting.{few_none}
use Rattle.std.proofs.Common.{◌∙◌, ℕ, Option, sym, subst, arith, refl}
use Rattle.dch_node.specs.Standing.{Tells}
use Rattle.dch_link.specs.SoftStages.{TakesFrame, WhereOver}
use Rattle.dch_link.specs.SoftNodes.{LeadsTo}
use Rattle.dch_link.proofs.SoftNexts.{over_is, soft_stays}
use Rattle.dch_link.proofs.soft.Soft.iub_up.Goals as goal

pub returns-in-Some-clause-passes : goal.returns-in-Some-clause-passes
returns-in-Some-clause-passes g c = λ first soft was.
    let planned = c.args.accepted.now in
    subst (λ (o : Option ℕ). LeadsTo planned first (λ next lines. WhereOver o (λ cfn. TakesFrame cfn c.args.set c.args.leg) soft next lines) c.take_frame.new.self (Tells g.U.Indications.shows c.args.user.now c.take_frame.new.user))
    (sym c.in-Some.is ∙ c.ended.ensures.value ∙ over_is planned first soft c.args.self.now c.args.set was) (c.take_frame.ensures.takes first soft was)

pub returns-in_default-clause-passes : goal.returns-in_default-clause-passes
returns-in_default-clause-passes g c = λ first soft was.
    let planned = c.args.accepted.now in
    subst (λ (o : Option ℕ). LeadsTo planned first (λ next lines. WhereOver o (λ cfn. TakesFrame cfn c.args.set c.args.leg) soft next lines) c.args.self.now (Tells g.U.Indications.shows c.args.user.now c.args.user.now))
    (sym c.in_default.is ∙ c.ended.ensures.value ∙ over_is planned first soft c.args.self.now c.args.set was) (soft_stays planned first soft c.args.self.now (Tells g.U.Indications.shows c.args.user.now c.args.user.now) refl was)

pub returns-in_default-clause-few : goal.returns-in_default-clause-few
returns-in_default-clause-few g c = few_none g.U.Indications.shows 4000000 c.args.user.now (omega arith)
