use Rattle.std.proofs.Common.{◌≡◌, ◌<◌, ◌+◌, ◌-◌, ◌∙◌, Some, None, arith, length, refl, rules, ap, sym, subst}
use Rattle.std.specs.Prelude.{Option}
use Rattle.dch_lines.specs.Semantics.{Adds}
use Rattle.dch_link.specs.SoftPassing.{next_stage}
use Rattle.dch_link.specs.declared.soft_stage.Stage.{Stage}
use Rattle.dch_link.specs.declared.soft_stage.Stage.TheVariants.{RncTick}
use Rattle.dch_linkcmd.specs.SoftRules.{PassesStage}
use Rattle.dch_linkcmd.specs.SoftRun.{Run}
use Rattle.dch_linkcmd.specs.SoftHandlers.{Handler, RepresentsRun}
use Rattle.dch_linkcmd.specs.Stepping.{GoesBy}
use Rattle.dch_linkcmd.specs.contracts.soft_handler.SoftHandler.{the_view}
use Rattle.dch_linkcmd.proofs.SoftPassing.{passes_none, passes_some}
use Rattle.dch_linkcmd.proofs.soft_handler.SoftHandler.pass.Goals as goal

pub returns-in-Some-clause-passes : goal.returns-in-Some-clause-passes
returns-in-Some-clause-passes g c = λ run was.
    let old : Handler = the_view c.self.inside in
    let is : RepresentsRun run old = subst (λ (h : Handler). RepresentsRun run h) (sym c.self.view_is) was in
    let new : Handler = record old { soft = c.pass.new.soft; stage = c.in-Some.stage } in
    let count : c.legs.result ≡ length old.soft.legs = c.legs.ensures ∙ c.pass.ensures.legs in
    let same : c.pass.new.filter.page.now ≡ _ = search rules in
    subst (λ (r : g.row.P.Denot). (next : Run) × RepresentsRun next new × Adds g.P.Page.writes (PassesStage run next) c.args.page.now r) same
    (passes_some g.P.Page.writes run old new c.in-Some.stage c.args.page.now c.pass.new.filter.page.now is (c.pass.ensures.shows run.first run.soft is.stands) (ap (λ n. next_stage n old.stage) (sym count) ∙ sym c.next.ensures.value ∙ c.in-Some.is) refl refl refl refl refl)

pub returns-in-Some-clause-goes : goal.returns-in-Some-clause-goes
returns-in-Some-clause-goes g c =
    let old : Handler = the_view c.self.inside in
    let count : c.legs.result ≡ length old.soft.legs = c.legs.ensures ∙ c.pass.ensures.legs in
    let then : next_stage (length old.soft.legs) old.stage ≡ Some c.in-Some.stage = ap (λ n. next_stage n old.stage) (sym count) ∙ sym c.next.ensures.value ∙ c.in-Some.is in
    subst (λ (h : Handler). GoesBy RncTick (next_stage (length h.soft.legs) h.stage) h.left c.in-Some.stage old.left) c.self.view_is
    (subst (λ (o : Option Stage). GoesBy RncTick o old.left c.in-Some.stage old.left) (sym then) (refl, refl))

pub returns-in-None-clause-passes : goal.returns-in-None-clause-passes
returns-in-None-clause-passes g c = λ run was.
    let old : Handler = the_view c.self.inside in
    let is : RepresentsRun run old = subst (λ (h : Handler). RepresentsRun run h) (sym c.self.view_is) was in
    let new : Handler = record old { soft = c.end_frame.new.self; stage = RncTick; left = old.left - 1; frames = old.frames + 1 } in
    let count : c.legs.result ≡ length old.soft.legs = c.legs.ensures ∙ c.pass.ensures.legs in
    let same : c.pass.new.filter.page.now ≡ _ = search rules in
    subst (λ (r : g.row.P.Denot). (next : Run) × RepresentsRun next new × Adds g.P.Page.writes (PassesStage run next) c.args.page.now r) same
    (passes_none g.P.Page.writes run old new c.pass.new.soft c.args.page.now c.pass.new.filter.page.now is (c.pass.ensures.shows run.first run.soft is.stands) (ap (λ n. next_stage n old.stage) (sym count) ∙ sym c.next.ensures.value ∙ c.in-None.is) c.end_frame.ensures.clear refl refl refl refl refl)

pub returns-in-None-clause-goes : goal.returns-in-None-clause-goes
returns-in-None-clause-goes g c =
    let old : Handler = the_view c.self.inside in
    let left : 0 < old.left = subst (λ (h : Handler). 0 < h.left) (sym c.self.view_is) c.requires.left in
    let count : c.legs.result ≡ length old.soft.legs = c.legs.ensures ∙ c.pass.ensures.legs in
    let then : next_stage (length old.soft.legs) old.stage ≡ None = ap (λ n. next_stage n old.stage) (sym count) ∙ sym c.next.ensures.value ∙ c.in-None.is in
    subst (λ (h : Handler). GoesBy RncTick (next_stage (length h.soft.legs) h.stage) h.left RncTick (old.left - 1)) c.self.view_is
    (subst (λ (o : Option Stage). GoesBy RncTick o old.left RncTick (old.left - 1)) (sym then) (refl, omega (arith, left)))
