use Rattle.std.proofs.Common.{◌≡◌, ◌<◌, ◌+◌, ◌-◌, ◌%◌, ◌∙◌, Some, None, arith, refl, rules, ap, sym, subst}
use Rattle.std.specs.Prelude.{Option}
use Rattle.dch_lines.specs.Semantics.{Adds}
use Rattle.dch_link.specs.Passing.{next_stage}
use Rattle.dch_link.specs.declared.stage.Stage.{Stage}
use Rattle.dch_link.specs.declared.stage.Stage.TheVariants.{RncTick}
use Rattle.dch_linkcmd.specs.Rules.{PassesStage}
use Rattle.dch_linkcmd.specs.Run.{Run}
use Rattle.dch_linkcmd.specs.Handlers.{Handler, IsReady, RepresentsRun}
use Rattle.dch_linkcmd.specs.Stepping.{GoesBy}
use Rattle.dch_linkcmd.specs.contracts.handler.LinkHandler.{the_view}
use Rattle.dch_linkcmd.proofs.Cfns.{cfn_none, cfn_some}
use Rattle.dch_linkcmd.proofs.Passing.{passes_none, passes_some}
use Rattle.dch_linkcmd.proofs.Ready.{ready_on}
use Rattle.dch_linkcmd.proofs.handler.LinkHandler.pass_stage.Goals as goal

pub returns-in-Some-clause-passes : goal.returns-in-Some-clause-passes
returns-in-Some-clause-passes g c = λ run was.
    let old : Handler = the_view c.self.inside in
    let is : RepresentsRun run old = subst (λ (h : Handler). RepresentsRun run h) (sym c.self.view_is) was in
    let new : Handler = record old { link = c.pass.new.link; stage = c.in-Some.stage } in
    let same : c.pass.new.filter.page.now ≡ _ = search rules in
    subst (λ (r : g.row.P.Denot). (next : Run) × RepresentsRun next new × Adds g.P.Page.writes (PassesStage run next) c.args.page.now r) same
    (passes_some g.P.Page.writes run old new c.in-Some.stage c.args.page.now c.pass.new.filter.page.now is (c.pass.ensures.shows run.began run.first run.link is.stands) (sym c.next.ensures.value ∙ c.in-Some.is) refl refl refl refl refl refl)

pub returns-in-Some-clause-goes : goal.returns-in-Some-clause-goes
returns-in-Some-clause-goes g c =
    let old : Handler = the_view c.self.inside in
    let then : next_stage old.stage ≡ Some c.in-Some.stage = sym c.next.ensures.value ∙ c.in-Some.is in
    subst (λ (h : Handler). GoesBy RncTick (next_stage h.stage) h.left c.in-Some.stage old.left) c.self.view_is
    (subst (λ (o : Option Stage). GoesBy RncTick o old.left c.in-Some.stage old.left) (sym then) (refl, refl))

pub returns-in-None-clause-goes : goal.returns-in-None-clause-goes
returns-in-None-clause-goes g c =
    let old : Handler = the_view c.self.inside in
    let left : 0 < old.left = subst (λ (h : Handler). 0 < h.left) (sym c.self.view_is) c.requires.left in
    let then : next_stage old.stage ≡ None = sym c.next.ensures.value ∙ c.in-None.is in
    subst (λ (h : Handler). GoesBy RncTick (next_stage h.stage) h.left RncTick (old.left - 1)) c.self.view_is
    (subst (λ (o : Option Stage). GoesBy RncTick o old.left RncTick (old.left - 1)) (sym then) (refl, omega (arith, left)))

pub returns-in-None-clause-passes : goal.returns-in-None-clause-passes
returns-in-None-clause-passes g c = λ run was.
    let old : Handler = the_view c.self.inside in
    let is : RepresentsRun run old = subst (λ (h : Handler). RepresentsRun run h) (sym c.self.view_is) was in
    let new : Handler = record old { link = c.end_frame.new.self; stage = RncTick; left = old.left - 1; frames = old.frames + 1 } in
    let same : c.pass.new.filter.page.now ≡ _ = search rules in
    subst (λ (r : g.row.P.Denot). (next : Run) × RepresentsRun next new × Adds g.P.Page.writes (PassesStage run next) c.args.page.now r) same
    (passes_none g.P.Page.writes run old new c.pass.new.link c.args.page.now c.pass.new.filter.page.now is (c.pass.ensures.shows run.began run.first run.link is.stands) (sym c.next.ensures.value ∙ c.in-None.is) c.end_frame.ensures.clear refl refl refl refl refl refl)

pub returns-in-Some-clause-ready : goal.returns-in-Some-clause-ready
returns-in-Some-clause-ready g c =
    let old : Handler = the_view c.self.inside in
    let ready : IsReady old = subst IsReady (sym c.self.view_is) c.requires.ready in
    let cfn = ap (λ n. n % 8) c.pass.ensures.cfn ∙ cfn_some old.stage c.in-Some.stage old.link.ue.cfn old.frames (sym c.next.ensures.value ∙ c.in-Some.is) ready.cfn in
    ready_on old c.pass.new.link c.in-Some.stage old.left old.frames old.lines ready c.pass.ensures.opened c.pass.ensures.next
    c.in-Some.ensures.stage cfn ready.left ready.lines ready.few

pub returns-in-None-clause-ready : goal.returns-in-None-clause-ready
returns-in-None-clause-ready g c =
    let old : Handler = the_view c.self.inside in
    let ready : IsReady old = subst IsReady (sym c.self.view_is) c.requires.ready in
    let left : 0 < old.left = subst (λ (h : Handler). 0 < h.left) (sym c.self.view_is) c.requires.left in
    let cfn = ap (λ n. n % 8) (c.end_frame.ensures.cfn ∙ c.pass.ensures.cfn) ∙ cfn_none old.stage old.link.ue.cfn old.frames (sym c.next.ensures.value ∙ c.in-None.is) ready.cfn in
    ready_on old c.end_frame.new.self RncTick (old.left - 1) (old.frames + 1) old.lines ready c.end_frame.ensures.opened
    (λ second has. c.end_frame.ensures.next second (c.pass.ensures.next second has))
    tt cfn (omega (arith, ready.left)) ready.lines (omega (arith, ready.few, left))
