use Rattle.std.proofs.Common.{◌<◌, ◌+◌, ◌%◌, ◌∙◌, ℕ, Option, arith, refl, ap, sym, subst}
use Rattle.dch_io.specs.Pieces.{LIMIT}
use Rattle.dch_lines.specs.Semantics.{Adds}
use Rattle.dch_linkcmd.specs.LineEvents.{Frames}
use Rattle.dch_linkcmd.specs.Rules.{PassesFrames}
use Rattle.dch_linkcmd.specs.Handlers.{Handler, RepresentsRun, StandsBetween}
use Rattle.dch_linkcmd.specs.Taking.{AsksFrames, TakesEvent, Tells}
use Rattle.dch_linkcmd.specs.contracts.handler.LinkHandler.{the_view}
use Rattle.dch_linkcmd.proofs.Framing.{asks_stands, took_frames, took_one}
use Rattle.dch_linkcmd.proofs.Ready.{ready_on}
use Rattle.dch_linkcmd.proofs.Taking.{says_here, took_event}
use Rattle.dch_linkcmd.proofs.handler.LinkHandlerLineHandler.handle_line.Goals as goal

pub returns-in-Ok-None-clause-ok : goal.returns-in-Ok-None-clause-ok
returns-in-Ok-None-clause-ok g c = λ run was.
    let old : Handler = the_view c.self.inside in
    let between : StandsBetween old = subst StandsBetween (sym c.self.view_is) c.requires.stands in
    let is : RepresentsRun run old = subst (λ (h : Handler). RepresentsRun run h) (sym c.self.view_is) was in
    let new : Handler = record old { link = c.take.new.link } in
    let takes : TakesEvent g.P.Page.writes old.accepted c.args.line.now old.quiet old.link c.take.new.link c.args.page.now c.take.new.page =
    subst (λ (o : Option ℕ). Tells g.P.Page.writes old.accepted c.args.line.now o old.quiet old.link c.take.new.link c.args.page.now c.take.new.page) c.in-Ok-None.field-0-is c.in-Ok-None.ensures.ok in
    let took = took_event g.P.Page.writes run old new c.args.line.now c.args.page.now c.take.new.page is takes refl refl refl refl refl refl in (
      took.0,
      took.1,
      took_one g.P.Page.writes (g.P.Page.broken c.take.new.page) run took.0 c.args.line.now c.args.page.now c.take.new.page (took.1.left ∙ between.left) took.2,
    )

pub returns-in-Ok-None-clause-stands : goal.returns-in-Ok-None-clause-stands
returns-in-Ok-None-clause-stands g c =
    let old : Handler = the_view c.self.inside in
    let between : StandsBetween old = subst StandsBetween (sym c.self.view_is) c.requires.stands in
    let new : Handler = record old { link = c.take.new.link } in
    let takes : TakesEvent g.P.Page.writes old.accepted c.args.line.now old.quiet old.link c.take.new.link c.args.page.now c.take.new.page =
    subst (λ (o : Option ℕ). Tells g.P.Page.writes old.accepted c.args.line.now o old.quiet old.link c.take.new.link c.args.page.now c.take.new.page) c.in-Ok-None.field-0-is c.in-Ok-None.ensures.ok in
    let took = took_event g.P.Page.writes between.run old new c.args.line.now c.args.page.now c.take.new.page between.stands takes refl refl refl refl refl refl in
    record {
      ready = ready_on old c.take.new.link old.stage old.left old.frames old.lines between.ready c.take.ensures.opened c.take.ensures.next between.ready.stage (ap (λ n. n % 8) c.take.ensures.cfn ∙ between.ready.cfn) between.ready.left between.ready.lines between.ready.few;
      first = between.first;
      left = between.left;
      run = took.0;
      stands = took.1;
    }

pub pass_frames-requires-clause-ready : goal.pass_frames-requires-clause-ready
pass_frames-requires-clause-ready g c =
    let old : Handler = the_view c.self.inside in
    let between : StandsBetween old = subst StandsBetween (sym c.self.view_is) c.requires.stands in
    let few : old.lines < LIMIT = subst (λ (h : Handler). h.lines < LIMIT) (sym c.self.view_is) c.requires.few in
    let asks : AsksFrames old.accepted c.args.line.now c.in-Ok-Some.count old.link c.take.new.link c.args.page.now c.take.new.page =
    subst (λ (o : Option ℕ). Tells g.P.Page.writes old.accepted c.args.line.now o old.quiet old.link c.take.new.link c.args.page.now c.take.new.page) c.in-Ok-Some.field-0-is c.in-Ok-Some.ensures.ok in
    ready_on old c.take.new.link old.stage c.in-Ok-Some.count old.frames (old.lines + 1) between.ready c.take.ensures.opened c.take.ensures.next between.ready.stage (ap (λ n. n % 8) c.take.ensures.cfn ∙ between.ready.cfn) asks.few (omega (arith, few)) (omega (arith, between.ready.few, asks.few))

pub returns-in-Ok-Some-clause-ok : goal.returns-in-Ok-Some-clause-ok
returns-in-Ok-Some-clause-ok g c = λ run was.
    let old : Handler = the_view c.self.inside in
    let count : ℕ = c.in-Ok-Some.count in
    let is : RepresentsRun run old = subst (λ (h : Handler). RepresentsRun run h) (sym c.self.view_is) was in
    let asks : AsksFrames old.accepted c.args.line.now count old.link c.take.new.link c.args.page.now c.take.new.page =
    subst (λ (o : Option ℕ). Tells g.P.Page.writes old.accepted c.args.line.now o old.quiet old.link c.take.new.link c.args.page.now c.take.new.page) c.in-Ok-Some.field-0-is c.in-Ok-Some.ensures.ok in
    let passed = c.pass_frames.ensures.passes (record run { left = count }) (asks_stands run old c.take.new.link count is asks.same) in (
      passed.0,
      passed.1,
      took_frames g.P.Page.writes (g.P.Page.broken c.pass_frames.new.page) run passed.0 c.args.line.now count c.args.page.now c.pass_frames.new.page (was.stage ∙ c.requires.stands.first) asks.some (says_here run old c.args.line.now (Frames count) is asks.says)
          (subst (λ (p : g.row.P.Denot). Adds g.P.Page.writes (PassesFrames (g.P.Page.broken c.pass_frames.new.page) (record run { left = count }) passed.0) p c.pass_frames.new.page) asks.unsaid passed.2),
    )

pub returns-in-Ok-Some-clause-stands : goal.returns-in-Ok-Some-clause-stands
returns-in-Ok-Some-clause-stands g c =
    let old : Handler = the_view c.self.inside in
    let count : ℕ = c.in-Ok-Some.count in
    let between : StandsBetween old = subst StandsBetween (sym c.self.view_is) c.requires.stands in
    let asks : AsksFrames old.accepted c.args.line.now count old.link c.take.new.link c.args.page.now c.take.new.page =
    subst (λ (o : Option ℕ). Tells g.P.Page.writes old.accepted c.args.line.now o old.quiet old.link c.take.new.link c.args.page.now c.take.new.page) c.in-Ok-Some.field-0-is c.in-Ok-Some.ensures.ok in
    let passed = c.pass_frames.ensures.passes (record between.run { left = count }) (asks_stands between.run old c.take.new.link count between.stands asks.same) in
    record {
      ready = c.pass_frames.ensures.ready;
      first = c.pass_frames.ensures.first;
      left = c.pass_frames.ensures.none;
      run = passed.0;
      stands = passed.1;
    }
