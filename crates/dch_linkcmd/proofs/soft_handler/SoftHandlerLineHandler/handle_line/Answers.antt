use Rattle.std.proofs.Common.{◌<◌, ◌∙◌, ℕ, Option, arith, refl, sym, subst}
use Rattle.dch_io.specs.Pieces.{LIMIT}
use Rattle.dch_lines.specs.Semantics.{Adds}
use Rattle.dch_link.specs.SoftPassing.{IsStage}
use Rattle.dch_linkcmd.specs.SoftLineEvents.{Frames}
use Rattle.dch_linkcmd.specs.SoftRules.{PassesFrames}
use Rattle.dch_linkcmd.specs.SoftHandlers.{Handler, RepresentsRun, StandsBetween}
use Rattle.dch_linkcmd.specs.SoftTaking.{AsksFrames, TakesEvent, Tells}
use Rattle.dch_linkcmd.specs.contracts.soft_handler.SoftHandler.{the_view}
use Rattle.dch_linkcmd.proofs.SoftFraming.{asks_stands, took_frames, took_one}
use Rattle.dch_linkcmd.proofs.SoftTaking.{says_here, took_event}
use Rattle.dch_linkcmd.proofs.soft_handler.SoftHandlerLineHandler.handle_line.Goals as goal

pub returns-in-Ok-None-clause-ok : goal.returns-in-Ok-None-clause-ok
returns-in-Ok-None-clause-ok g c = λ run was.
    let old : Handler = the_view c.self.inside in
    let between : StandsBetween old = subst StandsBetween (sym c.self.view_is) c.requires.stands in
    let is : RepresentsRun run old = subst (λ (h : Handler). RepresentsRun run h) (sym c.self.view_is) was in
    let new : Handler = record old { soft = c.take.new.soft } in
    let takes : TakesEvent g.P.Page.writes old.accepted c.args.line.now old.quiet old.soft c.take.new.soft c.args.page.now c.take.new.page =
    subst (λ (o : Option ℕ). Tells g.P.Page.writes old.accepted c.args.line.now o old.quiet old.soft c.take.new.soft c.args.page.now c.take.new.page) c.in-Ok-None.field-0-is c.in-Ok-None.ensures.ok in
    let took = took_event g.P.Page.writes run old new c.args.line.now c.args.page.now c.take.new.page is takes refl refl refl refl refl in (
      took.0,
      took.1,
      took_one g.P.Page.writes (g.P.Page.broken c.take.new.page) run took.0 c.args.line.now c.args.page.now c.take.new.page (took.1.left ∙ between.left) took.2,
    )

pub returns-in-Ok-None-clause-stands : goal.returns-in-Ok-None-clause-stands
returns-in-Ok-None-clause-stands g c =
    let old : Handler = the_view c.self.inside in
    let between : StandsBetween old = subst StandsBetween (sym c.self.view_is) c.requires.stands in
    let new : Handler = record old { soft = c.take.new.soft } in
    let takes : TakesEvent g.P.Page.writes old.accepted c.args.line.now old.quiet old.soft c.take.new.soft c.args.page.now c.take.new.page =
    subst (λ (o : Option ℕ). Tells g.P.Page.writes old.accepted c.args.line.now o old.quiet old.soft c.take.new.soft c.args.page.now c.take.new.page) c.in-Ok-None.field-0-is c.in-Ok-None.ensures.ok in
    let took = took_event g.P.Page.writes between.run old new c.args.line.now c.args.page.now c.take.new.page between.stands takes refl refl refl refl refl in
    record {
      ready = record {
        opened = c.take.ensures.opened;
        stage = subst (λ n. IsStage n old.stage) (sym c.take.ensures.legs) between.ready.stage;
        left = between.ready.left;
        lines = between.ready.lines;
        few = between.ready.few;
      };
      first = between.first;
      left = between.left;
      run = took.0;
      stands = took.1;
    }

pub pass_frames-requires-clause-ready : goal.pass_frames-requires-clause-ready
pass_frames-requires-clause-ready g c =
    let old : Handler = the_view c.self.inside in
    let between : StandsBetween old = subst StandsBetween (sym c.self.view_is) c.requires.stands in
    let few : old.lines < LIMIT = subst (λ (h : Handler). h.lines < LIMIT) (sym c.self.view_is) c.requires.few in
    let asks : AsksFrames old.accepted c.args.line.now c.in-Ok-Some.count old.soft c.take.new.soft c.args.page.now c.take.new.page =
    subst (λ (o : Option ℕ). Tells g.P.Page.writes old.accepted c.args.line.now o old.quiet old.soft c.take.new.soft c.args.page.now c.take.new.page) c.in-Ok-Some.field-0-is c.in-Ok-Some.ensures.ok in
    record {
      opened = c.take.ensures.opened;
      stage = subst (λ n. IsStage n old.stage) (sym c.take.ensures.legs) between.ready.stage;
      left = asks.few;
      lines = omega (arith, few);
      few = omega (arith, between.ready.few, asks.few);
    }

pub returns-in-Ok-Some-clause-ok : goal.returns-in-Ok-Some-clause-ok
returns-in-Ok-Some-clause-ok g c = λ run was.
    let old : Handler = the_view c.self.inside in
    let count : ℕ = c.in-Ok-Some.count in
    let is : RepresentsRun run old = subst (λ (h : Handler). RepresentsRun run h) (sym c.self.view_is) was in
    let asks : AsksFrames old.accepted c.args.line.now count old.soft c.take.new.soft c.args.page.now c.take.new.page =
    subst (λ (o : Option ℕ). Tells g.P.Page.writes old.accepted c.args.line.now o old.quiet old.soft c.take.new.soft c.args.page.now c.take.new.page) c.in-Ok-Some.field-0-is c.in-Ok-Some.ensures.ok in
    let passed = c.pass_frames.ensures.passes (record run { left = count }) (asks_stands run old c.take.new.soft count is asks.same) in (
      passed.0,
      passed.1,
      took_frames g.P.Page.writes (g.P.Page.broken c.pass_frames.new.page) run passed.0 c.args.line.now count c.args.page.now c.pass_frames.new.page (was.stage ∙ c.requires.stands.first) asks.some (says_here run old c.args.line.now (Frames count) is asks.says)
          (subst (λ (p : g.row.P.Denot). Adds g.P.Page.writes (PassesFrames (g.P.Page.broken c.pass_frames.new.page) (record run { left = count }) passed.0) p c.pass_frames.new.page) asks.unsaid passed.2),
    )

pub returns-in-Ok-Some-clause-stands : goal.returns-in-Ok-Some-clause-stands
returns-in-Ok-Some-clause-stands g c =
    let old : Handler = the_view c.self.inside in
    let count : ℕ = c.in-Ok-Some.count in
    let between : StandsBetween old = subst StandsBetween (sym c.self.view_is) c.requires.stands in
    let asks : AsksFrames old.accepted c.args.line.now count old.soft c.take.new.soft c.args.page.now c.take.new.page =
    subst (λ (o : Option ℕ). Tells g.P.Page.writes old.accepted c.args.line.now o old.quiet old.soft c.take.new.soft c.args.page.now c.take.new.page) c.in-Ok-Some.field-0-is c.in-Ok-Some.ensures.ok in
    let passed = c.pass_frames.ensures.passes (record between.run { left = count }) (asks_stands between.run old c.take.new.soft count between.stands asks.same) in
    record {
      ready = c.pass_frames.ensures.ready;
      first = c.pass_frames.ensures.first;
      left = c.pass_frames.ensures.none;
      run = passed.0;
      stands = passed.1;
    }
