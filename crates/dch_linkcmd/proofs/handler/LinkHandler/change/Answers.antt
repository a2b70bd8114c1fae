use Rattle.std.proofs.Common.{◌≡◌, Some, None, refl, subst, sym}
use Rattle.dch_linkcmd.specs.Rules.{Begins, MayChange}
use Rattle.dch_linkcmd.specs.Run.{Run}
use Rattle.dch_linkcmd.specs.Handlers.{Handler, IsReady, RepresentsRun}
use Rattle.dch_linkcmd.specs.contracts.handler.LinkHandler.{the_view}
use Rattle.dch_lines.specs.declared.later.Later.{Later}
use Rattle.dch_linkcmd.proofs.Changing.{changed_run, waits_on}
use Rattle.dch_linkcmd.proofs.handler.LinkHandler.change.Goals as goal

pub returns-then-not-is_due-clause-changes : goal.returns-then-not-is_due-clause-changes
returns-then-not-is_due-clause-changes g c = λ run was.
    let old : Handler = the_view c.self.inside in
    let is : RepresentsRun run old = subst (λ (h : Handler). RepresentsRun run h) (sym c.self.view_is) was in
    let undue : (later : Later) → ¬ Begins old.later old.stage old.frames later = c.if-not-is_due.ensures.undue refl in
    subst (λ (h : Handler). (next : Run) × RepresentsRun next h × MayChange run next) c.self.view_is (waits_on run old undue is)

pub returns-in-Some-clause-changes : goal.returns-in-Some-clause-changes
returns-in-Some-clause-changes g c = λ run was.
    let old : Handler = the_view c.self.inside in
    let is : RepresentsRun run old = subst (λ (h : Handler). RepresentsRun run h) (sym c.self.view_is) was in
    let ready : IsReady old = subst IsReady (sym c.self.view_is) c.requires in
    let due = c.if-not-is_due.ensures.due refl in
    let waits : old.later ≡ Some c.in-Some.later = cc (c.in-Some.is, c.take.ensures.value) in
    let none : c.take.new.self ≡ None = cc c.take.ensures.after in
    changed_run old c.change.new.self c.swap.new.x c.take.new.self due.0 c.in-Some.later run ready due.1 waits c.swap.ensures.x_after none c.change.ensures.changes is
