use Rattle.std.proofs.Common.{◌≡◌, ◌∙◌, Option, Some, None, IfErr, OnOk, subst, sym}
use Rattle.dch_lines.specs.Semantics.{Adds, Does, Leads}
use Rattle.dch_paircmd.specs.Rules.{pair_lines}
use Rattle.dch_paircmd.specs.Handlers.{EndsValue, RepresentsRun}
use Rattle.dch_paircmd.proofs.Handling.{Fails, pass_fails, passes, starts}
use Rattle.dch_paircmd.proofs.handler.PairHandlerLineHandler.handle_line.Goals as goal

pub returns-in-Some-clause-ok : goal.returns-in-Some-clause-ok
returns-in-Some-clause-ok g c =
    let was : c.args.self.now ≡ Some c.in-Some.ends = sym c.self.view_is ∙ c.in-Some.is in
    subst (λ (o : Option EndsValue). OnOk c.pass.result (Leads RepresentsRun o (Some c.pass.new.ends) (λ a b. Adds g.P.Page.writes (Does pair_lines (g.P.Page.broken c.pass.new.page) a c.args.line.now b) c.args.page.now c.pass.new.page))) (sym was)
    (passes g.P.Page.writes (g.P.Page.broken c.pass.new.page) c.pass.result c.args.line.now c.in-Some.ends c.pass.new.ends c.args.page.now c.pass.new.page c.pass.ensures.ok)

pub returns-in-Some-clause-err : goal.returns-in-Some-clause-err
returns-in-Some-clause-err g c =
    let was : c.args.self.now ≡ Some c.in-Some.ends = sym c.self.view_is ∙ c.in-Some.is in
    subst (λ (o : Option EndsValue). IfErr c.pass.result (Fails c.args.line.now o (Some c.pass.new.ends))) (sym was)
    (pass_fails g.P.Page.writes c.pass.result c.args.line.now c.in-Some.ends c.pass.new.ends c.args.page.now c.pass.new.page c.pass.ensures.err c.pass.ensures.same)

pub returns-in_ok-start-in-None-clause-ok : goal.returns-in_ok-start-in-None-clause-ok
returns-in_ok-start-in-None-clause-ok g c =
    let was : c.args.self.now ≡ None = sym c.self.view_is ∙ c.in-None.is in
    subst (λ (o : Option EndsValue). Leads RepresentsRun o (Some c.in_ok-start-in-None.field-0) (λ a b. Adds g.P.Page.writes (Does pair_lines (g.P.Page.broken c.start.new.page) a c.args.line.now b) c.args.page.now c.start.new.page)) (sym was)
    (starts g.P.Page.writes (g.P.Page.broken c.start.new.page) c.args.line.now c.in_ok-start-in-None.field-0 c.args.page.now c.start.new.page c.in_ok-start-in-None.ensures.ok)
