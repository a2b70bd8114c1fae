use Rattle.std.proofs.Common.{subst}
use Rattle.dch_lines.specs.Semantics.{Adds}
use Rattle.dch_linkcmd.specs.Rules.{PassesStage}
use Rattle.dch_linkcmd.proofs.Passing.{passes_next}
use Rattle.dch_linkcmd.proofs.handler.LinkHandler.pass.Goals as goal

pub returns-clause-passes : goal.returns-clause-passes
returns-clause-passes g c = λ run was.
    let changed = c.change.ensures.changes run was in
    let passed = c.pass_stage.ensures.passes changed.0 changed.1 in (
      passed.0,
      passed.1,
      passes_next g.P.Page.writes run changed.0 passed.0 c.args.page.now c.pass_stage.new.page changed.2
          (subst (λ (r : g.row.P.Denot). Adds g.P.Page.writes (PassesStage changed.0 passed.0) r c.pass_stage.new.page) c.change.ensures.same passed.2),
    )
