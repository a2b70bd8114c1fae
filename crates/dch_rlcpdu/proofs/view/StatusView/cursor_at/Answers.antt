use Rattle.std.proofs.Common.{drop, ap, ◌∙◌, drop-drop}
use Rattle.dch_rlcpdu.proofs.view.StatusView.cursor_at.Goals as goal

pub loop-preserved : goal.loop-preserved
loop-preserved c = c.advance.ensures ∙ (ap (drop 1) c.loop.invariant ∙ drop-drop 1 c.loop.counter c.args.self.now)
