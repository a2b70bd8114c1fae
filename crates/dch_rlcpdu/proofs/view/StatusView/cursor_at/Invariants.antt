use Rattle.std.proofs.Common.{◌≡◌, drop}
use Rattle.dch_rlcpdu.proofs.view.StatusView.cursor_at.Given as goal

abbrev pub invariant-loop : goal.invariant-loop
invariant-loop l = l.cursor ≡ drop l.counter l.self
