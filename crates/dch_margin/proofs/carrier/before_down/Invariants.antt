use Rattle.std.proofs.Common.{◌≡◌, ◌≤◌, ◌*◌}
use Rattle.dch_margin.specs.Carriers.{before_down}
use Rattle.dch_margin.proofs.carrier.before_down.Given as goal

abbrev pub invariant-loop-j : goal.invariant-loop-j
invariant-loop-j l = record {
  sum : l.before ≡ before_down l.config l.j l.c;
  few : l.before ≤ l.j * 457920;
}
