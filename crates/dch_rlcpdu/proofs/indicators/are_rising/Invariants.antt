use Rattle.std.proofs.Common.{◌≡◌, drop, map}
use Rattle.dch_rlcpdu.specs.Indicators.{are_ends, indicator_of}
use Rattle.dch_rlcpdu.proofs.indicators.are_rising.Given as goal

abbrev pub invariant-loop-i : goal.invariant-loop-i
invariant-loop-i l = are_ends l.mode l.behind l.before (map indicator_of (drop l.i l.octets)) ≡ are_ends l.mode l.behind 0 (map indicator_of l.fn.octets)
