use Rattle.std.proofs.Common.{◌≡◌, ◌++◌, take, drop}
use Rattle.dch_rlcpdu.specs.Indicators.{indicator_octets}
use Rattle.dch_rlcpdu.proofs.body.write_indicators.Given as goal

abbrev pub invariant-loop-i : goal.invariant-loop-i
invariant-loop-i l = take l.i l.out ++ indicator_octets (drop l.i l.indicators) ≡ indicator_octets l.indicators
