use Rattle.std.proofs.Common.{◌≡◌}
use Rattle.dch_amsend.specs.Scanning.{last_in}
use Rattle.dch_amsend.proofs.scan.last_in.Given as goal

abbrev pub invariant-loop-j : goal.invariant-loop-j
invariant-loop-j l = l.found ≡ last_in l.rules l.held l.place l.pdu l.scan l.j
