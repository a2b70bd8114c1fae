use Rattle.std.proofs.Common.{◌≡◌, take}
use Rattle.dch_gen.specs.Units.{unit_octets}
use Rattle.dch_gen.proofs.units.fill_octets.Given as goal

abbrev pub invariant-loop-j : goal.invariant-loop-j
invariant-loop-j l = take l.j l.octets ≡ unit_octets l.fn.frame l.fn.dir l.fn.bearer l.j
