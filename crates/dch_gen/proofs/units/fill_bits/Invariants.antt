use Rattle.std.proofs.Common.{◌≡◌, take}
use Rattle.dch_gen.specs.Units.{unit_bits}
use Rattle.dch_gen.proofs.units.fill_bits.Given as goal

abbrev pub invariant-loop-j : goal.invariant-loop-j
invariant-loop-j l = take l.j l.bits ≡ unit_bits l.fn.frame l.fn.dir l.fn.bearer l.j
