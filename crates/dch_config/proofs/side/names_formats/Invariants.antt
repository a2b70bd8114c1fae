use Rattle.std.proofs.Common.{◌≡◌, drop}
use Rattle.dch_config.specs.Sides.{names_formats}
use Rattle.dch_config.proofs.side.names_formats.Given as goal

abbrev pub invariant-loop-i : goal.invariant-loop-i
invariant-loop-i l = names_formats (drop l.i l.channels) (drop l.i l.formats) ≡ names_formats l.channels l.formats
