use Rattle.std.proofs.Common.{◌≡◌, drop}
use Rattle.dch_types.specs.Limits.{idled}
use Rattle.dch_config.specs.Sides.{same_formats}
use Rattle.dch_config.proofs.side.are_idled.Given as goal

abbrev pub invariant-loop-i : goal.invariant-loop-i
invariant-loop-i l = same_formats (drop l.i l.other) (idled l.frames (drop l.i l.channels) (drop l.i l.formats)) ≡ same_formats l.other (idled l.frames l.channels l.formats)
