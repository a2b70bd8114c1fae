use Rattle.std.proofs.Common.{◌≡◌, ◌≤◌}
use Rattle.dch_types.specs.Lengths.{frame_bits}
use Rattle.dch_dlphy.specs.Frames.{bits_before}
use Rattle.dch_stages.proofs.downlink_frame.places_of_frame.Given as goal

abbrev pub invariant-loop-i : goal.invariant-loop-i
invariant-loop-i l = (l.places ≡ bits_before l.accepted l.combination l.i) × (l.places ≤ frame_bits l.accepted.config.downlink)
