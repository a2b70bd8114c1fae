use Rattle.std.proofs.Common.{◌≤◌, length}
use Rattle.dch_collision.specs.Steps.{NoneGreater}
use Rattle.dch_collision.proofs.legal_sequences.find_turn.Given as goal

abbrev pub invariant-loop-after : goal.invariant-loop-after
invariant-loop-after l = record { within : l.after ≤ length l.sequence; none : NoneGreater l.side l.channel l.format l.sequence l.after }

abbrev pub decreases-loop-after : goal.decreases-loop-after
decreases-loop-after l = l.after
