use Rattle.dch_frame.specs.Downlinks.{places_after}
use Rattle.dch_frame.specs.Places.{IsTable}
use Rattle.dch_frame.proofs.flexible.flexible_table.Given as goal

abbrev pub invariant-loop-c : goal.invariant-loop-c
invariant-loop-c l = IsTable l.side (places_after l.side l.ndata l.c) l.table
