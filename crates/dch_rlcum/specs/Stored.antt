-- How a receiver keeps its units: those that wait, and the one in progress, are put together by a reassembler.
use Rattle.std.specs.Prelude.{ℕ, Bool}
use Rattle.dch_sar.specs.Taking.{Waiting}
use Rattle.dch_rlcum.specs.Receiving.{Receiving}

abbrev pub receiving : ℕ → Bool → Waiting → Receiving
receiving vr_us known u = record { vr_us = vr_us; known = known; part = u.part; waiting = u.waiting }
