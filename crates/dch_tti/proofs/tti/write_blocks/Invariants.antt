use Rattle.std.proofs.Common.{◌≡◌, ◌+◌, ◌<◌, ℕ, take}
use Rattle.dch_types.specs.Lengths.{crc_size}
use Rattle.dch_coding.specs.Ttis.{part}
use Rattle.dch_tti.proofs.tti.write_blocks.Given as goal

abbrev pub invariant-loop-i : goal.invariant-loop-i
invariant-loop-i l = (q : ℕ) → q < l.i → part q l.size l.out ≡ take l.size (part q (l.size + crc_size l.crc) l.joined)
