use Rattle.std.proofs.Common.{◌≡◌, ◌*◌, ◌<◌, ℕ, take, drop}
use Rattle.std.specs.Int.{div_ceil}
use Rattle.dch_accept.specs.Padded.{bits_from}
use Rattle.dch_accept.proofs.blocks.unpack_blocks.Given as goal

abbrev pub invariant-loop-b : goal.invariant-loop-b
invariant-loop-b l = (q : ℕ) → q < l.b → take l.size (drop (q * l.size) l.out) ≡ bits_from l.octets (8 * (q * div_ceil l.size 8)) l.size
