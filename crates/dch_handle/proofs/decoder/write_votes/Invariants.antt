use Rattle.std.proofs.Common.{◌≡◌, length, map, take}
use Rattle.dch_handle.specs.Decoding.{vote_of}
use Rattle.dch_handle.proofs.decoder.write_votes.Given as goal

abbrev pub invariant-loop-i : goal.invariant-loop-i
invariant-loop-i l = (take l.i l.votes ≡ map vote_of (take l.i l.copies)) × (length l.votes ≡ length l.fn.votes)
