use Rattle.std.proofs.Common.{◌≡◌, ◌≤◌, ◌*◌, ◌^◌, take}
use Rattle.dch_trellis.specs.Nearest.{all_copies}
use Rattle.dch_handle.specs.Decoding.{votes_of}
use Rattle.dch_handle.proofs.decoder.are_few.Given as goal

abbrev pub invariant-loop-each : goal.invariant-loop-each
invariant-loop-each l = (l.all ≡ all_copies (votes_of (take l.each-index l.copies))) × (l.all ≤ l.each-index * 2 ^ 33)
