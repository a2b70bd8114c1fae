use Rattle.std.proofs.Common.{◌≡◌, take}
use Rattle.std.specs.Prelude.{count_by}
use Rattle.dch_check.proofs.Taking.{is_feed}
use Rattle.dch_check.proofs.taken_config.lines_in.Given as goal

abbrev pub invariant-loop-byte : goal.invariant-loop-byte
invariant-loop-byte l = l.lines ≡ count_by is_feed (take l.byte-index l.text)
