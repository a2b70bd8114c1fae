use Rattle.std.proofs.Common.{◌≡◌, slice_index, string_bytes}
use Rattle.std.specs.Prelude.{decimal}
use Rattle.dch_margin.specs.Reports.{listed}
use Rattle.dch_margin.proofs.worst_line.numbers_text.Given as goal

abbrev pub invariant-loop-n : goal.invariant-loop-n
invariant-loop-n l = string_bytes l.text ≡ listed (λ n. decimal (slice_index l.numbers n)) l.n
