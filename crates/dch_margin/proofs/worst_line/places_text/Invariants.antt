use Rattle.std.proofs.Common.{◌≡◌, string_bytes}
use Rattle.std.specs.Prelude.{slice_index_or}
use Rattle.dch_margin.specs.Reports.{listed, no_place, place_text}
use Rattle.dch_margin.proofs.worst_line.places_text.Given as goal

abbrev pub invariant-loop-n : goal.invariant-loop-n
invariant-loop-n l = string_bytes l.text ≡ listed (λ n. place_text (slice_index_or l.places n no_place)) l.n
