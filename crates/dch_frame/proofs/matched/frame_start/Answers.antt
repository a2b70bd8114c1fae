use Rattle.std.proofs.Common.{◌≡◌, ◌+◌, ◌*◌, ◌%◌, ℕ, ap, ◌∙◌, sym, rules, w64}
use Rattle.std.proofs.Math.Nat.{mul_assoc}
use Rattle.std.proofs.lemmas.Int.{to_z-of_z}
use Rattle.std.specs.Int.RustNames.{FitsSigned}
use Rattle.dch_frame.specs.Shifts.{average_distance, column_shift}
use Rattle.dch_frame.specs.Matched.{remainder}
use Rattle.dch_frame.proofs.MatchedLemmas.{remainder_is, odd_start}
use Rattle.dch_frame.proofs.matched.frame_start.Goals as goal

pub returns-clause-value : goal.returns-clause-value
returns-clause-value c =
    let n : ℕ = c.args.n in
    let sent : ℕ = c.args.sent in
    let fits : FitsSigned w64 c.average_distance.result = search rules in
    let shifted = rw (to_z-of_z w64 c.average_distance.result fits) at c.column_shift-column_shift.ensures.value in
    let apart : c.average_distance.result ≡ average_distance n (remainder n sent) = c.average_distance.ensures.value ∙ ap (average_distance n) (sym (remainder_is n sent c.requires.some)) in
    let is : c.column_shift-column_shift.result ≡ column_shift (average_distance n (remainder n sent)) c.args.frames c.args.column = shifted ∙ ap (λ q. column_shift q c.args.frames c.args.column) apart in
    ap (λ s. (2 * s * c.change.result + 1) % (2 * n)) is
    ∙ ap (λ d. (2 * column_shift (average_distance n (remainder n sent)) c.args.frames c.args.column * d + 1) % (2 * n)) c.change.ensures.value

pub returns-clause-least : goal.returns-clause-least
returns-clause-least c = rw mul_assoc (odd_start (c.column_shift-column_shift.result * c.change.result) c.args.n c.requires.some).0
