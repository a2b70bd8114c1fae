use Rattle.std.proofs.Common.{◌≡◌, false, refl, rules}
use Rattle.dch_lines.specs.LineTexts.{is_empty}
use Rattle.dch_lines.proofs.Parts.{passes_same}
use Rattle.dch_lines.proofs.handling.process_line.Goals as goal

pub returns-in-Err-clause-handles : goal.returns-in-Err-clause-handles
returns-in-Err-clause-handles g c =
    let words : is_empty c.args.line.now ≡ false = search rules in
    λ state is.
    let cause = c.in-Err.ensures.err state is in
    (state, cause.1, (record { words = words; cause = cause.0 }, refl, passes_same g.K.Sink.taken g.K.Sink.faults c.args.sink.now c.hand_line.new.sink c.args.report.now c.hand_line.new.report c.in-Err.ensures.sink c.in-Err.ensures.report))
