use Rattle.std.proofs.Common.{◌≡◌, ◌<◌, ◌≤◌, ◌++◌, length, arith, ap, ◌∙◌}
use Rattle.std.proofs.lemmas.Bool.{leb-false, leb-true}
use Rattle.dch_script.specs.Code.{longest}
use Rattle.dch_lines.specs.Processor.{standing}
use Rattle.dch_lines.proofs.Steps.{part_stops, part_taken}
use Rattle.dch_lines.proofs.processor.LineProcessor.resume_with.Goals as goal

pub returns-clause-fits : goal.returns-clause-fits
returns-clause-fits g c fits a f =
    let held : c.line_length.result ≡ length (c.args.self.now.line ++ c.args.part.now) = c.line_length.ensures ∙ ap (λ w. length w.line) c.hold.ensures in
    let short : length (c.args.self.now.line ++ c.args.part.now) ≤ longest = omega (arith, held, leb-true _ _ fits) in
    rw c.hold.ensures (λ state is. (state, is, part_taken g.C.LineHandler.semantics a f (standing state c.args.self.now) c.args.part.now c.requires.feed.0 c.requires.feed.1 short))

pub returns-clause-too_long : goal.returns-clause-too_long
returns-clause-too_long g c over a f remaining =
    let held : c.line_length.result ≡ length (c.args.self.now.line ++ c.args.part.now) = c.line_length.ensures ∙ ap (λ w. length w.line) c.hold.ensures in
    let long : longest < length (c.args.self.now.line ++ c.args.part.now) = omega (arith, held, leb-false _ _ over) in
    rw c.hold.ensures (λ state is. (state, is, part_stops g.C.LineHandler.semantics a f (standing state c.args.self.now) c.args.part.now remaining g.met.C.LineHandler.overlong c.requires.feed.0 c.requires.feed.1 long))
