use Rattle.std.proofs.Common.{◌≡◌, ◌+◌, ◌<◌, ◌≤◌, ◌++◌, length, take, arith, ap, sym, ◌∙◌, length-take}
use Rattle.std.proofs.lemmas.List.{take-take, take-append-drop}
use Rattle.dch_script.proofs.Lines.{no_feed, one_feed}
use Rattle.dch_lines.proofs.processor.LineProcessor.step.Goals as goal

pub end_with-requires-clause-feed : goal.end_with-requires-clause-feed
end_with-requires-clause-feed g c =
    let bytes = c.args.bytes.now in
    let at = c.in-Some.at in
    let within : at + 1 ≤ c.min-reach.result = omega (arith, c.in-Some.ensures.0.high, length-take c.min-reach.result bytes) in
    rw (c.split_at.ensures.front ∙ sym (take-take (at + 1) c.min-reach.result bytes within)) (one_feed c.args.self.now.line (take c.min-reach.result bytes) at c.in-Some.ensures)

pub resume_with-requires-clause-feed : goal.resume_with-requires-clause-feed
resume_with-requires-clause-feed g c = rw c.split_at-in-None.ensures.front (no_feed c.args.self.now.line _ c.in-None.ensures)

pub returns-then-resume_with-clause-steps : goal.returns-then-resume_with-clause-steps
returns-then-resume_with-clause-steps g c =
    let parts = c.split_at-in-None.ensures in
    let cut : c.args.bytes.now ≡ c.split_at-in-None.result.0.now ++ c.split_at-in-None.result.1.now = rw (parts.front, parts.back) (sym (take-append-drop c.min-reach.result c.args.bytes.now)) in
    let some : 0 < length c.split_at-in-None.result.0.now = omega (arith, parts.front_len, c.requires.short, ap (λ w. length w.line) c.self.view_is) in
    λ state is.
    let next = c.resume_with.ensures.fits c.if-resume_with.true _ _ state is in
    (next.0, next.1, record { part = c.split_at-in-None.result.0.now; cut = cut; some = some; takes = next.2 })

pub returns-else-resume_with-clause-steps : goal.returns-else-resume_with-clause-steps
returns-else-resume_with-clause-steps g c =
    let parts = c.split_at-in-None.ensures in
    let cut : c.args.bytes.now ≡ c.split_at-in-None.result.0.now ++ c.split_at-in-None.result.1.now = rw (parts.front, parts.back) (sym (take-append-drop c.min-reach.result c.args.bytes.now)) in
    rw cut (c.resume_with.ensures.too_long c.if-resume_with.false _ _ c.split_at-in-None.result.1.now)
