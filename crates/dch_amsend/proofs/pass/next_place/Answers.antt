use Rattle.std.proofs.Common.{ap, arith, drop}
use Rattle.dch_retx.specs.Flights.{first_requested}
use Rattle.dch_retx.specs.RetxBuffer.{RetxBuffer}
use Rattle.dch_amsend.proofs.Passing.{found_behind}
use Rattle.dch_amsend.proofs.pass.next_place.Goals as goal

pub returns-clause-same : goal.returns-clause-same
returns-clause-same c =
    found_behind c.args.rules.now c.args.held.now c.args.place c.requested_place.result c.args.outgoing.now.line.in_flight c.args.scan.now c.requested_place.ensures.from
    (λ some. omega (arith, c.requested_place.ensures.before some, ap (λ (l : RetxBuffer). first_requested (drop c.args.place l.in_flight)) c.line.ensures))
    c.if-scan.false
    (λ i above. c.is_next_old.ensures.behind c.if-is_next_old.false i (omega (arith, above, c.requires.sdu)))
