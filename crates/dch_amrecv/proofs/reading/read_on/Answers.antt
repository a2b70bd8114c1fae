use Rattle.std.proofs.Common.{◌≡◌, ◌-◌, ◌+◌, ◌∙◌, arith, ap, refl}
use Rattle.dch_amrecv.specs.Lines.{line, read_front}
use Rattle.dch_amrecv.proofs.Ordered.{front_first, same_more, same_none}
use Rattle.dch_am.specs.Contents.{body_in}
use Rattle.dch_amrecv.proofs.reading.read_on.Goals as goal

pub loop-done-init : goal.loop-done-init
loop-done-init c = (same_none c.args.todo c.args.window.now.ring c.args.trim c.args.units.now c.requires, refl)

pub returns-then-not-settled-clause-same : goal.returns-then-not-settled-clause-same
returns-then-not-settled-clause-same c = c.loop-done.invariant.0.same

pub returns-then-not-settled-clause-within : goal.returns-then-not-settled-clause-within
returns-then-not-settled-clause-within c = c.loop-done.invariant.0.within

pub returns-then-not-settled-clause-capacity : goal.returns-then-not-settled-clause-capacity
returns-then-not-settled-clause-capacity c = (c.loop-done.invariant.0.capacity, c.loop-done.invariant.1)

pub first-requires : goal.first-requires
first-requires c = front_first (c.args.todo - (c.loop-done.done + 1)) c.loop-done.window.ring.items (omega (arith, c.loop-done.invariant.0.within, c.loop-done-test.true))

pub loop-done-preserved : goal.loop-done-preserved
loop-done-preserved c =
    rw (c.leave.ensures, c.read.ensures)
    (same_more c.args.todo c.args.window.now.ring c.args.trim c.args.units.now c.loop-done.done c.loop-done.window.ring c.loop-done.next c.loop-done.units (body_in c.first.result) c.loop-done-test.true c.first.ensures.body c.loop-done.invariant.0, c.loop-done.invariant.1)

pub returns-clause-same : goal.returns-clause-same
returns-clause-same c =
    let none : 0 ≡ c.args.todo - c.loop-done.done = omega (arith, c.loop-done-test.false) in
    ap (λ k. read_front k (line c.loop-done.window.ring c.loop-done.next c.loop-done.units)) none ∙ c.loop-done.invariant.0.same

pub returns-clause-capacity : goal.returns-clause-capacity
returns-clause-capacity c = (c.loop-done.invariant.0.capacity, c.loop-done.invariant.1)
