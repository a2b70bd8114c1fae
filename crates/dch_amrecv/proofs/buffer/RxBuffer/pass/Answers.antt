use Rattle.std.proofs.Common.{◌≡◌, ◌∙◌, Some, ap, ap₂, drop, arith}
use Rattle.std.specs.Prelude.{◌==◌, if◌then◌else◌}
use Rattle.circular_buffer.specs.Buffer.{buffer}
use Rattle.dch_amrecv.specs.Places.{front}
use Rattle.dch_amrecv.specs.Lines.{greater, line, passed, run_on}
use Rattle.dch_amrecv.proofs.Ordered.{drop_least, idle_is}
use Rattle.dch_amrecv.proofs.buffer.RxBuffer.pass.Goals as goal

idle : (c : goal.After-trim-1) → line c.self.inside.window.ring c.self.inside.trim c.self.inside.units ≡ c.args.self.now.kept
idle c = (idle_is c.self.inside.todo c.self.inside.window.ring c.self.inside.trim c.self.inside.units c.args.self.now.kept (ap (λ r. r.kept) c.self.view_is) c.self.invariant.1 c.requires.settled).1

left : (c : goal.After-trim-1) → c.leave.new.self.ring ≡ buffer (drop c.args.count c.self.inside.window.ring.items) c.self.inside.window.ring.capacity
left c = ap (λ w. w.ring) c.leave.ensures ∙ ap (λ xs. buffer xs c.self.inside.window.ring.capacity) (drop_least c.args.count c.min.result c.self.inside.window.ring.items (omega (arith, c.min.ensures, c.len.ensures.count)))

pub returns-clause-count : goal.returns-clause-count
returns-clause-count c = c.run_on-run.ensures.count ∙ (ap (λ b. front b.items) (left c) ∙ ap (λ k. front (drop c.args.count k.places)) (idle c))

pub returns-clause-after : goal.returns-clause-after
returns-clause-after c =
    ap₂ (λ k n. record { kept = k; pdu = n })
    (c.run_on-run.ensures.same
    ∙ (ap (λ b. run_on (line b (Some c.greater_trim-n.result) c.abandon.new.self)) (left c)
    ∙ (ap (λ n. run_on (line (buffer (drop c.args.count c.self.inside.window.ring.items) c.self.inside.window.ring.capacity) (Some n) c.abandon.new.self)) c.greater_trim-n.ensures
    ∙ (ap (λ u. run_on (line (buffer (drop c.args.count c.self.inside.window.ring.items) c.self.inside.window.ring.capacity) (Some (if c.args.count == 0 then greater c.self.inside.trim c.args.n else c.args.n)) u)) c.abandon.ensures
    ∙ ap (λ k. run_on (passed c.args.count c.args.n k)) (idle c)))))
    (c.run_on-run.ensures.capacity.1 ∙ (ap (λ w. w.pdu) c.leave.ensures ∙ ap (λ r. r.pdu) c.self.view_is))
