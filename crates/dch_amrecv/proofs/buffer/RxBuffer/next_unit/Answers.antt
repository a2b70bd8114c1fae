use Rattle.std.proofs.Common.{◌∙◌, ap, ap₂, sym}
use Rattle.dch_sar.specs.Taking.{handed_of, written}
use Rattle.dch_amrecv.specs.Lines.{handed, line, read_front}
use Rattle.dch_amrecv.proofs.Ordered.{answer_same, handed_same, written_same}
use Rattle.dch_amrecv.proofs.buffer.RxBuffer.next_unit.Goals as goal

pub returns-clause-answer : goal.returns-clause-answer
returns-clause-answer c =
    c.next_unit-handed.ensures.answer
    ∙ (sym (answer_same c.self.inside.todo c.self.inside.window.ring c.self.inside.trim c.self.inside.units c.self.invariant.1)
    ∙ ap (λ k. handed_of k.kept.units.waiting) c.self.view_is)

pub returns-clause-unit : goal.returns-clause-unit
returns-clause-unit c =
    c.next_unit-handed.ensures.unit
    ∙ (sym (written_same c.self.inside.todo c.self.inside.window.ring c.self.inside.trim c.self.inside.units c.args.out.now c.self.invariant.1)
    ∙ ap (λ k. written k.kept.units.waiting c.args.out.now) c.self.view_is)

pub returns-clause-rest : goal.returns-clause-rest
returns-clause-rest c =
    ap₂ (λ k n. record { kept = k; pdu = n })
    (c.read_on-todo.ensures.same
    ∙ (ap (λ u. read_front c.self.inside.todo (line c.self.inside.window.ring c.self.inside.trim u)) c.next_unit-handed.ensures.rest
    ∙ (handed_same c.self.inside.todo c.self.inside.window.ring c.self.inside.trim c.self.inside.units c.self.invariant.1
    ∙ ap (λ r. handed r.kept) c.self.view_is)))
    (c.read_on-todo.ensures.capacity.1 ∙ ap (λ r. r.pdu) c.self.view_is)
