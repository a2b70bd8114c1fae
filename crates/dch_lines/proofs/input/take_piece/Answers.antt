use Rattle.std.proofs.Common.{ap}
use Rattle.dch_lines.specs.Processor.{standing}
use Rattle.dch_lines.proofs.Pieces.{fails_breaks, fault_answered, flush_breaks, flushed}
use Rattle.dch_lines.proofs.input.take_piece.Goals as goal

pub returns-in-Ok-flush-clause-taken : goal.returns-in-Ok-flush-clause-taken
returns-in-Ok-flush-clause-taken g c = λ state is.
    let so = c.in-Ok.ensures.follows state is in
    let here : g.C.LineHandler.represents so.0 c.flush.new.self.handler = rw c.flush.ensures.handler so.1 in
    (so.0, here, (flushed g.C.LineHandler.semantics _ _ _ _ _ _ (standing state c.args.processor.now) (standing so.0 c.follow.new.self) (standing so.0 c.flush.new.self) c.args.piece.now so.2 c.in-Ok-flush.ensures.ok (ap (λ p. standing so.0 p) c.in-Ok-flush.ensures.new), ap (λ w. w.text) c.in-Ok-flush.ensures.new))

pub returns-in-Err-clause-taken : goal.returns-in-Err-clause-taken
returns-in-Err-clause-taken g c = λ state is.
    let so = c.in-Ok.ensures.follows state is in
    let here : g.C.LineHandler.represents so.0 c.flush.new.self.handler = rw c.flush.ensures.handler so.1 in
    (so.0, here, flush_breaks g.C.LineHandler.semantics _ _ _ _ _ _ (standing state c.args.processor.now) (standing so.0 c.follow.new.self) c.args.piece.now c.follow.ensures.later so.2 c.in-Err.ensures.err)

pub returns-in-Err-Fault-clause-taken : goal.returns-in-Err-Fault-clause-taken
returns-in-Err-Fault-clause-taken g c =
    let follows = rw c.in-Err-Fault.field-0-is at c.in-Err-Fault.ensures.follows in
    λ state is.
    let so = follows state is in
    let here : g.C.LineHandler.represents so.0 c.answer_fault.new.processor.handler = rw c.answer_fault.ensures.handler so.1 in
    (so.0, here, fault_answered g.C.LineHandler.semantics _ _ _ _ _ _ (standing state c.args.processor.now) (standing so.0 c.follow.new.self) (standing so.0 c.answer_fault.new.processor) c.args.piece.now c.in-Err-Fault.fault c.answer_fault.result c.follow.ensures.later so.2 c.answer_fault.ensures.answers)

pub returns-in-Err-Failed-clause-taken : goal.returns-in-Err-Failed-clause-taken
returns-in-Err-Failed-clause-taken g c =
    let follows = rw c.in-Err-Failed.field-0-is at c.in-Err-Failed.ensures.follows in
    λ state is.
    let so = follows state is in
    (so.0, so.1, fails_breaks g.C.LineHandler.semantics _ (standing state c.args.processor.now) c.args.piece.now so.2)
