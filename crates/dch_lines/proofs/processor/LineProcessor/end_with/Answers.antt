use Rattle.std.proofs.Common.{ap}
use Rattle.dch_lines.specs.Processor.{standing}
use Rattle.dch_lines.proofs.Steps.{part_ended}
use Rattle.dch_lines.proofs.processor.LineProcessor.end_with.Goals as goal

pub returns-clause-follows : goal.returns-clause-follows
returns-clause-follows g c = λ state is.
    let here : g.C.LineHandler.represents state c.hold.new.self.handler = rw c.hold.ensures is in
    let ended = c.end_line.ensures.ended state here in
    (ended.0, ended.1, part_ended g.C.LineHandler.semantics _ (standing state c.args.self.now) (standing state c.hold.new.self) (standing ended.0 c.end_line.new.self) c.args.part.now c.end_line.result c.requires.feed (ap (λ p. standing state p) c.hold.ensures) ended.2)
