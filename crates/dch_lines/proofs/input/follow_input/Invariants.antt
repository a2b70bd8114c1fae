use Rattle.std.proofs.Common.{◌-◌, ◌≤◌, length}
use Rattle.std.specs.Prelude.{slice_range}
use Rattle.dch_io.specs.Ends.{end_of}
use Rattle.dch_io.specs.Pieces.{LIMIT}
use Rattle.dch_script.specs.Code.{longest}
use Rattle.dch_lines.specs.Pieces.{Going}
use Rattle.dch_lines.specs.Processor.{LeadsOn}
use Rattle.dch_lines.proofs.input.follow_input.Given as goal

abbrev pub invariant-pieces : goal.invariant-pieces
invariant-pieces g l = record {
  going : LeadsOn g.C.LineHandler.represents l.fn.processor l.processor (λ old new. Going g.C.LineHandler.semantics (end_of g.S.Source.left g.S.Source.faults l.fn.source l.source) (end_of g.K.Sink.taken g.K.Sink.faults l.fn.sink l.sink) old new (slice_range l.fn.piece l.fn.pending.from l.fn.pending.to));
  short : length l.processor.line ≤ longest;
}

abbrev pub decreases-pieces : goal.decreases-pieces
decreases-pieces g l = LIMIT - l.processor.bytes
