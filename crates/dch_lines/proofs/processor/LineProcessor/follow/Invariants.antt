use Rattle.std.proofs.Common.{◌≡◌, ◌+◌, ◌≤◌, length}
use Rattle.dch_io.specs.Ends.{end_of}
use Rattle.dch_script.specs.Code.{longest}
use Rattle.dch_lines.specs.Processor.{LeadsOn}
use Rattle.dch_lines.proofs.Parts.{Followed}
use Rattle.dch_lines.proofs.processor.LineProcessor.follow.Given as goal

abbrev pub invariant-loop-remaining : goal.invariant-loop-remaining
invariant-loop-remaining g l = record {
  followed : LeadsOn g.C.LineHandler.represents l.initial.self l.self (λ old new. Followed g.C.LineHandler.semantics (end_of g.K.Sink.taken g.K.Sink.faults l.initial.sink l.sink) old new l.bytes l.remaining);
  counted : l.self.bytes + length l.remaining ≡ l.initial.self.bytes + length l.bytes;
  short : length l.self.line ≤ longest;
  later : g.K.Sink.faults l.initial.sink ≤ g.K.Sink.faults l.sink;
}

abbrev pub decreases-loop-remaining : goal.decreases-loop-remaining
decreases-loop-remaining g l = length l.remaining
