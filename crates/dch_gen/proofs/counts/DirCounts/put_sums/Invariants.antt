use Rattle.std.proofs.Common.{◌≡◌, ◌≤◌, ◌+◌, ◌*◌, ◌++◌, length, slice_index}
use Rattle.dch_gen.specs.Summary.{sum_lines}
use Rattle.dch_gen.proofs.counts.DirCounts.put_sums.Given as goal

abbrev pub invariant-loop-b : goal.invariant-loop-b
invariant-loop-b l = record {
  text : l.report.text ≡ l.initial.report.text ++ sum_lines l.dir (λ b. slice_index l.self.took b) (λ b. slice_index l.self.got b) l.b;
  most : l.report.most ≡ l.initial.report.most;
  few : length l.report.text ≤ length l.initial.report.text + 100 * l.b;
}
