use Rattle.std.proofs.Common.{◌∙◌, arith, sym, drop, length-drop}
use Rattle.dch_amrecv.proofs.Fronts.{is_kept-drop}
use Rattle.dch_amrecv.proofs.Finding.{found_first, found_kept, found_more, found_new, count_is, written_is}
use Rattle.dch_amrecv.proofs.missing_runs.write_missing_runs.Goals.{then-not-is_taken+then-continues, then-not-is_taken+else-continues, else-not-is_taken}
use Rattle.dch_amrecv.proofs.missing_runs.write_missing_runs.Goals as goal

pub loop-i-init : goal.loop-i-init
loop-i-init c = found_first (drop c.args.from c.args.ring.now.items) c.args.out.now c.requires.first (omega (arith, c.len.ensures.len, length-drop c.args.from c.args.ring.now.items, c.if-places-eq0.false))

pub loop-i-preserved : goal.loop-i-preserved
loop-i-preserved c = elim c.if-not-is_taken.branch [
  | then-not-is_taken+then-continues w ↦ rw (w.out-is, w.count-is, w.first-is, w.more-is) (found_more (drop c.args.from c.args.ring.now.items) c.args.out.now c.loop-i.out c.loop-i.i c.loop-i.count c.loop-i.first c.loop-i.more c.loop-i.invariant (omega (arith, c.loop-i-test.true, c.len.ensures.len, length-drop c.args.from c.args.ring.now.items)) (is_kept-drop c.args.from c.loop-i.i c.args.ring.now.items ∙ sym c.is_taken.ensures ∙ w.if-not-is_taken.true) (sym w.continues.ensures ∙ w.if-continues.true))
  | then-not-is_taken+else-continues w ↦ rw (w.out-is, w.count-is, w.first-is, w.more-is, w.write_missing_run.ensures) (found_new (drop c.args.from c.args.ring.now.items) c.args.out.now c.loop-i.out c.loop-i.i c.loop-i.count c.loop-i.first c.loop-i.more c.loop-i.invariant (omega (arith, c.loop-i-test.true, c.len.ensures.len, length-drop c.args.from c.args.ring.now.items)) (is_kept-drop c.args.from c.loop-i.i c.args.ring.now.items ∙ sym c.is_taken.ensures ∙ w.if-not-is_taken.true) (sym w.continues.ensures ∙ w.if-continues.false))
  | else-not-is_taken w ↦ rw (w.out-is, w.count-is, w.first-is, w.more-is) (found_kept (drop c.args.from c.args.ring.now.items) c.args.out.now c.loop-i.out c.loop-i.i c.loop-i.count c.loop-i.first c.loop-i.more c.loop-i.invariant (is_kept-drop c.args.from c.loop-i.i c.args.ring.now.items ∙ sym c.is_taken.ensures ∙ w.if-not-is_taken.false))
]

pub returns-clause-count : goal.returns-clause-count
returns-clause-count c = count_is (drop c.args.from c.args.ring.now.items) c.args.out.now c.loop-i.out c.loop-i.i c.loop-i.count c.loop-i.first c.loop-i.more c.loop-i.invariant (omega (arith, c.loop-i-test.false, c.len.ensures.len, length-drop c.args.from c.args.ring.now.items))

pub returns-clause-runs : goal.returns-clause-runs
returns-clause-runs c = c.write_missing_run-2.ensures ∙ written_is (drop c.args.from c.args.ring.now.items) c.args.out.now c.loop-i.out c.loop-i.i c.loop-i.count c.loop-i.first c.loop-i.more c.loop-i.invariant (omega (arith, c.loop-i-test.false, c.len.ensures.len, length-drop c.args.from c.args.ring.now.items))
