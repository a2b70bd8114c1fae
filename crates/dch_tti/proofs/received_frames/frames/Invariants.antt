use Rattle.dch_tti.specs.RxFrames.{AreMissing}
use Rattle.dch_tti.proofs.received_frames.frames.Given as goal

abbrev pub invariant-loop-n : goal.invariant-loop-n
invariant-loop-n l = AreMissing l.room l._n l.frames.items
