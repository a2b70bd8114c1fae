use Rattle.std.proofs.Common.{arith}
use Rattle.dch_check.proofs.FrameWords.{frame_named, no_number, other_number}
use Rattle.dch_check.proofs.both.read_frame.Goals as goal

pub returns-in-Some-clause-some : goal.returns-in-Some-clause-some
returns-in-Some-clause-some c = frame_named c.args.word.now c.in-Some.frame c.in-Some.ensures.value c.if-frame-ge8.true c.if-frame-eq0.true

pub returns-in-Some-2-clause-none : goal.returns-in-Some-2-clause-none
returns-in-Some-2-clause-none c = other_number c.args.word.now c.in-Some.frame c.in-Some.ensures.value (λ least whole. c.if-frame-eq0.false whole)

pub returns-in-Some-2-2-clause-none : goal.returns-in-Some-2-2-clause-none
returns-in-Some-2-2-clause-none c = other_number c.args.word.now c.in-Some.frame c.in-Some.ensures.value (λ least whole. omega (arith, least, c.if-frame-ge8.false))

pub returns-in-Some-2-3-clause-none : goal.returns-in-Some-2-3-clause-none
returns-in-Some-2-3-clause-none c = no_number c.args.word.now c.in-Some-2.ensures.value
