use Rattle.std.proofs.Common.{◌≡◌, ◌%◌, ◌==◌, ◌&&◌, false, refl, ◌∙◌, sym, arith}
use Rattle.std.proofs.lemmas.Bool.{ne_eqb}
use Rattle.dch_frame.proofs.Turns.{divisor_found, divisor_missed}
use Rattle.dch_frame.proofs.shifts.common_divisor.Goals as goal
use Rattle.dch_frame.proofs.shifts.common_divisor.Goals.{else-frames-divisor-eq0-via-then-frames-divisor-eq0+else-a-divisor-eq0, else-frames-divisor-eq0-via-else-frames-divisor-eq0}

pub returns-then-a-divisor-eq0 : goal.returns-then-a-divisor-eq0
returns-then-a-divisor-eq0 c =
    sym (divisor_found c.args.a c.args.frames c.loop-divisor.divisor (omega (arith, c.loop-divisor-test.true)) c.if-frames-divisor-eq0.true c.if-a-divisor-eq0.true) ∙ c.loop-divisor.invariant

pub loop-divisor-preserved : goal.loop-divisor-preserved
loop-divisor-preserved c =
    let missed : (c.args.frames % c.loop-divisor.divisor == 0 && c.args.a % c.loop-divisor.divisor == 0) ≡ false =
    elim c.else-frames-divisor-eq0.branch [
      | else-frames-divisor-eq0-via-then-frames-divisor-eq0+else-a-divisor-eq0 w ↦ rw (w.if-frames-divisor-eq0.true, ne_eqb (c.args.a % c.loop-divisor.divisor) 0 w.if-a-divisor-eq0.false) refl
      | else-frames-divisor-eq0-via-else-frames-divisor-eq0 w ↦ rw (ne_eqb (c.args.frames % c.loop-divisor.divisor) 0 w.if-frames-divisor-eq0.false) refl
    ]
    in sym (divisor_missed c.args.a c.args.frames c.loop-divisor.divisor (omega (arith, c.loop-divisor-test.true)) missed) ∙ c.loop-divisor.invariant
