use Rattle.std.proofs.Common.{◌≡◌, ◌+◌, ◌-◌, ◌*◌, ◌/◌, ◌≤◌, ℕ, List, length, arith, refl, ◌∙◌}
use Rattle.std.proofs.Math.Nat.{mul-le-mul_left}
use Rattle.dch_bits.specs.declared.bit.Trit.{Trit}
use Rattle.dch_frame.proofs.Codes.{length_code}
use Rattle.dch_tti.proofs.Segments.{tti_more, whole_rows}
use Rattle.dch_tti.proofs.tti_buffer.interleave.Goals as goal

pub loop-n-preserved : goal.loop-n-preserved
loop-n-preserved c =
    let f : ℕ = c.args.frames in
    let n : ℕ = c.loop-n.n in
    let len : ℕ = length c.args.tti.now in
    let rows : ℕ = len / f in
    let out : List Trit = c.loop-n.out in
    let whole : length out ≡ rows * f = c.loop-n.auto.out ∙ c.requires.room ∙ whole_rows f len (omega arith) c.requires.whole in
    let times : rows * (n + 1) ≤ rows * f = mul-le-mul_left rows (omega arith) in
    let room : n * rows + rows ≤ length out = omega (arith, whole, times) in
    let long : length c.segment.new.out ≡ rows = c.segment.auto.out ∙ length_code out (n * rows) rows room in
    tti_more f rows n (n * rows + rows - n * rows) len c.args.tti.now out c.segment.new.out refl room long (λ m inside. c.segment.ensures m _ inside) c.loop-n.invariant
