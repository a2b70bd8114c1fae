use Rattle.std.proofs.Common.{◌≡◌, ◌+◌, ◌-◌, ◌*◌, ◌≤◌, ℕ, List, length, take, drop, arith, ap, sym, ◌∙◌, length-take, length-drop}
use Rattle.std.proofs.Math.Nat.{mul-le-mul_left}
use Rattle.dch_bits.specs.declared.bit.Bit.{Bit}
use Rattle.dch_types.specs.Lengths.{crc_size}
use Rattle.dch_coding.specs.Ttis.{part}
use Rattle.dch_coding.proofs.Parts.{parts_more}
use Rattle.dch_coding.proofs.tti.attach_each.Goals as goal

pub loop-i-preserved : goal.loop-i-preserved
loop-i-preserved c =
    let i : ℕ = c.loop-i.i in
    let size : ℕ = c.args.format.now.size in
    let number : ℕ = c.args.format.now.number in
    let w : ℕ = c.from-size.result + c.size.result in
    let out : List Bit = c.loop-i.out in
    let block : ℕ → List Bit = λ n. take (i * n + n - i * n) (drop (i * n) c.args.blocks.now) in
    let read : c.from-size.result ≡ size = omega arith in
    let is : w ≡ size + crc_size c.args.kind = omega arith in
    let times : w * (i + 1) ≤ w * number = mul-le-mul_left w (omega arith) in
    let whole : length out ≡ number * w = c.loop-i.auto.out ∙ c.requires.room ∙ ap (λ n. number * n) (sym is) in
    let width : i * size + size - i * size ≡ size = omega arith in
    let same : block c.from-size.result ≡ part i size c.args.blocks.now = ap block read ∙ ap (λ n. take n (drop (i * size) c.args.blocks.now)) width in
    let long : length c.attach.new.out ≡ w = omega (arith, c.attach.auto.out, whole, times, length-take (i * w + w - i * w) (drop (i * w) out), length-drop (i * w) out) in
    parts_more c.args.kind size w i (i * w + w - i * w) _ c.args.blocks.now out c.attach.new.out is c.loop-i.invariant same c.attach.ensures (omega (arith, times, whole)) long
