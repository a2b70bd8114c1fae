use Rattle.std.proofs.Common.{◌≡◌, ◌<◌, ◌+◌, ◌*◌, ◌∙◌, ℕ, length, arith, ap}
use Rattle.dch_gen.specs.Units.{bit_at, bit_of, number_of}
use Rattle.dch_gen.proofs.Filling.{filled_next}
use Rattle.dch_gen.proofs.units.fill_bits.Goals as goal

pub loop-j-preserved : goal.loop-j-preserved
loop-j-preserved c =
    let j : ℕ = c.loop-j.j in
    let within : j < length c.loop-j.bits = omega arith in
    let sum : 3 * c.args.frame + 5 * c.from.result + c.dir_number.result + j ≡ 3 * c.args.frame + 5 * c.args.bearer + number_of c.args.dir + j = omega (arith, c.from.ensures, c.dir_number.ensures.value) in
    filled_next (bit_at c.args.frame c.args.dir c.args.bearer) c.loop-j.bits j c.bit_of.result within c.loop-j.invariant (c.bit_of.ensures ∙ ap bit_of sum)
