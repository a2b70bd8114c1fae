use Rattle.std.proofs.Common.{◌≡◌, ◌<◌, ◌+◌, ◌*◌, ◌%◌, ℕ, length, arith, ap}
use Rattle.dch_gen.specs.Units.{number_of, octet_at}
use Rattle.dch_gen.proofs.Filling.{filled_next}
use Rattle.dch_gen.proofs.units.fill_octets.Goals as goal

pub loop-j-preserved : goal.loop-j-preserved
loop-j-preserved c =
    let j : ℕ = c.loop-j.j in
    let within : j < length c.loop-j.octets = omega arith in
    let sum : 7 * c.args.frame + 31 * c.from.result + 101 * c.dir_number.result + 13 * j ≡ 7 * c.args.frame + 31 * c.args.bearer + 101 * number_of c.args.dir + 13 * j = omega (arith, c.from.ensures, c.dir_number.ensures.value) in
    filled_next (octet_at c.args.frame c.args.dir c.args.bearer) c.loop-j.octets j ((7 * c.args.frame + 31 * c.from.result + 101 * c.dir_number.result + 13 * j) % 256) within c.loop-j.invariant (ap (λ n. n % 256) sum)
