use Rattle.std.proofs.Common.{◌+◌, ◌≤◌, ℕ, length, arith}
use Rattle.dch_iub.specs.Shape.{sum_before}
use Rattle.dch_iub.proofs.Sums.{sum_before-next, sum_before-up}
use Rattle.dch_iub.proofs.judge.read_numbers.Goals as goal

pub read_number-requires-clause-inside : goal.read_number-requires-clause-inside
read_number-requires-clause-inside c =
    let side = c.args.side.now in
    let i : ℕ = c.loop-i.i in
    let next = sum_before-next side c.args.set (λ j. 1) i in
    let up : sum_before side c.args.set (λ j. 1) (i + 1) ≤ sum_before side c.args.set (λ j. 1) (length side.channels) =
    sum_before-up side c.args.set (λ j. 1) (i + 1) (length side.channels) (omega arith) in
    omega (arith, next, up, c.loop-i.invariant.place, c.requires.sound.there.whole)
