use Rattle.std.proofs.Common.{◌≡◌, ◌+◌, ◌*◌, ◌/◌, ◌%◌, ℕ, get_or, ap, arith}
use Rattle.std.proofs.lemmas.List.{length-set}
use Rattle.dch_trellis.proofs.Pairs.{pair_more}
use Rattle.dch_trellis.proofs.narrow.places_of.Goals as goal

pub loop-i-preserved : goal.loop-i-preserved
loop-i-preserved c =
    let i : ℕ = c.loop-i.i in
    let half : 2 * i / 2 ≡ i = omega arith in
    let other : (2 * i + 1) / 2 ≡ i = omega arith in
    record {
      long = simp length-set c.loop-i.invariant.long;
      placed = pair_more (λ s. 2 * get_or c.args.classes.now (s / 2) 0 + s % 2) c.loop-i.places i _ _ (omega (arith, c.loop-i.invariant.long))
          (omega (arith, ap (λ n. get_or c.args.classes.now n 0) half))
          (omega (arith, ap (λ n. get_or c.args.classes.now n 0) other))
          c.loop-i.invariant.placed;
    }
