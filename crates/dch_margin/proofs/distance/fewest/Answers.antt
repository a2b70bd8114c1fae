use Rattle.std.proofs.Common.{◌≡◌, ℕ, length, arith, subst}
use Rattle.dch_trellis.specs.Distance.{copies_at}
use Rattle.dch_margin.proofs.Plain.{IsFewest, fewest_differ, fewest_first, fewest_more}
use Rattle.dch_margin.proofs.distance.fewest.Goals as goal

pub loop-k-init : goal.loop-k-init
loop-k-init c = fewest_first (copies_at c.args.votes.now) c.cells_of-fewest.result c.cells_of-fewest.ensures

pub loop-k-preserved : goal.loop-k-preserved
loop-k-preserved c = fewest_more (copies_at c.args.votes.now) c.loop-k.k c.loop-k.fewest c.cells_of.result c.min-fewest.result c.cells_of.ensures c.min-fewest.ensures c.loop-k.invariant

pub returns : goal.returns
returns c =
    let end : c.loop-k.k ≡ length c.args.votes.now = omega arith in
    fewest_differ (copies_at c.args.votes.now) (length c.args.votes.now) c.loop-k.fewest (subst (λ (k : ℕ). IsFewest (copies_at c.args.votes.now) k c.loop-k.fewest) end c.loop-k.invariant)
