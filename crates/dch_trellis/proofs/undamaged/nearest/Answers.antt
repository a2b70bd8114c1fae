use Rattle.std.proofs.Common.{◌≡◌, ℕ, get_or, length, sym, subst, ◌∙◌, refl, arith}
use Rattle.dch_trellis.specs.Undamaged.{CostsFewest}
use Rattle.dch_trellis.proofs.Lead.{found-led, best-led}
use Rattle.dch_trellis.proofs.undamaged.nearest.Goals as goal

pub returns-then-fits_tail-clause-found : goal.returns-then-fits_tail-clause-found
returns-then-fits_tail-clause-found c = λ some.
    let size : ℕ = length c.args.out.now in
    let same : length c.walk-front.new.out ≡ size = omega arith in
    let Costs : ℕ → Type 0 = λ n. CostsFewest c.args.rate c.args.votes.now n n (get_or c.walk-front.new.states n 0) in
    found-led c.args.rate c.args.votes.now size c.args.filler (get_or c.walk-front.new.states size 0) c.walk-front.new.out c.requires.coded same (c.walk-front.ensures.leads size (omega arith)) (subst Costs same (c.if-fits_tail.ensures refl))

pub returns-then-fits_tail-clause-cost : goal.returns-then-fits_tail-clause-cost
returns-then-fits_tail-clause-cost c =
    let size : ℕ = length c.args.out.now in
    let same : length c.walk-front.new.out ≡ size = omega arith in
    let Costs : ℕ → Type 0 = λ n. CostsFewest c.args.rate c.args.votes.now n n (get_or c.walk-front.new.states n 0) in
    c.fewest_of.ensures ∙ sym (best-led c.args.rate c.args.votes.now size c.args.filler (get_or c.walk-front.new.states size 0) c.walk-front.new.out c.requires.coded (c.walk-front.ensures.leads size (omega arith)) (subst Costs same (c.if-fits_tail.ensures refl)))
