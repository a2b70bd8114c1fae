use Rattle.std.proofs.Common.{◌∙◌, ℕ, length, refl, arith}
use Rattle.dch_trellis.specs.Nearest.{IsBlock}
use Rattle.dch_trellis.proofs.Decided.{found-decided, best-decided}
use Rattle.dch_trellis.proofs.inverse.nearest.Goals as goal

pub returns-then-is_filled-clause-found : goal.returns-then-is_filled-clause-found
returns-then-is_filled-clause-found c = λ some.
    let size : ℕ = length c.args.out.now in
    let shape : IsBlock size c.args.filler c.read.new.block = record { sized = omega arith; filled = c.if-is_filled.ensures.0 refl } in
    found-decided c.args.rate c.args.votes.now size c.args.filler c.read.new.block c.requires.coded shape (c.if-read.ensures.decided.0 refl)

pub returns-then-is_filled-clause-cost : goal.returns-then-is_filled-clause-cost
returns-then-is_filled-clause-cost c =
    let size : ℕ = length c.args.out.now in
    let shape : IsBlock size c.args.filler c.read.new.block = record { sized = omega arith; filled = c.if-is_filled.ensures.0 refl } in
    c.fewest_of.ensures ∙ best-decided c.args.rate c.args.votes.now size c.args.filler c.read.new.block c.requires.coded shape (c.if-read.ensures.decided.0 refl)
