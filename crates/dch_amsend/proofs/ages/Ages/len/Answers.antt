use Rattle.std.proofs.Common.{◌∙◌, ℕ, ap, arith, length, sym}
use Rattle.circular_buffer.specs.Buffer.{Buffer}
use Rattle.dch_amsend.proofs.Aging.{length-ages}
use Rattle.dch_amsend.proofs.ages.Ages.len.Goals as goal

pub returns-clause-len : goal.returns-clause-len
returns-clause-len c = c.len.ensures.len ∙ (sym (length-ages c.self.inside.oldest c.self.inside.tick c.self.inside.kept.items) ∙ ap (λ (b : Buffer ℕ). length b.items) c.self.view_is)

pub returns-clause-within : goal.returns-clause-within
returns-clause-within c = let e = ap (λ (b : Buffer ℕ). b.capacity) c.self.view_is in (omega (arith, e, c.len.ensures.within.0), omega (arith, e, c.len.ensures.within.1))
