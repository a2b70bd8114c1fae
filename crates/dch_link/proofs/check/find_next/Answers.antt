use Rattle.std.proofs.Common.{◌∙◌, arith, sym, refl, inl, inr}
use Rattle.dch_link.proofs.Sublists.{other_bits, same_bits}
use Rattle.dch_link.proofs.check.find_next.Goals.{else-i-count-via-then-i-count+else-eq, else-i-count-via-else-i-count}
use Rattle.dch_link.proofs.check.find_next.Goals as goal

pub returns-then-eq-clause-next : goal.returns-then-eq-clause-next
returns-then-eq-clause-next c =
    inl (omega (arith, c.if-i-count.true, c.count.ensures), sym c.block.ensures.value ∙ same_bits c.block.result.now c.args.block.now (sym c.eq.ensures ∙ c.if-eq.true), c.next_good.ensures)

pub returns-else-i-count-clause-next : goal.returns-else-i-count-clause-next
returns-else-i-count-clause-next c = elim c.else-i-count.branch [
  | else-i-count-via-then-i-count+else-eq w ↦ inr (λ early. (let other = other_bits w.block.result.now c.args.block.now (sym w.eq.ensures ∙ w.if-eq.false) in λ same. other (w.block.ensures.value ∙ same)), refl)
  | else-i-count-via-else-i-count w ↦ inr (λ early. absurd (omega (arith, early, w.if-i-count.false, c.count.ensures)), refl)
]
