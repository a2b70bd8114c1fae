use Rattle.std.proofs.Common.{◌≤◌, ◌∙◌, ℕ, List, [], ap, arith, get_or, length, subst, sym}
use Rattle.circular_buffer.specs.Buffer.{Buffer}
use Rattle.dch_txbuf.proofs.Sdus.{few_sdus, length-sdus, small_at}
use Rattle.dch_txbuf.proofs.store.SduBuffer.len.Goals as goal

pub returns-clause-count : goal.returns-clause-count
returns-clause-count c = c.len.ensures.len ∙ (sym (length-sdus c.self.inside.sdus.items c.self.inside.row.items) ∙ ap (λ (b : Buffer (List ℕ)). length b.items) c.self.view_is)

pub returns-clause-few : goal.returns-clause-few
returns-clause-few c = omega (arith, c.len.ensures.len, few_sdus c.self.inside.sdus.items c.self.invariant.sized, c.self.invariant.filled, c.self.invariant.fits, c.self.invariant.few)

pub returns-clause-sized : goal.returns-clause-sized
returns-clause-sized c = λ i. subst (λ (b : Buffer (List ℕ)). length (get_or b.items i []) ≤ 1500) c.self.view_is (small_at c.self.inside.sdus.items c.self.inside.row.items i c.self.invariant.sized)
