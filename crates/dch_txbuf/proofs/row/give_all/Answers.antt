use Rattle.std.proofs.Common.{◌≡◌, ◌∷◌, ℕ, List, ap, arith, drop, length, subst, sym}
use Rattle.circular_buffer.specs.Buffer.{Buffer}
use Rattle.dch_txbuf.specs.Rows.{IsRow}
use Rattle.dch_txbuf.proofs.Rows.{front, got_none, popped}
use Rattle.dch_txbuf.proofs.row.give_all.Goals as goal
use Rattle.dch_txbuf.proofs.row.give_all.Goals.{in-Some, in_default}

pub give-requires : goal.give-requires
give-requires c = (subst (λ ns. IsRow c.loop.pool ns c.loop.blocks.capacity) (front c.loop.blocks.items c.in-Some.block c.in-Some.ensures.value) c.loop.invariant.0).lent.0

pub loop-preserved : goal.loop-preserved
loop-preserved c = elim c.match-pop_front.branch [
  | in-Some w ↦
      let e : c.loop.blocks.items ≡ w.in-Some.block ∷ drop 1 c.loop.blocks.items = front c.loop.blocks.items w.in-Some.block w.in-Some.ensures.value in
      let p = popped c.loop.pool w.give.new.self w.in-Some.block (drop 1 c.loop.blocks.items) c.loop.blocks.capacity (subst (λ ns. IsRow c.loop.pool ns c.loop.blocks.capacity) e c.loop.invariant.0) w.give.ensures in (
        subst (λ q. IsRow q c.pop_front.new.self.items c.pop_front.new.self.capacity) (sym w.pool-is) (subst (λ (b : Buffer ℕ). IsRow w.give.new.self b.items b.capacity) (sym c.pop_front.ensures.items) p.row),
        omega (arith, ap (λ (ns : List ℕ). length ns) e, ap (λ (b : Buffer ℕ). length b.items) c.pop_front.ensures.items, c.loop.invariant.1),
      )
  | in_default w ↦ absurd (omega (arith, got_none c.loop.blocks.items 0 w.in_default.ensures.value, c.loop.invariant.1))
]
