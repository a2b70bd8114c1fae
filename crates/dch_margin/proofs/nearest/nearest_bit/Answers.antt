use Rattle.std.proofs.Common.{◌∙◌, ℕ, List, ap, arith, length, sym}
use Rattle.std.specs.Prelude.{replicate}
use Rattle.std.proofs.Math.ListN.{set}
use Rattle.dch_bits.specs.declared.bit.Bit.{Bit}
use Rattle.dch_bits.specs.declared.bit.Bit.TheVariants.{Zero, One}
use Rattle.dch_trellis.specs.Distance.{copies_at}
use Rattle.dch_margin.proofs.Plain.{one_bit, some_bit}
use Rattle.dch_margin.proofs.nearest.nearest_bit.Goals as goal

pub unreachable-requires : goal.unreachable-requires
unreachable-requires c = some_bit (copies_at c.args.votes.now) (length c.args.block.now) c.args.least c.loop-k.k (omega arith) c.requires.least c.loop-k.invariant

pub returns-then-cells_of-least : goal.returns-then-cells_of-least
returns-then-cells_of-least c =
    one_bit (copies_at c.args.votes.now) (length c.args.block.now) c.loop-k.k c.args.least (set c.zero.new.block c.loop-k.k One) (omega arith) (sym c.cells_of.ensures ∙ c.if-cells_of-least.true)
    (ap (λ (n : ℕ). set (replicate n Zero) c.loop-k.k One) (sym c.loop-k.auto.block) ∙ ap (λ (bits : List Bit). set bits c.loop-k.k One) (sym c.zero.ensures))
