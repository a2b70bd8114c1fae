use Rattle.std.proofs.Common.{◌≡◌, ◌≢◌, ◌<◌, ◌∙◌, ℕ, length, arith, ap, below_more, get_or-set_other, get_or-set_same}
use Rattle.std.specs.Prelude.{slice_index, slice_set}
use Rattle.std.proofs.Math.ListN.{length-set}
use Rattle.dch_accept.specs.Blocks.{Held}
use Rattle.dch_accept.specs.HeldSets.{held_at}
use Rattle.dch_iub.proofs.shape.numbers_of.Goals as goal

pub loop-i-preserved : goal.loop-i-preserved
loop-i-preserved c =
    let i : ℕ = c.loop-i.i in
    let room : i < length c.loop-i.numbers = omega (arith, c.loop-i.invariant.long, c.requires.side.few) in record {
      long = rw length-set c.loop-i.invariant.long;
      known = below_more (λ j. slice_index (slice_set c.loop-i.numbers i c.format.result) j ≡ (held_at c.args.blocks.now.blocks j).format) i
          (λ j early. let other : j ≢ i = omega arith in rw get_or-set_other (c.loop-i.invariant.known j early))
          (rw get_or-set_same (c.format.ensures ∙ ap (λ (h : Held). h.format) c.channel.ensures));
    }
