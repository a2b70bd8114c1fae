use Rattle.std.proofs.Common.{◌≡◌, ap, ap₂, ◌∙◌, sym, arith, max}
use Rattle.dch_types.specs.Lengths.{tti_bits}
use Rattle.dch_types.specs.Parts.{format_at}
use Rattle.dch_frame.proofs.Greatest.{ord_max-is, most-zero, most-more}
use Rattle.dch_frame.proofs.fixed.most_of.Goals as goal

pub loop-f-init : goal.loop-f-init
loop-f-init c = (sym (most-zero c.args.channel.now), omega arith)

pub loop-f-preserved : goal.loop-f-preserved
loop-f-preserved c =
    let bits : c.tti_bits.result ≡ tti_bits c.args.channel.now (format_at c.args.channel.now c.loop-f.f) = c.tti_bits.ensures ∙ ap (tti_bits c.args.channel.now) c.format.ensures.value in
    let greater = c.max-most.ensures ∙ ord_max-is c.loop-f.most c.tti_bits.result in
    (greater ∙ ap₂ max c.loop-f.invariant.0 bits ∙ sym (most-more c.args.channel.now c.loop-f.f), omega (arith, greater, bits, (c.requires.formats c.loop-f.f (omega arith)).bits, c.loop-f.invariant.1))
