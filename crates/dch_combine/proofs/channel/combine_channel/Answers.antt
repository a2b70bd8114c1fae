use Rattle.std.proofs.Common.{◌≡◌, ◌∙◌, ℕ, ap, sym, arith}
use Rattle.dch_accept.specs.Blocks.{Held}
use Rattle.dch_accept.specs.HeldSets.{held_at}
use Rattle.dch_combine.specs.declared.leg.LegBuffer.{LegBuffer}
use Rattle.dch_combine.specs.Legs.{blocks_in}
use Rattle.dch_combine.specs.Values.{frames_in, leg_at}
use Rattle.dch_combine.proofs.Combining.{held_in, leading_frame}
use Rattle.dch_combine.proofs.Frames.{blocks_here, leg_here}
use Rattle.dch_combine.proofs.channel.combine_channel.Goals as goal

pub returns-clause-combined : goal.returns-clause-combined
returns-clause-combined c =
    let legs = c.args.legs.now in
    let i : ℕ = c.args.channel in
    let lead : ℕ = c.leading-lead.result in
    let here : blocks_in (frames_in legs lead) i ≡ held_in legs lead i = blocks_here (leg_at legs lead).qe (leg_at legs lead).blocks i (leading_frame (frames_in legs) i lead c.leading-lead.ensures.leading) in
    let is : c.channel.result.now ≡ held_in legs lead i = c.channel.ensures ∙ ap (λ (leg : LegBuffer). held_at leg.blocks.blocks i) (leg_here legs lead c.index-legs-lead.result c.leading-lead.ensures.inside) in
    record {
      lead = lead;
      leading = c.leading-lead.ensures.leading;
      format = c.loop-b.invariant.shape.format ∙ (ap (λ (h : Held). h.format) c.shape.ensures ∙ (c.format-format.ensures ∙ ap (λ (h : Held). h.format) (is ∙ sym here)));
      blocks = λ b there. c.loop-b.invariant.combined b (omega (arith, there, c.loop-b.invariant.shape.count, c.count-b-end.ensures));
    }
