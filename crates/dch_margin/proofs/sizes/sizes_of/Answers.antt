use Rattle.std.proofs.Common.{◌≡◌, ap, ap₂, ◌∙◌, ℕ}
use Rattle.dch_types.specs.declared.channel.Coding.{Coding}
use Rattle.dch_types.specs.declared.channel.Format.{Format}
use Rattle.dch_types.specs.declared.channel.Trch.{Trch}
use Rattle.dch_types.specs.Lengths.{joined_bits, padded, tti_bits}
use Rattle.dch_types.specs.Parts.{channel_at, format_at}
use Rattle.dch_coding.specs.Segments.{plan_of}
use Rattle.dch_margin.proofs.Plans.{sizes_are}
use Rattle.dch_margin.proofs.sizes.sizes_of.Goals as goal

pub returns : goal.returns
returns c =
    let channel : c.channel-channel.result.now ≡ channel_at c.args.side.now c.args.i = c.channel-channel.ensures.value ∙ ap (channel_at c.args.side.now) c.from.ensures in
    let format : c.format-format.result.now ≡ format_at (channel_at c.args.side.now c.args.i) c.args.f = c.format-format.ensures.value ∙ ap₂ (λ (t : Trch) (f : ℕ). format_at t f) channel c.from-2.ensures in
    let coding : c.channel-channel.result.now.coding ≡ (channel_at c.args.side.now c.args.i).coding = ap (λ (t : Trch). t.coding) channel in
    sizes_are c.args.side.now c.args.i c.args.f _ c.requires.good c.requires.channel c.requires.format
    coding
    (c.plan.ensures.value ∙ ap₂ (λ (x : ℕ) (coding : Coding). plan_of x coding) (c.joined_bits-joined.ensures.value ∙ ap₂ (λ (t : Trch) (g : Format). joined_bits t g) channel format) coding)
    (c.tti_bits-bits.ensures ∙ ap₂ (λ (t : Trch) (g : Format). tti_bits t g) channel format)
    (c.equalise.ensures.value ∙ ap₂ (λ (b f : ℕ). padded b f) (c.tti_bits-bits.ensures ∙ ap₂ (λ (t : Trch) (g : Format). tti_bits t g) channel format) (c.from-3.ensures ∙ ap (λ (t : Trch). t.frames) channel))
