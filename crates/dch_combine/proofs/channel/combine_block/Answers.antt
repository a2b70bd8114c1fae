use Rattle.std.proofs.Common.{◌≡◌, ◌<◌, ◌∙◌, ℕ, ap, length, subst, sym, arith}
use Rattle.std.specs.Prelude.{unwrap_or}
use Rattle.dch_types.specs.Parts.{channel_at}
use Rattle.dch_accept.specs.Blocks.{Held, block_at}
use Rattle.dch_accept.specs.HeldSets.{held_at}
use Rattle.dch_combine.specs.declared.leg.LegBuffer.{LegBuffer}
use Rattle.dch_combine.specs.Combined.{IsCombinedBlock}
use Rattle.dch_combine.specs.Steps.{IsSameBlock}
use Rattle.dch_combine.specs.Values.{frames_in}
use Rattle.dch_combine.proofs.Blocks.{IsWritten, rewritten, written}
use Rattle.dch_combine.proofs.Combining.{IsSource, combined, held_in, source}
use Rattle.dch_combine.proofs.Frames.{leg_here}
use Rattle.dch_combine.proofs.channel.combine_block.Goals as goal

pub copy_from_slice-requires : goal.copy_from_slice-requires
copy_from_slice-requires c =
    let legs = c.args.legs.now in
    let i : ℕ = c.args.channel in
    let lead : ℕ = unwrap_or c.first_good_block-good.result c.args.lead in
    let from : IsSource legs i c.args.b lead c.args.tti.now = source legs (channel_at c.args.accepted.now.config.uplink.side i) i c.args.lead c.args.b c.format.result c.first_good_block-good.result c.args.tti.now c.requires.formats c.requires.tti c.requires.leading c.requires.lead c.requires.format c.requires.block c.format.ensures c.first_good_block-good.ensures.lowest c.first_good_block-good.ensures.inside in
    let inside : c.unwrap_or.result < length legs = omega (arith, from.inside, c.unwrap_or.ensures) in
    let is : c.channel.result.now ≡ held_in legs lead i = c.channel.ensures ∙ (ap (λ (leg : LegBuffer). held_at leg.blocks.blocks i) (leg_here legs c.unwrap_or.result c.index-legs-unwrap_or.result inside) ∙ ap (λ n. held_in legs n i) c.unwrap_or.ensures) in
    c.block_mut.ensures.long ∙ sym (c.block.ensures.long ∙ (ap (λ (h : Held). h.size) is ∙ from.size))

pub returns-clause-combined : goal.returns-clause-combined
returns-clause-combined c =
    let legs = c.args.legs.now in
    let i : ℕ = c.args.channel in
    let b : ℕ = c.args.b in
    let tti = c.args.tti.now in
    let lead : ℕ = unwrap_or c.first_good_block-good.result c.args.lead in
    let from : IsSource legs i b lead tti = source legs (channel_at c.args.accepted.now.config.uplink.side i) i c.args.lead b c.format.result c.first_good_block-good.result tti c.requires.formats c.requires.tti c.requires.leading c.requires.lead c.requires.format c.requires.block c.format.ensures c.first_good_block-good.ensures.lowest c.first_good_block-good.ensures.inside in
    let inside : c.unwrap_or.result < length legs = omega (arith, from.inside, c.unwrap_or.ensures) in
    let is : c.channel.result.now ≡ held_in legs lead i = c.channel.ensures ∙ (ap (λ (leg : LegBuffer). held_at leg.blocks.blocks i) (leg_here legs c.unwrap_or.result c.index-legs-unwrap_or.result inside) ∙ ap (λ n. held_in legs n i) c.unwrap_or.ensures) in
    let new : IsWritten b tti (rewritten tti b c.copy_from_slice.new.self c.is_some.result) c.copy_from_slice.new.self c.is_some.result =
    written tti b c.copy_from_slice.new.self c.is_some.result c.requires.block (sym (ap length c.block_mut.ensures.value) ∙ c.block_mut.ensures.long) (c.copy_from_slice.ensures.len ∙ c.block_mut.ensures.long) in
    subst (λ (held : Held). IsCombinedBlock (frames_in legs) i c.args.lead b held) (sym c.mark.ensures)
    (combined legs i c.args.lead b c.format.result c.first_good_block-good.result tti (rewritten tti b c.copy_from_slice.new.self c.is_some.result) c.first_good_block-good.ensures.lowest from (sym c.format.ensures)
    (new.there ∙ (c.copy_from_slice.ensures.after ∙ (c.block.ensures.value ∙ ap (λ (h : Held). block_at h b) is))) (new.marked ∙ c.is_some.ensures))

pub returns-clause-before : goal.returns-clause-before
returns-clause-before c =
    let tti = c.args.tti.now in
    let new : IsWritten c.args.b tti (rewritten tti c.args.b c.copy_from_slice.new.self c.is_some.result) c.copy_from_slice.new.self c.is_some.result =
    written tti c.args.b c.copy_from_slice.new.self c.is_some.result c.requires.block (sym (ap length c.block_mut.ensures.value) ∙ c.block_mut.ensures.long) (c.copy_from_slice.ensures.len ∙ c.block_mut.ensures.long) in
    subst (λ (held : Held). (j : ℕ) → j < c.args.b → IsSameBlock j tti held) (sym c.mark.ensures) new.before
