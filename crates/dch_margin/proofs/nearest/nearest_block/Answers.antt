use Rattle.std.proofs.Common.{ℕ, length, sym, subst}
use Rattle.dch_types.specs.declared.channel.Coding.{Coding}
use Rattle.dch_coding.specs.Chain.{coded_as}
use Rattle.dch_trellis.specs.Distance.{copies_at}
use Rattle.dch_types.specs.declared.channel.Coding.TheVariants.{Uncoded}
use Rattle.dch_margin.specs.Differ.{DifferIn, IsFromZeros, IsLeast}
use Rattle.dch_margin.proofs.Counts.{of_zeros}
use Rattle.dch_margin.proofs.Few.{fewer_copies, half_is_coded, third_is_coded}
use Rattle.dch_margin.proofs.nearest.nearest_block.Goals as goal

pub nearest_coded-requires-clause-few : goal.nearest_coded-requires-clause-few
nearest_coded-requires-clause-few c = fewer_copies c.args.coding c.args.votes.now (length c.args.block.now) (c.requires.short (half_is_coded c.args.coding c.in-Half.is)) c.requires.coded c.requires.counts

pub nearest_coded-requires-in-Third-clause-few : goal.nearest_coded-requires-in-Third-clause-few
nearest_coded-requires-in-Third-clause-few c = fewer_copies c.args.coding c.args.votes.now (length c.args.block.now) (c.requires.short (third_is_coded c.args.coding c.in-Third.is)) c.requires.coded c.requires.counts

pub nearest_coded-requires-clause-zeros : goal.nearest_coded-requires-clause-zeros
nearest_coded-requires-clause-zeros c = of_zeros (copies_at c.args.votes.now) c.args.votes.now c.requires.counts

pub nearest_coded-requires-in-Third-clause-zeros : goal.nearest_coded-requires-in-Third-clause-zeros
nearest_coded-requires-in-Third-clause-zeros c = of_zeros (copies_at c.args.votes.now) c.args.votes.now c.requires.counts

pub nearest_coded-requires-clause-least : goal.nearest_coded-requires-clause-least
nearest_coded-requires-clause-least c = subst (λ (coding : Coding). IsLeast (DifferIn (coded_as coding) (length c.args.block.now) c.args.filler (copies_at c.args.votes.now)) c.args.least) c.in-Half.is c.requires.least

pub nearest_coded-requires-in-Third-clause-least : goal.nearest_coded-requires-in-Third-clause-least
nearest_coded-requires-in-Third-clause-least c = subst (λ (coding : Coding). IsLeast (DifferIn (coded_as coding) (length c.args.block.now) c.args.filler (copies_at c.args.votes.now)) c.args.least) c.in-Third.is c.requires.least

pub returns-in-Uncoded-clause-nearest : goal.returns-in-Uncoded-clause-nearest
returns-in-Uncoded-clause-nearest c =
    subst (λ (coding : Coding). IsFromZeros (coded_as coding) (length c.args.block.now) c.args.filler (copies_at c.args.votes.now) c.args.least c.nearest_bit.new.block) (sym c.in-Uncoded.is)
    (subst (λ (filler : ℕ). IsFromZeros (coded_as Uncoded) (length c.args.block.now) filler (copies_at c.args.votes.now) c.args.least c.nearest_bit.new.block) (sym (c.requires.plain c.in-Uncoded.is)) c.nearest_bit.ensures)

pub returns-in-Half-clause-nearest : goal.returns-in-Half-clause-nearest
returns-in-Half-clause-nearest c =
    subst (λ (coding : Coding). IsFromZeros (coded_as coding) (length c.args.block.now) c.args.filler (copies_at c.args.votes.now) c.args.least c.nearest_coded.new.block) (sym c.in-Half.is) c.nearest_coded.ensures.nearest

pub returns-in-Third-clause-nearest : goal.returns-in-Third-clause-nearest
returns-in-Third-clause-nearest c =
    subst (λ (coding : Coding). IsFromZeros (coded_as coding) (length c.args.block.now) c.args.filler (copies_at c.args.votes.now) c.args.least c.nearest_coded-in-Third.new.block) (sym c.in-Third.is) c.nearest_coded-in-Third.ensures.nearest
