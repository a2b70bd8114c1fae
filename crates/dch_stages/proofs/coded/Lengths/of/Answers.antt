use Rattle.std.proofs.Common.{◌∙◌, arith, ap}
use Rattle.dch_types.specs.Lengths.{coded_bits, tti_bits}
use Rattle.dch_coding.proofs.Lengths.{joined_short}
use Rattle.dch_stages.proofs.coded.Lengths.of.Goals as goal

pub returns-clause-few_joined : goal.returns-clause-few_joined
unfolding tti_bits
returns-clause-few_joined c =
    let same = c.coded_bits.ensures ∙ ap (coded_bits c.args.channel.now.coding) c.joined_bits-joined.ensures.value in
    omega (arith, c.joined_bits-joined.ensures.value, same, joined_short c.args.channel.now c.args.format.now)
