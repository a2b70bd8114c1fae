use Rattle.std.proofs.Common.{◌≤◌, ◌*◌, ap, subst, sym, ◌∙◌}
use Rattle.dch_types.specs.Lengths.{joined_bits, tti_bits}
use Rattle.dch_coding.specs.Segments.{plan_of}
use Rattle.dch_coding.proofs.Lengths.{blocks_short}
use Rattle.dch_coding.proofs.tti.plan_of_tti.Goals as goal

pub returns-clause-few : goal.returns-clause-few
unfolding tti_bits
returns-clause-few c =
    let coding = c.args.channel.now.coding in
    let same = c.plan.ensures.value ∙ ap (λ x. plan_of x coding) c.joined_bits.ensures.value in
    subst (λ plan. plan.blocks * plan.size ≤ tti_bits c.args.channel.now c.args.format.now) (sym same) (blocks_short (joined_bits c.args.channel.now c.args.format.now) coding)
