use Rattle.std.proofs.Common.{◌<◌, ◌*◌, arith, subst, sym}
use Rattle.dch_coding.specs.declared.cut.Plan.{Plan}
use Rattle.dch_types.specs.Lengths.{coded_block}
use Rattle.dch_stages.proofs.PlaceBounds.{block_starts}
use Rattle.dch_stages.proofs.places.bit_of.Goals as goal

pub cut_bit-requires-clause-few : goal.cut_bit-requires-clause-few
cut_bit-requires-clause-few c =
    let plan : Plan = c.plan_of_tti-plan.result in
    let long = c.coded_block-long.result in
    let whole : c.args.coded < plan.blocks * coded_block c.args.channel.now.coding plan.size = subst (λ n. c.args.coded < n) c.plan_of_tti-plan.ensures.coded c.requires.inside in
    let inside : c.args.coded < plan.blocks * long = subst (λ n. c.args.coded < plan.blocks * n) (sym c.coded_block-long.ensures) whole in
    omega (arith, block_starts plan.blocks long plan.size c.args.coded inside, c.plan_of_tti-plan.ensures.few, c.requires.limit)
