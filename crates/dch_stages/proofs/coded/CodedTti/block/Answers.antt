use Rattle.std.proofs.Common.{◌∙◌, ap}
use Rattle.dch_coding.specs.Ttis.{part}
use Rattle.dch_stages.proofs.Parts.{block-at}
use Rattle.dch_stages.proofs.coded.CodedTti.block.Goals as goal

pub returns-clause-part : goal.returns-clause-part
returns-clause-part c =
    c.part_of.ensures ∙ ap (λ xs. part c.args.r c.plan_of_tti.result.size xs) c.blocks-2.ensures
    ∙ block-at c.args.channel.now c.args.format.now c.args.self.now c.plan_of_tti.result c.args.r c.requires.cut c.plan_of_tti.ensures.value c.plan_of_tti.ensures.whole c.requires.block
