use Rattle.std.proofs.Common.{◌≤◌, ◌+◌, ◌*◌, ◌∙◌, length, ap, subst, sym}
use Rattle.dch_coding.specs.Ttis.{part}
use Rattle.dch_stages.proofs.Parts.{coded-at, coded_fits}
use Rattle.dch_stages.proofs.coded.CodedTti.coded_block.Goals as goal

pub part_of-requires : goal.part_of-requires
part_of-requires c =
    let len = c.coded_block-coded.result in
    subst (λ xs. c.args.r * len + len ≤ length xs) (sym c.coded.ensures)
    (coded_fits c.args.channel.now c.args.format.now c.args.self.now c.plan_of_tti-size.result len c.args.r c.requires.cut c.plan_of_tti-size.ensures.value c.coded_block-coded.ensures c.requires.block)

pub returns-clause-part : goal.returns-clause-part
returns-clause-part c =
    c.part_of.ensures ∙ ap (λ xs. part c.args.r c.coded_block-coded.result xs) c.coded.ensures
    ∙ coded-at c.args.channel.now c.args.format.now c.args.self.now c.plan_of_tti-size.result c.coded_block-coded.result c.args.r c.requires.cut c.plan_of_tti-size.ensures.value c.coded_block-coded.ensures c.requires.block
