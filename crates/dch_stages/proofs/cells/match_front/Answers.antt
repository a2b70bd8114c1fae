use Rattle.std.proofs.Common.{◌≡◌, ◌∙◌, arith, length, length-take}
use Rattle.std.proofs.lemmas.List.FromFn.{fill_by_all}
use Rattle.dch_bits.specs.declared.bit.Trit.TheVariants.{Off}
use Rattle.dch_frame.specs.Patterns.{copies_below}
use Rattle.dch_dlphy.proofs.Filled.{take_whole}
use Rattle.dch_stages.specs.Cells.{matched, matched_cell}
use Rattle.dch_stages.proofs.cells.match_front.Goals as goal

pub returns-clause-cells : goal.returns-clause-cells
unfolding matched
returns-clause-cells c =
    let long : length c.match_into.new.out ≡ c.kept-len.result =
    omega (arith, c.match_into.auto.out, length-take c.kept-len.result c.args.out.now, c.requires.room, c.kept-len.ensures.sum) in
    take_whole c.kept-len.result c.match_into.new.out _ long
    ∙ fill_by_all (matched_cell c.args.pattern.now c.args.coded.now) c.match_into.new.out (copies_below c.args.pattern.now.kind c.args.pattern.now.len) Off (long ∙ c.kept-len.ensures.sum)
    (λ p inside. c.match_into.ensures p (omega (arith, inside, long, c.kept-len.ensures.sum)))
