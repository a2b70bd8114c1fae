use Rattle.std.proofs.Common.{◌≡◌, ◌∙◌, arith, length, length-take}
use Rattle.std.proofs.lemmas.List.FromFn.{fill_by_all}
use Rattle.dch_bits.specs.declared.bit.Trit.TheVariants.{Off}
use Rattle.dch_types.specs.Lengths.{padded}
use Rattle.dch_dlphy.proofs.Filled.{take_whole}
use Rattle.dch_stages.specs.Cells.{equalised, equalised_cell}
use Rattle.dch_stages.proofs.cells.equalise_front.Goals as goal

pub returns-clause-cells : goal.returns-clause-cells
unfolding equalised
returns-clause-cells c =
    let long : length c.equalise_into.new.out ≡ c.equalise-len.result =
    omega (arith, c.equalise_into.auto.out, length-take c.equalise-len.result c.args.out.now, c.requires.room, c.equalise-len.ensures.value) in
    take_whole c.equalise-len.result c.equalise_into.new.out _ long
    ∙ fill_by_all (equalised_cell c.args.coded.now) c.equalise_into.new.out (padded (length c.args.coded.now) c.args.frames) Off (long ∙ c.equalise-len.ensures.value)
    (λ p inside. c.equalise_into.ensures p (omega (arith, inside, long, c.equalise-len.ensures.value)))
