use Rattle.std.proofs.Common.{◌≡◌, ◌∙◌, arith, length, length-take}
use Rattle.std.proofs.lemmas.List.FromFn.{fill_by_all}
use Rattle.dch_bits.specs.declared.bit.Trit.TheVariants.{Off}
use Rattle.dch_dlphy.specs.Loaded.{filled_cell}
use Rattle.dch_dlphy.proofs.Filled.{take_whole}
use Rattle.dch_stages.specs.Cells.{filled}
use Rattle.dch_stages.proofs.cells.fill_front.Goals as goal

pub returns : goal.returns
unfolding filled
returns c =
    let long : length c.fill_into.new.out ≡ c.args.count =
    omega (arith, c.fill_into.auto.out, length-take c.args.count c.args.out.now, c.requires.room) in
    record {
      cells = take_whole c.args.count c.fill_into.new.out _ long
          ∙ fill_by_all (filled_cell c.args.pattern.now c.args.coded.now) c.fill_into.new.out c.args.count Off long
          (λ p inside. c.fill_into.ensures p (omega (arith, inside, long)));
    }
