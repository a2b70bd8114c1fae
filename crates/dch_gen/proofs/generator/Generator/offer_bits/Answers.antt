use Rattle.std.proofs.Common.{◌≡◌, ◌∙◌, List, [], arith, ap}
use Rattle.std.proofs.lemmas.Grind.{common_steps}
use Rattle.dch_bits.specs.declared.bit.Bit.{Bit}
use Rattle.dch_link.specs.Events.{OfferedUnit}
use Rattle.dch_gen.specs.Units.{unit_bits}
use Rattle.dch_gen.proofs.Advancing.{advances_one}
use Rattle.dch_gen.proofs.generator.Generator.offer_bits.Goals as goal

pub returns : goal.returns
returns c =
    let filled : c.fill_bits.new.bits ≡ unit_bits c.args.frame c.args.dir c.args.bearer c.args.count = c.fill_bits.ensures ∙ ap (unit_bits c.args.frame c.args.dir c.args.bearer) (grind (arith, common_steps)) in
    advances_one 1 (OfferedUnit c.args.dir c.args.bearer [] c.fill_bits.new.bits) (OfferedUnit c.args.dir c.args.bearer [] (unit_bits c.args.frame c.args.dir c.args.bearer c.args.count)) c.args.self.now c.happen.new.self (ap (λ (bits : List Bit). OfferedUnit c.args.dir c.args.bearer [] bits) filled) c.happen.ensures
