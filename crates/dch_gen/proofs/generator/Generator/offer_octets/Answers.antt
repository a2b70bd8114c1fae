use Rattle.std.proofs.Common.{◌≡◌, ◌∙◌, ℕ, List, [], arith, ap}
use Rattle.std.proofs.lemmas.Grind.{common_steps}
use Rattle.dch_link.specs.Events.{OfferedUnit}
use Rattle.dch_gen.specs.Units.{unit_octets}
use Rattle.dch_gen.proofs.Advancing.{advances_one}
use Rattle.dch_gen.proofs.generator.Generator.offer_octets.Goals as goal

pub returns : goal.returns
returns c =
    let filled : c.fill_octets.new.octets ≡ unit_octets c.args.frame c.args.dir c.args.bearer c.args.count = c.fill_octets.ensures ∙ ap (unit_octets c.args.frame c.args.dir c.args.bearer) (grind (arith, common_steps)) in
    advances_one 1 (OfferedUnit c.args.dir c.args.bearer c.fill_octets.new.octets []) (OfferedUnit c.args.dir c.args.bearer (unit_octets c.args.frame c.args.dir c.args.bearer c.args.count) []) c.args.self.now c.happen.new.self (ap (λ (octets : List ℕ). OfferedUnit c.args.dir c.args.bearer octets []) filled) c.happen.ensures
