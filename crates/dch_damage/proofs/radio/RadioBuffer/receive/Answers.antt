use Rattle.std.proofs.Common.{◌≡◌, false, length, subst}
use Rattle.std.specs.Prelude.{replicate}
use Rattle.dch_damage.specs.Lending.{radio_of}
use Rattle.dch_damage.specs.Tables.{RadioTables}
use Rattle.dch_damage.specs.declared.turned.Turned.TheVariants.{Not}
use Rattle.dch_damage.proofs.Arriving.{radio_as_sent}
use Rattle.dch_damage.proofs.radio.RadioBuffer.receive.Goals as goal

pub returns-else-damage-2-clause-arrives : goal.returns-else-damage-2-clause-arrives
returns-else-damage-2-clause-arrives c =
    let kept = subst (λ (t : RadioTables). t.lost ≡ false) c.damage.view_is c.if-damage.false in
    let none = c.damage.invariant in
    let no_tfci = subst (λ (t : RadioTables). t.tfci ≡ replicate (length t.tfci) Not) c.damage.view_is (none.0 c.if-damage-2.false) in
    let no_cells = subst (λ (t : RadioTables). t.cells ≡ replicate (length t.cells) Not) c.damage.view_is (none.1 c.if-damage-2.false) in
    radio_as_sent c.args.damage.now (radio_of c.args.sent) kept no_tfci no_cells c.requires.table
