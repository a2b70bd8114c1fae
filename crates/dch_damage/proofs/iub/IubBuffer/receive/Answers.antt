use Rattle.std.proofs.Common.{◌≡◌, false, length, subst}
use Rattle.std.specs.Prelude.{replicate}
use Rattle.dch_damage.specs.Lending.{octets_of}
use Rattle.dch_damage.specs.Tables.{IubTables}
use Rattle.dch_damage.proofs.Arriving.{iub_as_sent}
use Rattle.dch_damage.proofs.iub.IubBuffer.receive.Goals as goal

pub returns-else-damage-2-clause-arrives : goal.returns-else-damage-2-clause-arrives
returns-else-damage-2-clause-arrives c =
    let kept = subst (λ (t : IubTables). t.lost ≡ false) c.damage.view_is c.if-damage.false in
    let none = subst (λ (t : IubTables). t.masks ≡ replicate (length t.masks) 0) c.damage.view_is (c.damage.invariant c.if-damage-2.false) in
    iub_as_sent c.args.damage.now (octets_of c.args.sent) kept none c.requires.table
