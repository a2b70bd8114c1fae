use Rattle.std.proofs.Common.{◌≡◌, ◌*◌, length, arith, sym}
use Rattle.dch_layer2.proofs.Blocks.{are_octets, bits_are}
use Rattle.dch_layer2.proofs.block.read_octets.Goals as goal

pub returns-clause-bits : goal.returns-clause-bits
returns-clause-bits c =
    let long : length c.args.bits.now ≡ 8 * length c.pack.new.out = omega arith in
    bits_are c.args.bits.now c.pack.new.out long (λ k inside. sym (c.pack.ensures k inside))

pub returns-clause-octets : goal.returns-clause-octets
returns-clause-octets c = are_octets c.pack.new.out (λ k inside. omega (arith, c.type_inv.out k))
