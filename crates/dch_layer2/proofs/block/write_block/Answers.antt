use Rattle.std.proofs.Common.{◌≡◌, ◌+◌, ◌*◌, length, arith}
use Rattle.dch_mac.specs.Field.{field_bits}
use Rattle.dch_layer2.proofs.Blocks.{are_octets, block_is}
use Rattle.dch_layer2.proofs.block.write_block.Goals as goal

pub returns-clause-block : goal.returns-clause-block
returns-clause-block c =
    let long : length c.mux.new.out ≡ field_bits c.args.ct + 8 * length c.args.pdu.now = omega arith in
    block_is c.args.ct c.mux.new.out c.args.pdu.now long c.mux.ensures.field c.mux.ensures.pdu

pub returns-clause-octets : goal.returns-clause-octets
returns-clause-octets c = are_octets c.args.pdu.now (λ k inside. omega (arith, c.type_inv.pdu k))
