use Rattle.std.proofs.Common.{◌≡◌, ◌≤◌, ◌^◌, List, length, arith, ap, sym, ◌∙◌}
use Rattle.dch_bits.specs.declared.bit.Bit.{Bit}
use Rattle.dch_types.specs.Lengths.{coded_bits}
use Rattle.dch_trellis.proofs.Damage.{received}
use Rattle.dch_tti.proofs.Corrected.{few_correctable, joined_corrected}
use Rattle.dch_tti.proofs.Lengths.{joined_le}
use Rattle.dch_tti.proofs.decoder.Decoder.decode.Goals as goal

pub returns-clause-told_apart : goal.returns-clause-told_apart
returns-clause-told_apart c bits sent size are =
    let joined : List Bit = c.decode_with.new.joined in
    let coded : length c.args.votes.now ≡ coded_bits c.args.coding (length joined) = c.requires.coded ∙ ap (coded_bits c.args.coding) (sym c.decode_with.auto.joined) in
    let small : length joined ≤ 2 ^ 31 = omega (arith, joined_le (length joined) c.args.coding, coded, c.requires.short) in
    joined_corrected c.args.coding c.args.votes.now joined bits sent small coded size c.decode_with.ensures.read are

pub returns-clause-corrected : goal.returns-clause-corrected
returns-clause-corrected c bits least size some few =
    let coded : length c.args.votes.now ≡ coded_bits c.args.coding (length bits) = c.requires.coded ∙ ap (coded_bits c.args.coding) (sym c.decode_with.auto.joined ∙ sym size) in
    returns-clause-told_apart c bits (received c.args.votes.now) size (few_correctable c.args.coding least c.args.votes.now bits coded some few)
