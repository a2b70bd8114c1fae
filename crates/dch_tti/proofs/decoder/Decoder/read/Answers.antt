use Rattle.std.proofs.Common.{◌≡◌, ◌∙◌, ℕ, List, length, take, arith, ap, subst, sym}
use Rattle.std.proofs.lemmas.List.{length-take-le, take_at}
use Rattle.dch_bits.specs.declared.bit.Bit.{Bit}
use Rattle.dch_types.specs.Lengths.{coded_bits, joined_bits, tti_bits}
use Rattle.dch_tti.specs.JoinedBits.{AreRead}
use Rattle.dch_tti.proofs.Arrived.{received_are, arrived_correctable}
use Rattle.dch_tti.proofs.decoder.Decoder.read.Goals as goal

pub decode_front-requires-clause-coded : goal.decode_front-requires-clause-coded
unfolding tti_bits
decode_front-requires-clause-coded c = c.requires.coded ∙ ap (coded_bits c.args.channel.now.coding) (sym c.joined_bits-len.ensures.value)

pub returns-clause-read : goal.returns-clause-read
returns-clause-read c =
    let len : ℕ = c.joined_bits-len.result in
    let out : List Bit = c.decode_front.new.out in
    let same : c.deref.result.now ≡ out = c.deref.ensures.value ∙ take_at out _ _ (omega (arith, c.decode_front.auto.out, c.deref_mut-2.ensures.len)) in
    let long : length (take len c.deref.result.now) ≡ joined_bits c.args.channel.now c.args.format.now =
    length-take-le len c.deref.result.now (omega (arith, c.decode_front.ensures.fits, ap length same)) ∙ c.joined_bits-len.ensures.value in
    let read : AreRead c.args.channel.now.coding c.args.votes.now (take len c.deref.result.now) =
    subst (λ (xs : List Bit). AreRead c.args.channel.now.coding c.args.votes.now (take len xs)) (sym same) c.decode_front.ensures.read in
    received_are c.args.channel.now c.args.number c.args.format.now c.args.votes.now c.resize.new.self c.mark_blocks.new.out c.write_blocks.new.out (take len c.deref.result.now) c.from-size.result c.from.result
    c.from-size.ensures c.from.ensures c.resize.ensures.format c.resize.ensures.size c.resize.ensures.count c.resize.ensures.bits
    (c.write_blocks.auto.out ∙ ap length c.bits_mut.ensures.value) c.mark_blocks.ensures.same c.mark_blocks.ensures.count long read c.write_blocks.ensures c.mark_blocks.ensures.marks

pub returns-clause-corrected : goal.returns-clause-corrected
returns-clause-corrected c = arrived_correctable c.args.channel.now c.args.number c.args.format.now c.args.votes.now c.mark_blocks.new.out (returns-clause-read c) c.requires.coded c.requires.short
