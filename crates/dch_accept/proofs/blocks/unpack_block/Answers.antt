use Rattle.std.proofs.Common.{◌≡◌, ◌+◌, ◌-◌, ◌∙◌, ℕ, List, length, take, drop, arith, ap, sym, length-take, length-drop}
use borrow.Rule.Slice.PartMut.{put_mid}
use Rattle.std.proofs.lemmas.List.{drop-take, drop_at, length-take-le}
use Rattle.std.proofs.lemmas.Slice.{take-put_mid}
use Rattle.dch_bits.specs.declared.bit.Bit.{Bit}
use Rattle.dch_bits.specs.Octets.{bit_of_octets}
use Rattle.dch_accept.proofs.Unpacked.{bits_are}
use Rattle.dch_accept.proofs.blocks.unpack_block.Goals as goal

pub returns-clause-block : goal.returns-clause-block
returns-clause-block c =
    let out : List Bit = c.args.out.now in
    let new : List Bit = c.unpack.new.out in
    let at : ℕ = c.args.at in
    let size : ℕ = c.args.size in
    let k : ℕ = at + size - at in
    let part : length (take (at + size - at) (drop at out)) ≡ size = simp (length-take, length-drop) (omega (arith, c.requires.room)) in
    let long : length new ≡ size = c.unpack.auto.out ∙ part in
    let written : take size (drop at (put_mid at k out new)) ≡ new =
    sym (drop-take at size (put_mid at k out new))
    ∙ ap (drop at) (take-put_mid at k out new (at + size) (omega (arith, long)) (omega (arith, c.requires.room)))
    ∙ drop_at (take at out) new at (length-take-le at out (omega (arith, c.requires.room))) in
    written ∙ bits_are new c.args.octets.now 0 size long (λ i inside. c.unpack.ensures i (omega (arith, long)) ∙ ap (bit_of_octets c.args.octets.now) (omega arith))
