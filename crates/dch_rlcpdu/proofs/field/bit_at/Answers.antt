use Rattle.std.proofs.Common.{◌%◌, drop, arith, sym, ap, ◌∙◌}
use Rattle.dch_rlcpdu.specs.Halves.{halves, half_bit}
use Rattle.dch_rlcpdu.proofs.FieldKinds.{BitAt, bit_place}
use Rattle.dch_rlcpdu.proofs.field.bit_at.Goals as goal

pub half-requires : goal.half-requires
half-requires c =
    let at : BitAt (drop c.args.at (halves c.args.octets.now)) c.args.j = bit_place (drop c.args.at (halves c.args.octets.now)) c.args.j c.requires.bit in
    omega (arith, at.inside)

pub returns : goal.returns
returns c =
    c.bit_of.ensures ∙ (ap (λ h. half_bit h (c.args.j % 4)) c.half.ensures.value
    ∙ sym (bit_place (drop c.args.at (halves c.args.octets.now)) c.args.j c.requires.bit).value)
