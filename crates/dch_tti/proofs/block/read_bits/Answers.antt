use Rattle.std.proofs.Common.{◌∙◌, sym, arith, map}
use Rattle.std.proofs.lemmas.List.{ext_get_or, get_or-map, length-map}
use Rattle.dch_bits.specs.declared.bit.Bit.TheVariants.{Zero}
use Rattle.dch_bits.specs.declared.bit.Vote.{Vote}
use Rattle.dch_tti.specs.JoinedBits.{majority}
use Rattle.dch_tti.proofs.block.read_bits.Goals as goal

pub returns : goal.returns
returns c =
    let none : Vote = record { zeros = 0; ones = 0 } in
    ext_get_or Zero c.loop-j.out (map majority c.args.votes.now) (omega (arith, length-map c.args.votes.now majority))
    (λ k inside. c.loop-j.invariant k none (omega arith) ∙ sym (get_or-map majority c.args.votes.now k none Zero (omega arith)))
