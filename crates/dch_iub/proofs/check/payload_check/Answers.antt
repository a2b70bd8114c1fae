use Rattle.std.proofs.Common.{◌≡◌, ◌-◌, ◌*◌, ◌∙◌, ℕ, List, length, take, drop, arith, ap, subst, length-drop}
use Rattle.std.proofs.lemmas.List.{length-take-le}
use Rattle.dch_bits.specs.declared.bit.Bit.{Bit}
use Rattle.dch_coding.specs.Parity.{IsCheck, payload_polynomial}
use Rattle.dch_accept.specs.Padded.{bits_from}
use Rattle.dch_accept.proofs.Unpacked.{bits_from-part}
use Rattle.dch_iub.proofs.check.payload_check.Goals as goal

pub returns : goal.returns
returns c =
    let frame : List ℕ = c.args.frame.now in
    let from : ℕ = c.args.from in
    let n : ℕ = c.args.end - from in
    let part : List ℕ = take n (drop from frame) in
    let long : length part ≡ n = length-take-le n (drop from frame) (omega (arith, length-drop from frame)) in
    subst (λ (bs : List Bit). IsCheck payload_polynomial bs c.payload16.result)
    (ap (λ m. bits_from part 0 (8 * m)) long ∙ bits_from-part frame from n (8 * n) (omega arith)) c.payload16.ensures
