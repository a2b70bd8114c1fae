use Rattle.std.proofs.Common.{◌≡◌, ◌+◌, ◌-◌, ◌*◌, ◌∙◌, ℕ, List, get_or, arith, sym, subst}
use Rattle.std.proofs.lemmas.Bool.{eqb-true, eq-eqb}
use Rattle.dch_coding.specs.Parity.{IsCheck, payload_polynomial}
use Rattle.dch_accept.specs.Padded.{bits_from}
use Rattle.dch_iub.proofs.Checks.{one_payload_check}
use Rattle.dch_iub.proofs.check.payload_fits.Goals as goal

pub returns : goal.returns
returns c =
    let frame : List ℕ = c.args.frame.now in
    let a = bits_from frame (8 * c.args.from) (8 * (c.args.end - c.args.from)) in
    let shown : ℕ = 256 * get_or frame c.args.end 0 + get_or frame (c.args.end + 1) 0 in
    let read : ℕ = 256 * c.from.result + c.from-2.result in
    let same : read ≡ shown = omega (arith, c.from.ensures, c.from-2.ensures) in
    let check : ℕ = c.payload_check.result in (
      λ fits. subst (λ (n : ℕ). IsCheck payload_polynomial a n) (eqb-true check read fits ∙ same) c.payload_check.ensures,
      λ fits. eq-eqb check read (one_payload_check a check shown c.payload_check.ensures fits ∙ sym same),
    )
