use Rattle.std.proofs.Common.{◌-◌, ◌*◌, ◌/◌, ℕ, get_or, subst}
use Rattle.std.proofs.lemmas.Bool.{eqb-true, eq-eqb}
use Rattle.dch_coding.specs.Parity.{IsCheck, header_polynomial}
use Rattle.dch_accept.specs.Padded.{bits_from}
use Rattle.dch_iub.proofs.Checks.{one_header_check}
use Rattle.dch_iub.proofs.check.header_fits.Goals as goal

pub returns : goal.returns
returns c =
    let a = bits_from c.args.frame.now 7 (8 * c.args.header - 7) in
    let first : ℕ = get_or c.args.frame.now 0 0 / 2 in
    let check : ℕ = c.header_check.result in (
      λ fits. subst (λ (n : ℕ). IsCheck header_polynomial a n) (eqb-true check first fits) c.header_check.ensures.check,
      λ fits. eq-eqb check first (one_header_check a check first c.header_check.ensures.check fits),
    )
