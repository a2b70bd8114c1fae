use Rattle.std.proofs.Common.{◌≡◌, ◌≢◌, ◌<◌, ◌+◌, ◌-◌, ◌*◌, ◌/◌, ◌%◌, ◌∙◌, ℕ, List, length, take, get_or, arith, sym, subst, get_or-set_other, get_or-set_same}
use Rattle.std.specs.Prelude.{slice_set}
use Rattle.std.proofs.Math.ListN.{length-set}
use Rattle.std.proofs.lemmas.List.{take-set-le}
use Rattle.dch_bits.specs.declared.bit.Bit.{Bit}
use Rattle.dch_coding.specs.Parity.{IsCheck, payload_polynomial}
use Rattle.dch_accept.specs.Padded.{bits_from}
use Rattle.dch_iub.proofs.Fronts.{bits_from-front}
use Rattle.dch_iub.proofs.check.write_check.Goals as goal

-- the number that two octets show after they were written
shown : (xs : List ℕ) (end n : ℕ) → end + 1 < length xs → let ys = slice_set (slice_set xs end (n / 256)) (end + 1) (n % 256) in 256 * get_or ys end 0 + get_or ys (end + 1) 0 ≡ n
shown xs end n inside =
    let first : List ℕ = slice_set xs end (n / 256) in
    let other : end ≢ end + 1 = omega arith in
    let there : end < length xs = omega arith in
    let next : end + 1 < length first = rw length-set inside in
    let high : get_or (slice_set first (end + 1) (n % 256)) end 0 ≡ n / 256 = rw get_or-set_other (rw get_or-set_same) in
    let low : get_or (slice_set first (end + 1) (n % 256)) (end + 1) 0 ≡ n % 256 = rw get_or-set_same in
    omega (arith, high, low)

pub returns-then-on-clause-check : goal.returns-then-on-clause-check
returns-then-on-clause-check c on =
    let old : List ℕ = c.args.out.now in
    let end : ℕ = c.args.end in
    let check : ℕ = c.payload_check-check.result in
    let first : List ℕ = slice_set old end (check / 256) in
    let new : List ℕ = slice_set first (end + 1) (check % 256) in
    let front : take end new ≡ take end old = take-set-le end first (end + 1) (check % 256) (omega arith) ∙ take-set-le end old end (check / 256) (omega arith) in
    let bits : bits_from new (8 * c.args.from) (8 * (end - c.args.from)) ≡ bits_from old (8 * c.args.from) (8 * (end - c.args.from)) =
    bits_from-front end new old (8 * c.args.from) (8 * (end - c.args.from)) (omega (arith, c.requires.order)) front in
    subst (λ (n : ℕ). IsCheck payload_polynomial (bits_from new (8 * c.args.from) (8 * (end - c.args.from))) n) (sym (shown old end check (omega (arith, c.requires.inside on))))
    (subst (λ (bs : List Bit). IsCheck payload_polynomial bs check) (sym bits) c.payload_check-check.ensures)
