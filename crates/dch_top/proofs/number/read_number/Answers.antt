use Rattle.std.proofs.Common.{rules, arith, ◌≡◌, ◌∙◌, Ok, ap, sym, true≢false}
use Rattle.std.specs.Result.{result_ok}
use Rattle.std.proofs.lemmas.Slice.Eq.{bytes_eq-Decides}
use Rattle.dch_top.proofs.Meanings.{none_some, number_read}
use Rattle.dch_top.proofs.number.read_number.Goals as goal
use Rattle.dch_top.proofs.number.read_number.Goals.{else-eq-via-then-eq+then-least-number+else-number-most, else-eq-via-then-eq+else-least-number, else-eq-via-else-eq}

pub returns-in_err-number-clause-none : goal.returns-in_err-number-clause-none
returns-in_err-number-clause-none c =
    let read = number_read c.args.least c.args.most c.args.text.now c.parse.result (omega arith) c.parse.ensures.value.0 in
    rw c.from_residual.ensures (λ n is. none_some n (c.in_err-number.ensures.value ∙ ap result_ok (read n is)))

pub returns-else-eq-clause-none : goal.returns-else-eq-clause-none
returns-else-eq-clause-none c = λ n is.
    let read : c.parse.result ≡ Ok n = number_read c.args.least c.args.most c.args.text.now c.parse.result (omega arith) c.parse.ensures.value.0 n is in
    let number_is : c.in_ok-number.number ≡ n = search (rules, read) in
    elim c.else-eq.branch [
      | else-eq-via-then-eq+then-least-number+else-number-most w ↦ omega (arith, is, number_is, w.if-number-most.false)
      | else-eq-via-then-eq+else-least-number w ↦ omega (arith, is, number_is, w.if-least-number.false)
      | else-eq-via-else-eq w ↦
          let same : c.format.result.now ≡ c.args.text.now = search (rules, number_is, is.0) in
          true≢false (sym ((bytes_eq-Decides c.format.result.now c.args.text.now).1 same) ∙ sym w.if-eq.ensures)
    ]
