use Rattle.std.proofs.Common.{◌≡◌, ◌↔◌, ◌*◌, ◌++◌, ℕ, List, IsTrue, length, take, drop, ap, sym, subst, ◌∙◌, arith}
use Rattle.std.specs.Prelude.{min}
use Rattle.std.proofs.lemmas.List.{length-take, take-append-le, take_all}
use Rattle.dch_bits.specs.declared.bit.Bit.{Bit}
use Rattle.dch_coding.specs.Conv.{outputs, encoded}
use Rattle.dch_trellis.specs.Inverse.{AreDecided}
use Rattle.dch_trellis.proofs.Inverted.{first_decided}
use Rattle.dch_trellis.proofs.inverse.begins.Goals as goal

pub returns-clause-decided : goal.returns-clause-decided
returns-clause-decided c =
    let n : ℕ = min (length c.args.out.now) 32 in
    let block : List Bit = c.read.new.block in
    let rest : List Bit = drop c.min-steps.result c.args.out.now in
    let long : length (take c.min-steps.result c.args.out.now) ≡ min c.min-steps.result (length c.args.out.now) = length-take c.min-steps.result c.args.out.now in
    let steps : c.min-steps.result ≡ n = omega arith in
    let count : c.coded_before.result ≡ outputs c.args.rate * n = c.coded_before.ensures ∙ ap (λ m. outputs c.args.rate * m) steps in
    let front : block ≡ take n (block ++ rest) = sym (take-append-le n block rest (omega (arith, long)) ∙ take_all n block (omega (arith, long))) in
    let Of : List Bit → Type 0 = λ bits. IsTrue c.read.result ↔ AreDecided (take (outputs c.args.rate * n) c.args.votes.now) (encoded c.args.rate bits) in
    let Up : ℕ → Type 0 = λ m. IsTrue c.read.result ↔ AreDecided (take m c.args.votes.now) (encoded c.args.rate block) in
    subst Of front (subst Up count c.read.ensures.decided)

pub returns-clause-read : goal.returns-clause-read
returns-clause-read c = λ source sized decided.
    let n : ℕ = length (take c.min-steps.result c.args.out.now) in
    let long : n ≡ min c.min-steps.result (length c.args.out.now) = length-take c.min-steps.result c.args.out.now in
    let count : c.coded_before.result ≡ outputs c.args.rate * n = c.coded_before.ensures ∙ ap (λ m. outputs c.args.rate * m) (let same : c.min-steps.result ≡ n = omega (arith, long) in same) in
    let Of : List Bit → Type 0 = λ bits. AreDecided (take c.coded_before.result c.args.votes.now) (encoded c.args.rate bits) in
    c.read.ensures.decided.1 (subst Of (sym (c.read.ensures.inverse source (omega (arith, long)) decided)) (first_decided c.args.rate c.args.votes.now source n c.coded_before.result count (omega (arith, long)) decided))
