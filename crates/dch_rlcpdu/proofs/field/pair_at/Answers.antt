use Rattle.std.proofs.Common.{drop, arith, sym, ap₂, ◌∙◌, ℕ}
use Rattle.dch_rlcpdu.specs.Halves.{halves}
use Rattle.dch_rlcpdu.proofs.FieldKinds.{PairAt, pair_place}
use Rattle.dch_rlcpdu.proofs.field.pair_at.Goals as goal

pub number-requires : goal.number-requires
number-requires c =
    let at : PairAt (drop c.args.at (halves c.args.octets.now)) c.args.j = pair_place (drop c.args.at (halves c.args.octets.now)) c.args.j c.requires.pair in
    omega (arith, at.inside)

pub half-requires : goal.half-requires
half-requires c =
    let at : PairAt (drop c.args.at (halves c.args.octets.now)) c.args.j = pair_place (drop c.args.at (halves c.args.octets.now)) c.args.j c.requires.pair in
    omega (arith, at.inside)

pub returns-clause-value : goal.returns-clause-value
returns-clause-value c =
    ap₂ (λ (a b : ℕ). (a, b)) c.number.ensures.value c.half.ensures.value
    ∙ sym (pair_place (drop c.args.at (halves c.args.octets.now)) c.args.j c.requires.pair).value

pub overflow_mul-j : goal.overflow_mul-j
overflow_mul-j c =
    let at : PairAt (drop c.args.at (halves c.args.octets.now)) c.args.j = pair_place (drop c.args.at (halves c.args.octets.now)) c.args.j c.requires.pair in
    omega (arith, at.inside)

pub overflow_add-j : goal.overflow_add-j
overflow_add-j c =
    let at : PairAt (drop c.args.at (halves c.args.octets.now)) c.args.j = pair_place (drop c.args.at (halves c.args.octets.now)) c.args.j c.requires.pair in
    omega (arith, at.inside)

pub overflow_mul-j-2 : goal.overflow_mul-j-2
overflow_mul-j-2 c =
    let at : PairAt (drop c.args.at (halves c.args.octets.now)) c.args.j = pair_place (drop c.args.at (halves c.args.octets.now)) c.args.j c.requires.pair in
    omega (arith, at.inside)

pub overflow_add-j-2 : goal.overflow_add-j-2
overflow_add-j-2 c =
    let at : PairAt (drop c.args.at (halves c.args.octets.now)) c.args.j = pair_place (drop c.args.at (halves c.args.octets.now)) c.args.j c.requires.pair in
    omega (arith, at.inside)
