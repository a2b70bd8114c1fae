use Rattle.std.proofs.Common.{◌≡◌, ◌+◌, ◌*◌, ◌/◌, ◌∙◌, length, take, drop, arith, ap}
use Rattle.std.proofs.lemmas.List.{take_rest}
use Rattle.std.specs.Prelude.{count_by}
use Rattle.dch_gen.specs.Counts.{is_one}
use Rattle.dch_gen.proofs.CountedCells.{count_more, count_rest}
use Rattle.dch_gen.proofs.counts.count_ones.Goals as goal

pub loop-c-preserved : goal.loop-c-preserved
loop-c-preserved c =
    let cells = c.args.cells.now in
    let at = 128 * c.loop-c.c in
    let next : 128 * (c.loop-c.c + 1) ≡ at + 128 = omega arith in
    let more = count_more is_one cells at (at + 128) (omega arith) in
    let few : c.from-ones.result ≡ c.count_few.result = c.from-ones.ensures in
    omega (arith, c.loop-c.invariant, few, c.count_few.ensures, more, ap (λ n. count_by is_one (take n cells)) next)

pub returns-clause-value : goal.returns-clause-value
returns-clause-value c =
    let cells = c.args.cells.now in
    let at = 128 * (length cells / 128) in
    let whole : c.loop-c.c ≡ length cells / 128 = omega (arith, c.loop-c.auto.c-end, c.loop-c-test.false) in
    let last : c.from.result ≡ count_by is_one (drop at cells) = c.from.ensures ∙ c.count_few-2.ensures ∙ ap (λ ys. count_by is_one ys) (take_rest cells at) in
    omega (arith, c.loop-c.invariant, ap (λ n. count_by is_one (take (128 * n) cells)) whole, last, count_rest is_one cells at)
