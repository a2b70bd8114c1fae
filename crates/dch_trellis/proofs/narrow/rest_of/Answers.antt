use Rattle.std.proofs.Common.{◌+◌, ◌-◌, ◌%◌, ◌^◌, ℕ, replicate, get_or, ap, ◌∙◌, arith}
use Rattle.std.proofs.lemmas.Simd.{get_or-zip2, get_or-replicate, length-replicate}
use Rattle.dch_trellis.proofs.narrow.rest_of.Goals as goal

abbrev sub16 : ℕ → ℕ → ℕ
sub16 a b = (a + (2 ^ 16 - b)) % 2 ^ 16

pub returns-clause-value : goal.returns-clause-value
returns-clause-value c = λ i lt.
    get_or-zip2 sub16 (replicate 8 c.args.total) c.args.near i 0 0 0 (omega (arith, length-replicate 8 c.args.total, lt)) (omega (arith, c.requires.long, lt))
    ∙ ap (λ t. sub16 t (get_or c.args.near i 0)) (get_or-replicate 8 i c.args.total 0 lt)
    ∙ omega (arith, c.requires.most i lt, c.ranges.total.fits)
