use Rattle.std.proofs.Common.{◌+◌, ℕ, refl, arith}
use Rattle.dch_frame.specs.declared.pattern.Steps.{Steps}
use Rattle.dch_frame.specs.declared.pattern.Kind.TheVariants.{Same, Repeat, Puncture}
use Rattle.dch_frame.proofs.Changes.{below-same, shown, bit_inside, repeated_bit, punctured_bit, some_left}
use Rattle.dch_frame.proofs.pattern.origin.Goals as goal

pub nonzero_div-result-in-Puncture : goal.nonzero_div-result-in-Puncture
nonzero_div-result-in-Puncture c =
    let fit = rw c.in-Puncture.is at c.requires.formed.steps in
    let left = rw c.in-Puncture.is at c.requires.inside in
    omega (arith, some_left c.in-Puncture.steps c.args.k c.args.pattern.now.len fit.0 fit.1 left)

pub overflow_cast-result-in-Puncture-2 : goal.overflow_cast-result-in-Puncture-2
overflow_cast-result-in-Puncture-2 c =
    let s : Steps = c.in-Puncture.steps in
    let fit = rw c.in-Puncture.is at c.requires.formed.steps in
    let left = rw c.in-Puncture.is at c.requires.inside in
    let here = punctured_bit s c.args.k _ fit.0 (some_left s c.args.k c.args.pattern.now.len fit.0 fit.1 left) refl in
    omega (arith, c.requires.formed.short, bit_inside (Puncture s) _ c.args.pattern.now.len c.args.k here.0 left)

pub returns-in-Same-clause-shown : goal.returns-in-Same-clause-shown
returns-in-Same-clause-shown c =
    let left = rw c.in-Same.is at c.requires.inside in
    let k : ℕ = c.args.k in
    let n : ℕ = c.args.pattern.now.len in
    rw c.in-Same.is (shown Same k n k (omega (arith, below-same n)) (omega (arith, below-same k)) (omega (arith, below-same (k + 1))))

pub returns-in-Same-clause-inside : goal.returns-in-Same-clause-inside
returns-in-Same-clause-inside c =
    let left = rw c.in-Same.is at c.requires.inside in
    omega (arith, below-same c.args.pattern.now.len)

pub returns-in-Repeat-clause-shown : goal.returns-in-Repeat-clause-shown
returns-in-Repeat-clause-shown c =
    let s : Steps = c.in-Repeat.steps in
    let range = rw c.in-Repeat.is at c.requires.formed.steps in
    let left = rw c.in-Repeat.is at c.requires.inside in
    let here = repeated_bit s c.args.k _ range refl in
    rw c.in-Repeat.is (shown (Repeat s) _ c.args.pattern.now.len c.args.k (bit_inside (Repeat s) _ c.args.pattern.now.len c.args.k here.0 left) here.0 here.1)

pub returns-in-Repeat-clause-inside : goal.returns-in-Repeat-clause-inside
returns-in-Repeat-clause-inside c =
    let s : Steps = c.in-Repeat.steps in
    let range = rw c.in-Repeat.is at c.requires.formed.steps in
    let left = rw c.in-Repeat.is at c.requires.inside in
    bit_inside (Repeat s) _ c.args.pattern.now.len c.args.k (repeated_bit s c.args.k _ range refl).0 left

pub returns-in-Puncture-clause-shown : goal.returns-in-Puncture-clause-shown
returns-in-Puncture-clause-shown c =
    let s : Steps = c.in-Puncture.steps in
    let fit = rw c.in-Puncture.is at c.requires.formed.steps in
    let left = rw c.in-Puncture.is at c.requires.inside in
    let here = punctured_bit s c.args.k _ fit.0 (some_left s c.args.k c.args.pattern.now.len fit.0 fit.1 left) refl in
    rw c.in-Puncture.is (shown (Puncture s) _ c.args.pattern.now.len c.args.k (bit_inside (Puncture s) _ c.args.pattern.now.len c.args.k here.0 left) here.0 here.1)

pub returns-in-Puncture-clause-inside : goal.returns-in-Puncture-clause-inside
returns-in-Puncture-clause-inside c =
    let s : Steps = c.in-Puncture.steps in
    let fit = rw c.in-Puncture.is at c.requires.formed.steps in
    let left = rw c.in-Puncture.is at c.requires.inside in
    bit_inside (Puncture s) _ c.args.pattern.now.len c.args.k (punctured_bit s c.args.k _ fit.0 (some_left s c.args.k c.args.pattern.now.len fit.0 fit.1 left) refl).0 left
