use Rattle.std.proofs.Common.{◌∙◌, sym, arith}
use Rattle.dch_frame.specs.declared.pattern.Kind.TheVariants.{Same, Repeat, Puncture}
use Rattle.dch_frame.proofs.Changes.{below-same, below-repeat, below-puncture, length-kept}
use Rattle.dch_frame.proofs.pattern.kept.Goals as goal

pub overflow_cast-result-in-Repeat : goal.overflow_cast-result-in-Repeat
overflow_cast-result-in-Repeat c =
    let range = rw c.in-Repeat.is at c.requires.steps in
    let few = rw c.in-Repeat.is at c.requires.few in
    omega (arith, below-repeat c.in-Repeat.steps c.args.pattern.now.len range)

pub overflow_sub-result : goal.overflow_sub-result
overflow_sub-result c =
    let fit = rw c.in-Puncture.is at c.requires.steps in
    omega (arith, below-puncture c.in-Puncture.steps c.args.pattern.now.len fit.0 fit.1)

pub returns-in-Same-clause-sum : goal.returns-in-Same-clause-sum
returns-in-Same-clause-sum c = rw c.in-Same.is (sym (below-same c.args.pattern.now.len))

pub returns-in-Same-clause-all : goal.returns-in-Same-clause-all
returns-in-Same-clause-all c = rw c.in-Same.is (sym (length-kept Same c.args.pattern.now.len ∙ below-same c.args.pattern.now.len))

pub returns-in-Repeat-clause-sum : goal.returns-in-Repeat-clause-sum
returns-in-Repeat-clause-sum c =
    let range = rw c.in-Repeat.is at c.requires.steps in
    rw c.in-Repeat.is (omega (arith, below-repeat c.in-Repeat.steps c.args.pattern.now.len range))

pub returns-in-Repeat-clause-all : goal.returns-in-Repeat-clause-all
returns-in-Repeat-clause-all c =
    let range = rw c.in-Repeat.is at c.requires.steps in
    rw c.in-Repeat.is (omega (arith, length-kept (Repeat c.in-Repeat.steps) c.args.pattern.now.len, below-repeat c.in-Repeat.steps c.args.pattern.now.len range))

pub returns-in-Puncture-clause-sum : goal.returns-in-Puncture-clause-sum
returns-in-Puncture-clause-sum c =
    let fit = rw c.in-Puncture.is at c.requires.steps in
    rw c.in-Puncture.is (omega (arith, below-puncture c.in-Puncture.steps c.args.pattern.now.len fit.0 fit.1))

pub returns-in-Puncture-clause-all : goal.returns-in-Puncture-clause-all
returns-in-Puncture-clause-all c =
    let fit = rw c.in-Puncture.is at c.requires.steps in
    rw c.in-Puncture.is (omega (arith, length-kept (Puncture c.in-Puncture.steps) c.args.pattern.now.len, below-puncture c.in-Puncture.steps c.args.pattern.now.len fit.0 fit.1))
