use Rattle.std.proofs.Common.{arith}
use Rattle.dch_frame.proofs.Changes.{changes_by_one, copies_fit}
use Rattle.dch_frame.proofs.pattern.keeps.Goals as goal

pub overflow_cast-result : goal.overflow_cast-result
overflow_cast-result c =
    let few = rw c.in-Repeat.is at (copies_fit c.args.pattern.now c.args.m c.requires.formed c.requires.inside) in
    omega (arith, c.changes.ensures, c.changes-in-Repeat.ensures)

pub overflow_sub-result-in-Puncture-2 : goal.overflow_sub-result-in-Puncture-2
overflow_sub-result-in-Puncture-2 c =
    let fit = rw c.in-Puncture.is at c.requires.formed.steps in
    omega (arith, changes_by_one c.in-Puncture.steps c.args.m fit.0 fit.1)
