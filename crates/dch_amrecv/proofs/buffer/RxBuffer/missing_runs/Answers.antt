use Rattle.std.proofs.Common.{◌∙◌, arith, ap, length}
use Rattle.dch_am.specs.Status.{runs}
use Rattle.dch_amrecv.specs.Places.{laid, vacant}
use Rattle.dch_amrecv.proofs.Fronts.{front_le}
use Rattle.dch_amrecv.proofs.buffer.RxBuffer.missing_runs.Goals as goal

pub missing_runs-requires-clause-from : goal.missing_runs-requires-clause-from
missing_runs-requires-clause-from c = omega (arith, c.self.invariant.0, front_le c.self.inside.window.ring.items)

pub missing_runs-requires-clause-few : goal.missing_runs-requires-clause-few
missing_runs-requires-clause-few c = omega (arith, c.requires, ap (λ k. k.kept.capacity) c.self.view_is)

pub returns-clause-count : goal.returns-clause-count
returns-clause-count c = c.missing_runs.ensures.count ∙ ap (λ k. length (runs (vacant 0 k.kept.places))) c.self.view_is

pub returns-clause-runs : goal.returns-clause-runs
returns-clause-runs c = c.missing_runs.ensures.runs ∙ ap (λ k. laid (runs (vacant 0 k.kept.places)) c.args.out.now) c.self.view_is
