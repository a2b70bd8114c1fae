use Rattle.std.proofs.Common.{◌∙◌, arith, ap, sym, drop, length}
use Rattle.dch_am.specs.Status.{runs}
use Rattle.dch_amrecv.specs.Places.{front, laid, vacant}
use Rattle.dch_amrecv.proofs.Seeing.{drop-seen, front-seen, length-seen, vacant-seen}
use Rattle.dch_amrecv.proofs.window.RxWindow.missing_runs.Goals as goal

pub write_missing_runs-requires-clause-from : goal.write_missing_runs-requires-clause-from
write_missing_runs-requires-clause-from c = omega (arith, c.requires.from, length-seen c.self.inside.pool c.self.inside.ring.items, ap (λ w. length w.ring.items) c.self.view_is)

pub write_missing_runs-requires-clause-first : goal.write_missing_runs-requires-clause-first
write_missing_runs-requires-clause-first c =
    sym (front-seen c.self.inside.pool (drop c.args.from c.self.inside.ring.items))
    ∙ (ap front (drop-seen c.self.inside.pool c.args.from c.self.inside.ring.items) ∙ (ap (λ w. front (drop c.args.from w.ring.items)) c.self.view_is ∙ c.requires.first))

pub write_missing_runs-requires-clause-few : goal.write_missing_runs-requires-clause-few
write_missing_runs-requires-clause-few c = omega (arith, c.self.invariant.few, c.requires.few, ap (λ w. w.ring.capacity) c.self.view_is)

pub returns-clause-count : goal.returns-clause-count
returns-clause-count c =
    c.write_missing_runs.ensures.count
    ∙ ap (λ xs. length (runs xs)) (sym (vacant-seen c.self.inside.pool 0 (drop c.args.from c.self.inside.ring.items)) ∙ (ap (vacant 0) (drop-seen c.self.inside.pool c.args.from c.self.inside.ring.items) ∙ ap (λ w. vacant 0 (drop c.args.from w.ring.items)) c.self.view_is))

pub returns-clause-runs : goal.returns-clause-runs
returns-clause-runs c =
    c.write_missing_runs.ensures.runs
    ∙ ap (λ xs. laid (runs xs) c.args.out.now) (sym (vacant-seen c.self.inside.pool 0 (drop c.args.from c.self.inside.ring.items)) ∙ (ap (vacant 0) (drop-seen c.self.inside.pool c.args.from c.self.inside.ring.items) ∙ ap (λ w. vacant 0 (drop c.args.from w.ring.items)) c.self.view_is))
