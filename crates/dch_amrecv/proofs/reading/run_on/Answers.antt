use Rattle.std.proofs.Common.{◌∙◌, ap, drop}
use Rattle.dch_amrecv.specs.Places.{front}
use Rattle.dch_amrecv.proofs.Ordered.{front_end}
use Rattle.dch_amrecv.proofs.reading.run_on.Goals as goal

pub returns-clause-gap : goal.returns-clause-gap
returns-clause-gap c =
    ap (λ k. front k.places) c.read_on-todo.ensures.same
    ∙ (ap (λ n. front (drop n c.args.window.now.ring.items)) c.front-run.ensures.value ∙ front_end c.args.window.now.ring.items)
