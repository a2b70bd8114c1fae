use Rattle.std.proofs.Common.{length, subst, arith, ap}
use Rattle.dch_mac.specs.Asked.{IsAsked}
use Rattle.dch_mac.specs.Choices.{IsBestOf}
use Rattle.dch_mac.proofs.Idle.{some_candidate}
use Rattle.dch_mac.proofs.moment.Moment.best_by.Goals as goal

pub returns-in-None : goal.returns-in-None
returns-in-None c =
    let none = subst (IsBestOf c.args.self.now c.loop-c.c) c.in-None.is c.loop-c.invariant in
    let (k, may) = some_candidate c.args.self.now (subst IsAsked c.self.view_is c.self.invariant) in
    absurd (none k (omega (arith, may.there, ap (λ a. length a.side.combinations) c.self.view_is)) may)
