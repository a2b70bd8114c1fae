use Rattle.std.proofs.Common.{◌≡◌, ◌+◌, ◌-◌, take, drop, ap, arith, subst, sym}
use Rattle.std.specs.Prelude.{slice_range}
use Rattle.dch_amlaw.specs.Pair.{after}
use Rattle.dch_pair.specs.Running.{seen}
use Rattle.dch_pair.specs.Standing.{AreRunning, nothing_earlier}
use Rattle.dch_pair.proofs.Meeting.{meets_offer, meets_tick}
use Rattle.dch_pair.proofs.running.happen_at.Goals as goal

pub returns-in-Offer-clause-history : goal.returns-in-Offer-clause-history
returns-in-Offer-clause-history c rules p is =
    let count : c.in-Offer.from + c.in-Offer.len - c.in-Offer.from ≡ c.in-Offer.len = omega arith in
    subst (λ e. AreRunning rules c.offer.new.self c.args.far.now (after rules p (seen c.args.octets.now e))) (sym c.in-Offer.is)
    (meets_offer rules c.args.near.now c.offer.new.self c.args.far.now p (slice_range c.args.octets.now c.in-Offer.from (c.in-Offer.from + c.in-Offer.len)) (take c.in-Offer.len (drop c.in-Offer.from c.args.octets.now))
    (ap (λ n. take n (drop c.in-Offer.from c.args.octets.now)) count) is c.offer.ensures.same (c.offer.ensures.history rules nothing_earlier p.near.entity is.near.peer))

pub returns-in-Tick-clause-history : goal.returns-in-Tick-clause-history
returns-in-Tick-clause-history c rules p is =
    subst (λ e. AreRunning rules c.tick.new.self c.args.far.now (after rules p (seen c.args.octets.now e))) (sym c.in-Tick.is)
    (meets_tick rules c.args.near.now c.tick.new.self c.args.far.now p is c.tick.ensures.same (c.tick.ensures.history rules nothing_earlier p.near.entity is.near.peer))
