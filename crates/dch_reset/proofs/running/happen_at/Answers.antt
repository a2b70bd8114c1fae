use Rattle.std.proofs.Common.{◌≡◌, ◌+◌, ◌-◌, ◌≤◌, ℕ, List, length, take, drop, ap, arith, subst, sym}
use Rattle.std.specs.Prelude.{slice_range}
use Rattle.std.proofs.lemmas.List.Elements.{All-drop}
use Rattle.dch_am.specs.Rules.{Rules}
use Rattle.dch_pair.proofs.Units.{ok_more}
use Rattle.dch_reset.specs.Ends.{Arrive, Build, Lose, ResetPair, happens_near, offers, resets, ticks}
use Rattle.dch_reset.specs.Running.{event_of}
use Rattle.dch_reset.specs.RunStanding.{AreRunning, Fit, IsPeer, Peer, size_in}
use Rattle.dch_reset.proofs.Meeting.{meets_loss, meets_near}
use Rattle.dch_reset.proofs.running.happen_at.Goals as goal

pub returns-in-Build-clause-history : goal.returns-in-Build-clause-history
returns-in-Build-clause-history c =
    ok_more c.build.result (λ _. (rules : Rules) (far : Peer) (back : List (List ℕ)) (p : ResetPair) → AreRunning rules c.args.near.now far c.args.out.now back p → AreRunning rules c.build.new.near far c.build.new.out back (happens_near rules p Build)) _
    (λ _ does rules far p is. subst (λ e. AreRunning rules c.build.new.near far c.build.new.out c.args.back.now (happens_near rules p (event_of c.args.octets.now e))) (sym c.in-Build.is) (does rules far c.args.back.now p is))
    c.build.ensures.history

pub returns-in-Arrive-clause-history : goal.returns-in-Arrive-clause-history
returns-in-Arrive-clause-history c =
    ok_more c.arrive.result (λ _. (rules : Rules) (far : Peer) (out : List (List ℕ)) (p : ResetPair) → AreRunning rules c.args.near.now far out c.args.back.now p → AreRunning rules c.arrive.new.near far out c.arrive.new.back (happens_near rules p Arrive)) _
    (λ _ does rules far p is. subst (λ e. AreRunning rules c.arrive.new.near far c.args.out.now c.arrive.new.back (happens_near rules p (event_of c.args.octets.now e))) (sym c.in-Arrive.is) (does rules far c.args.out.now p is))
    c.arrive.ensures.history

pub returns-in-Offer-clause-history : goal.returns-in-Offer-clause-history
returns-in-Offer-clause-history c rules far p is =
    let count : c.in-Offer.from + c.in-Offer.len - c.in-Offer.from ≡ c.in-Offer.len = omega arith in
    let unit = take c.in-Offer.len (drop c.in-Offer.from c.args.octets.now) in
    let same : slice_range c.args.octets.now c.in-Offer.from (c.in-Offer.from + c.in-Offer.len) ≡ take c.in-Offer.len (drop c.in-Offer.from c.args.octets.now) = ap (λ n. take n (drop c.in-Offer.from c.args.octets.now)) count in
    subst (λ e. AreRunning rules c.offer.new.self far c.args.out.now c.args.back.now (happens_near rules p (event_of c.args.octets.now e))) (sym c.in-Offer.is)
    (meets_near rules c.args.near.now c.offer.new.self far c.args.out.now c.args.back.now p (offers rules p.near unit) is (subst (λ u. IsPeer rules c.offer.new.self (offers rules p.near u)) same (c.offer.ensures.history rules p.near is.near)))

pub returns-in-Lose-clause-back : goal.returns-in-Lose-clause-back
returns-in-Lose-clause-back c = subst (Fit (size_in c.args.near.now)) (sym c.pop.ensures.rest) (All-drop (λ b. length b ≤ size_in c.args.near.now) 1 c.args.back.now c.requires.back)

pub returns-in-Lose-clause-history : goal.returns-in-Lose-clause-history
returns-in-Lose-clause-history c rules far p is =
    subst (λ e. AreRunning rules c.args.near.now far c.args.out.now c.pop.new.self (happens_near rules p (event_of c.args.octets.now e))) (sym c.in-Lose.is)
    (subst (λ line. AreRunning rules c.args.near.now far c.args.out.now line (happens_near rules p Lose)) (sym c.pop.ensures.rest) (meets_loss rules c.args.near.now far c.args.out.now c.args.back.now p is))

pub returns-in-Tick-clause-history : goal.returns-in-Tick-clause-history
returns-in-Tick-clause-history c rules far p is =
    subst (λ e. AreRunning rules c.tick.new.self far c.args.out.now c.args.back.now (happens_near rules p (event_of c.args.octets.now e))) (sym c.in-Tick.is)
    (meets_near rules c.args.near.now c.tick.new.self far c.args.out.now c.args.back.now p (ticks rules p.near) is (c.tick.ensures.history rules p.near is.near))

pub returns-in-Reset-clause-history : goal.returns-in-Reset-clause-history
returns-in-Reset-clause-history c rules far p is =
    subst (λ e. AreRunning rules c.reset.new.self far c.args.out.now c.args.back.now (happens_near rules p (event_of c.args.octets.now e))) (sym c.in-Reset.is)
    (meets_near rules c.args.near.now c.reset.new.self far c.args.out.now c.args.back.now p (resets p.near) is (c.reset.ensures.history rules p.near is.near))
