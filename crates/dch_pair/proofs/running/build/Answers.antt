use Rattle.std.proofs.Common.{subst, sym}
use Rattle.dch_am.specs.Entities.{Entity}
use Rattle.dch_am.specs.Rules.{Rules}
use Rattle.dch_rlcpdu.specs.Am.{am_reading}
use Rattle.dch_amlaw.specs.Pair.{builds_one}
use Rattle.dch_pair.specs.Standing.{AreRunning, Earlier, IsPeer, hears, nothing_earlier, size_of}
use Rattle.dch_pair.proofs.Units.{ok_more}
use Rattle.dch_pair.proofs.Meeting.{landed, meets_block, meets_none}
use Rattle.dch_pair.proofs.running.build.Goals as goal
use Rattle.dch_pair.proofs.running.build.Goals.{else-build-via-then-build+else-arrives, else-build-via-else-build}

pub returns-then-arrives-clause-history : goal.returns-then-arrives-clause-history
returns-then-arrives-clause-history c =
    ok_more c.receive.result (λ _. (rules : Rules) (earlier : Earlier) (e : Entity) → IsPeer rules c.args.far.now earlier e → IsPeer rules c.receive.new.self earlier (hears rules (size_of c.args.far.now) (am_reading c.build.new.out) e)) _
    (λ _ hears rules p is.
    let built = c.if-build.ensures.history rules nothing_earlier p.near.entity is.near.peer in
    subst (λ kept. AreRunning rules c.build.new.self c.receive.new.self (landed rules kept (builds_one rules p))) (sym c.if-arrives.true)
    (meets_block rules c.args.near.now c.build.new.self c.args.far.now c.receive.new.self p c.build.new.out is c.build.ensures.same c.receive.ensures.same built.0 built.1 built.2 (hears rules nothing_earlier p.far.entity is.far.peer)))
    c.receive.ensures.history

pub returns-clause-history : goal.returns-clause-history
returns-clause-history c rules p is =
    let built = c.build.ensures.history rules nothing_earlier p.near.entity is.near.peer in
    meets_none rules c.args.near.now c.build.new.self c.args.far.now p c.args.arrives c.build.result is c.build.ensures.same built.0 built.2
    (elim c.else-build.branch [ else-build-via-then-build+else-arrives w ↦ (λ _. w.if-arrives.false) | else-build-via-else-build w ↦ (λ t. let f = w.if-build.false in absurd (cc)) ])
