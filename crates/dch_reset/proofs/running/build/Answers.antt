use Rattle.std.proofs.Common.{◌≡◌, ◌++◌, ◌∷◌, [], is_ok, arith, refl, subst, sym}
use Rattle.dch_pair.proofs.Units.{ok_more}
use Rattle.dch_reset.specs.Ends.{Build, happens_near}
use Rattle.dch_reset.specs.RunStanding.{AreRunning, Fit, size_of}
use Rattle.dch_reset.proofs.Meeting.{meets_block, meets_none, push_fits, pushed}
use Rattle.dch_reset.proofs.running.build.Goals as goal

pub returns-then-build-clause-fit : goal.returns-then-build-clause-fit
returns-then-build-clause-fit c = subst (Fit (size_of c.args.near.now)) (sym c.push.ensures) (push_fits (size_of c.args.near.now) (is_ok c.push.result) c.args.out.now c.build.new.out c.requires.fit (omega (arith, c.build.ensures.size)))

pub returns-then-build-clause-history : goal.returns-then-build-clause-history
returns-then-build-clause-history c =
    ok_more c.push.result (λ _. c.push.new.self ≡ c.args.out.now ++ c.build.new.out ∷ []) _
    (λ _ e rules far back p is. subst (λ line. AreRunning rules c.build.new.self far line back (happens_near rules p Build)) (sym e)
    (meets_block rules c.args.near.now c.build.new.self far c.args.out.now back c.build.new.out p is (c.if-build.ensures.sent rules p.near is.near refl) (c.build.ensures.history rules p.near is.near)))
    (pushed c.push.result c.push.new.self c.args.out.now c.build.new.out c.push.ensures)

pub returns-clause-history : goal.returns-clause-history
returns-clause-history c rules far back p is = meets_none rules c.args.near.now c.build.new.self far c.args.out.now back p is (c.if-build.ensures.due rules p.near is.near) (c.build.ensures.history rules p.near is.near)
