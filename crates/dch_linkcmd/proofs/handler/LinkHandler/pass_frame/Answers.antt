use Rattle.std.proofs.Common.{◌≡◌, ℕ, arith, subst}
use Rattle.dch_linkcmd.specs.Rules.{link_steps}
use Rattle.dch_linkcmd.specs.Handlers.{RepresentsRun}
use Rattle.dch_linkcmd.proofs.Frames.{Passed}
use Rattle.dch_linkcmd.proofs.Framing.{frame_on_next, frame_on_none}
use Rattle.dch_linkcmd.proofs.handler.LinkHandler.pass_frame.Goals as goal

pub loop-init : goal.loop-init
loop-init g c = frame_on_none g.P.Page.writes g.met.P.Page.nothing c.args.self.now c.args.page.now c.requires.ready c.requires.first

pub pass-requires-clause-left : goal.pass-requires-clause-left
pass-requires-clause-left g c = omega (arith, (c.loop.invariant.frame.on c.loop-test.true).1, c.requires.left)

pub loop-preserved : goal.loop-preserved
loop-preserved g c = frame_on_next g.P.Page.writes g.met.P.Page.joined c.loop.counter c.args.self.now c.loop.self c.pass.new.self c.args.page.now c.loop.page c.pass.new.page c.loop-test.true c.loop.invariant c.pass.ensures.passes c.pass.ensures.ready c.pass.ensures.lines c.pass.ensures.goes

pub returns : goal.returns
returns g c =
    let last : c.loop.counter ≡ 20 = omega (arith, c.loop-test.false, c.loop.auto.counter-end) in
    let over = c.loop.invariant.frame.over last in
    record {
      passes = subst (λ (k : ℕ). Passed RepresentsRun g.P.Page.writes link_steps k c.args.self.now c.loop.self c.args.page.now c.loop.page) last c.loop.invariant.passed;
      ready = c.loop.invariant.ready;
      first = over.0;
      left = over.1;
      lines = c.loop.invariant.lines;
    }
