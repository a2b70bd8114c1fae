use Rattle.std.proofs.Common.{◌≡◌, ◌+◌, ◌∙◌, true, false, not, arith, ap}
use Rattle.dch_linkcmd.proofs.SoftFraming.{FramesOn, frames_on_next, frames_on_none, frames_passed, left_off, none_left}
use Rattle.dch_linkcmd.proofs.soft_handler.SoftHandler.pass_frames.Goals as goal

pub loop-init : goal.loop-init
loop-init g c = frames_on_none g.P.Page.writes g.met.P.Page.nothing c.args.self.now c.args.page.now c.requires.ready c.requires.first

pub pass_frame-requires-clause-left : goal.pass_frame-requires-clause-left
pass_frame-requires-clause-left g c = omega (arith, c.loop-test.true, c.loop.invariant.left, c.requires.left)

pub loop-preserved : goal.loop-preserved
loop-preserved g c = frames_on_next g.P.Page.writes g.met.P.Page.joined c.loop.counter c.args.self.now c.loop.self c.pass_frame.new.self c.args.page.now c.loop.page c.pass_frame.new.page c.loop.invariant c.pass_frame.ensures.passes c.pass_frame.ensures.ready c.pass_frame.ensures.first c.pass_frame.ensures.left c.pass_frame.ensures.lines c.pass_frame.ensures.legs

pub returns-then-not-is_open : goal.returns-then-not-is_open
returns-then-not-is_open g c =
    let on : FramesOn g.P.Page.writes (c.loop.counter + 1) c.args.self.now c.pass_frame.new.self c.args.page.now c.pass_frame.new.page =
    frames_on_next g.P.Page.writes g.met.P.Page.joined c.loop.counter c.args.self.now c.loop.self c.pass_frame.new.self c.args.page.now c.loop.page c.pass_frame.new.page c.loop.invariant c.pass_frame.ensures.passes c.pass_frame.ensures.ready c.pass_frame.ensures.first c.pass_frame.ensures.left c.pass_frame.ensures.lines c.pass_frame.ensures.legs in
    let kept = left_off c.pass_frame.new.self c.leave_off.new.self c.leave_off.ensures.none in
    record {
      passes = frames_passed g.P.Page.writes (g.P.Page.broken c.pass_frame.new.page) (c.loop.counter + 1) c.args.self.now c.pass_frame.new.self c.leave_off.new.self c.args.page.now c.pass_frame.new.page (omega arith) c.requires.first on (λ unbroken. let shut : false ≡ true = c.if-not-is_open.ensures ∙ ap not unbroken in absurd (cc shut)) c.leave_off.ensures.none;
      ready = c.leave_off.ensures.ready;
      first = kept.0 ∙ on.first;
      none = kept.1;
      lines = kept.2 ∙ on.lines;
    }

pub returns : goal.returns
returns g c =
    let last : c.loop.counter ≡ c.args.count = omega (arith, c.loop-test.false, c.loop.auto.counter-end) in
    let on = c.loop.invariant in
    let none : c.loop.self.left ≡ 0 = omega (arith, on.left, last, c.requires.left) in
    record {
      passes = frames_passed g.P.Page.writes (g.P.Page.broken c.loop.page) c.loop.counter c.args.self.now c.loop.self c.loop.self c.args.page.now c.loop.page (omega (arith, last, c.requires.some)) c.requires.first on (λ _. none) (none_left c.loop.self none);
      ready = on.ready;
      first = on.first;
      none = none;
      lines = on.lines;
    }
