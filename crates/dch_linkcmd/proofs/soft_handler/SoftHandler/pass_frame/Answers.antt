use Rattle.std.proofs.Common.{◌≡◌, ◌+◌, ◌*◌, ◌∙◌, arith, ap}
use Rattle.dch_linkcmd.proofs.SoftFraming.{frame_on_next, frame_on_none, frame_passed, stages_of}
use Rattle.dch_linkcmd.proofs.soft_handler.SoftHandler.pass_frame.Goals as goal

pub loop-init : goal.loop-init
loop-init g c = frame_on_none g.P.Page.writes g.met.P.Page.nothing c.args.self.now c.args.page.now c.requires.ready c.requires.first

pub pass-requires-clause-left : goal.pass-requires-clause-left
pass-requires-clause-left g c =
    let all : c.left-stages.result ≡ stages_of c.args.self.now = c.left-stages.ensures.value ∙ ap (λ n. 10 + 18 * n) c.legs.ensures ∙ ap stages_of c.self.view_is in
    omega (arith, (c.loop.invariant.frame.on (omega (arith, c.loop-test.true, all))).1, c.requires.left)

pub loop-preserved : goal.loop-preserved
loop-preserved g c =
    let all : c.left-stages.result ≡ stages_of c.args.self.now = c.left-stages.ensures.value ∙ ap (λ n. 10 + 18 * n) c.legs.ensures ∙ ap stages_of c.self.view_is in
    frame_on_next g.P.Page.writes g.met.P.Page.joined c.loop.counter c.args.self.now c.loop.self c.pass.new.self c.args.page.now c.loop.page c.pass.new.page (omega (arith, c.loop-test.true, all)) c.loop.invariant c.pass.ensures.passes c.pass.ensures.ready c.pass.ensures.lines c.pass.ensures.legs c.pass.ensures.goes

pub returns : goal.returns
returns g c =
    let all : c.left-stages.result ≡ stages_of c.args.self.now = c.left-stages.ensures.value ∙ ap (λ n. 10 + 18 * n) c.legs.ensures ∙ ap stages_of c.self.view_is in
    let last : c.loop.counter ≡ stages_of c.args.self.now = omega (arith, c.loop-test.false, c.loop.auto.counter-end, all) in
    let over = c.loop.invariant.frame.over last in
    record {
      passes = frame_passed g.P.Page.writes c.loop.counter c.args.self.now c.loop.self c.args.page.now c.loop.page last c.loop.invariant;
      ready = c.loop.invariant.ready;
      first = over.0;
      left = over.1;
      lines = c.loop.invariant.lines;
      legs = c.loop.invariant.legs;
    }
