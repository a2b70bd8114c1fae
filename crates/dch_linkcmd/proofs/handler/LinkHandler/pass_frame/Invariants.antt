use Rattle.dch_linkcmd.proofs.Framing.{FrameOn}
use Rattle.dch_linkcmd.proofs.handler.LinkHandler.pass_frame.Given as goal

abbrev pub invariant-loop : goal.invariant-loop
invariant-loop g l = FrameOn g.P.Page.writes l.counter l.initial.self l.self l.initial.page l.page
