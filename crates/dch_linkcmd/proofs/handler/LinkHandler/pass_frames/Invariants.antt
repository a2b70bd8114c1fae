use Rattle.dch_linkcmd.proofs.Framing.{FramesOn}
use Rattle.dch_linkcmd.proofs.handler.LinkHandler.pass_frames.Given as goal

abbrev pub invariant-loop : goal.invariant-loop
invariant-loop g l = FramesOn g.P.Page.writes l.counter l.initial.self l.self l.initial.page l.page
