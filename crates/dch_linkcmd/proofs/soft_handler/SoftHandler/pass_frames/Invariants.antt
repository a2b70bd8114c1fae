use Rattle.dch_linkcmd.proofs.SoftFraming.{FramesOn}
use Rattle.dch_linkcmd.proofs.soft_handler.SoftHandler.pass_frames.Given as goal

abbrev pub invariant-loop : goal.invariant-loop
invariant-loop g l = FramesOn g.P.Page.writes l.counter l.initial.self l.self l.initial.page l.page
