use Rattle.dch_collision.proofs.Flags.{AreCarried}
use Rattle.dch_collision.proofs.flagging.uplink_sent_flags.Given as goal

abbrev pub invariant-loop-n : goal.invariant-loop-n
invariant-loop-n l = AreCarried l.config l.i l.f l.sequence l.sent_flags l.n
