use Rattle.std.proofs.Common.{subst}
use Rattle.dch_layer2.specs.BearerStanding.{Represents}
use Rattle.dch_layer2.proofs.Bearings.{am_head, um_head_is}
use Rattle.dch_layer2.proofs.bearer.Bearer.head.Goals as goal

pub returns-in-Um : goal.returns-in-Um
returns-in-Um c config out into b now is = um_head_is config out into b now c.in-Um.bearer c.head-in-Um.result (subst (Represents config out into b now) c.in-Um.is is) c.head-in-Um.ensures

pub returns-in-Am : goal.returns-in-Am
returns-in-Am c config out into b now is = am_head config out into b now c.in-Am.bearer c.head-in-Am.result (subst (Represents config out into b now) c.in-Am.is is) c.head-in-Am.ensures.size c.head-in-Am.ensures.count
