use Rattle.dch_nodecmd.proofs.NoTrace.{no_trace}
use Rattle.dch_nodecmd.proofs.laws.no_trace_law.Goals as goal

pub returns : goal.returns
returns g c = λ run new before after line text lines nothing handles. no_trace g.N.CommandNode.rules run new before after line text lines g.met.N.CommandNode.lasting nothing handles
