use Rattle.dch_nodecmd.proofs.RncNoTrace.{no_trace}
use Rattle.dch_nodecmd.proofs.rnc_laws.no_trace_law.Goals as goal

pub returns : goal.returns
returns c = no_trace
