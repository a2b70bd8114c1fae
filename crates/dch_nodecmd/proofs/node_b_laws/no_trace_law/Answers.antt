use Rattle.dch_nodecmd.proofs.NodeBNoTrace.{no_trace}
use Rattle.dch_nodecmd.proofs.node_b_laws.no_trace_law.Goals as goal

pub returns : goal.returns
returns c = no_trace
