use Rattle.std.proofs.Common.{[], ◌∷◌, subst}
use Rattle.dch_types.specs.declared.channel.Dir.TheVariants.{Down}
use Rattle.dch_node.specs.IubFrames.{refusal_number}
use Rattle.dch_node.specs.Lines.{IubBad}
use Rattle.dch_nodecmd.specs.NodeBRules.{node_b_rules}
use Rattle.dch_nodecmd.proofs.NodeBNoTrace.{no_trace}
use Rattle.dch_top.specs.NodeRuns.{run_of}
use Rattle.dch_top.specs.Traces.{LeavesNoTrace}
use Rattle.dch_top.proofs.BadFrames.{node_b_refused}
use Rattle.dch_top.proofs.Traces.{answered, traceless}
use Rattle.dch_top.proofs.trace_laws.node_b_trace_law.Goals as goal

pub returns : goal.returns
returns c = record {
  answers = answered node_b_rules _;
  no_trace = λ start quiet input shorter written before after line set number answer has bad.
      let is = node_b_refused (run_of node_b_rules start quiet answer.accepted) before line set number bad in
      subst (λ n. LeavesNoTrace node_b_rules start quiet shorter (IubBad Down set n ∷ []) written) is.1.1
      (traceless node_b_rules start quiet input shorter written before after line (IubBad Down set (refusal_number is.0) ∷ []) answer has
      (no_trace (run_of node_b_rules start quiet answer.accepted) answer.new before after line answer.text set is.0 is.1.0));
}
