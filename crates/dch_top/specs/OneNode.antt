-- What a run of a command with one node does: of `nodeb`, `rnc` and `ue`.
use Rattle.std.specs.Prelude.{ℕ, [], ◌∷◌, Bool, Some}
use Rattle.dch_io.specs.Ends.{End}
use Rattle.dch_nodecmd.specs.NodebStanding.{Represents as RepresentsNodeB, Shows as ShowsNodeB}
use Rattle.dch_nodecmd.specs.NodeBRules.{node_b_rules}
use Rattle.dch_nodecmd.specs.RncStanding.{Represents as RepresentsRnc, Shows as ShowsRnc}
use Rattle.dch_nodecmd.specs.RncRules.{rnc_rules}
use Rattle.dch_nodecmd.specs.UeStanding.{Represents as RepresentsUe, Shows as ShowsUe}
use Rattle.dch_nodecmd.specs.UeRules.{ue_rules}
use Rattle.dch_top.specs.Benches.{Nodes, no_nodes}
use Rattle.dch_top.specs.NodeRuns.{HoldsNode, RunsNode}
use Rattle.dch_check.specs.declared.status.Status.{Status}

-- a run of `nodeb`, after which the bench holds just a Node B
abbrev pub RunsNodeB : ℕ → Bool → End → End → Nodes → Status → Type 0
RunsNodeB start quiet source sink nodes status = RunsNode node_b_rules
    (HoldsNode node_b_rules RepresentsNodeB ShowsNodeB (λ node. record no_nodes { node_bs = node ∷ [] }))
    start quiet source sink nodes status

-- a run of `rnc`, after which it holds just a network controller
abbrev pub RunsRnc : ℕ → Bool → End → End → Nodes → Status → Type 0
RunsRnc start quiet source sink nodes status = RunsNode rnc_rules
    (HoldsNode rnc_rules RepresentsRnc ShowsRnc (λ node. record no_nodes { rnc = Some node }))
    start quiet source sink nodes status

-- a run of `ue`, after which it holds just a terminal
abbrev pub RunsUe : ℕ → Bool → End → End → Nodes → Status → Type 0
RunsUe start quiet source sink nodes status = RunsNode ue_rules
    (HoldsNode ue_rules RepresentsUe ShowsUe (λ node. record no_nodes { ue = Some node }))
    start quiet source sink nodes status
