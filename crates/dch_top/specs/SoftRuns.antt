-- What a run of the command `soft` does.
use Rattle.std.specs.Prelude.{◌≡◌, ◌⊎◌, ◌*◌, ℕ, List, Bool, true, All, Some, length}
use Rattle.dch_io.specs.Ends.{End}
use Rattle.dch_types.specs.declared.config.Config.{Config}
use Rattle.dch_check.specs.declared.both.Configurations.{Configurations}
use Rattle.dch_lines.specs.LineTexts.{is_empty}
use Rattle.dch_gen.specs.LinkSoft.{active}
use Rattle.dch_gen.specs.SoftNodes.{HaveHistories}
use Rattle.dch_gen.specs.SoftValues.{LegParts}
use Rattle.dch_runlaw.specs.SoftLineEvents.{Said, Says}
use Rattle.dch_runlaw.specs.SoftRules.{soft_lines}
use Rattle.dch_runlaw.specs.SoftRun.{Run, opened_run}
use Rattle.dch_nodecmd.specs.RncValues.{Node as Rnc}
use Rattle.dch_nodecmd.specs.UeValues.{Node as Ue}
use Rattle.dch_top.specs.Benches.{Nodes, node_bs_of}
use Rattle.dch_top.specs.NodeRuns.{RunsWith}
use Rattle.dch_check.specs.declared.status.Status.{Status}
use Rattle.dch_check.specs.declared.front.FrontKind.TheVariants.{Single}

-- the run of the nodes with so many legs before the first line
abbrev pub run_of : ℕ → ℕ → Bool → Configurations → Run
run_of legs start quiet accepted = opened_run accepted.first (8 * start) legs quiet

-- each of the nodes stands for just what happened at it in a run
abbrev pub HaveRunHistories : Ue → List LegParts → Rnc → Run → Type 0
HaveRunHistories ue legs rnc run = HaveHistories (active run.soft) run.first run.soft ue legs rnc

-- the bench holds the terminal, the Node Bs of so many legs and the network controller, each of which stands for just
-- what happened at it in a run
pub record HoldsSoft (count : ℕ) (nodes : Nodes) (run : Run) : Type 0 where
  pub ue : Ue
  pub legs : List LegParts
  pub rnc : Rnc
  pub all : nodes ≡ record { ue = Some ue; node_bs = node_bs_of legs; rnc = Some rnc }
  pub many : length nodes.node_bs ≡ count
  pub histories : HaveRunHistories ue legs rnc run

-- they have as many legs as the run
abbrev pub HoldsLegs : Nodes → Run → Type 0
HoldsLegs nodes run = HoldsSoft run.soft.count nodes run

-- a run of `soft`
abbrev pub RunsSoft : ℕ → ℕ → Bool → End → End → Nodes → Status → Type 0
RunsSoft legs start quiet source sink nodes status = RunsWith Single soft_lines (run_of legs start quiet)
    (HoldsSoft legs) source sink nodes status

-- each line is empty, or says something to the nodes of a soft handover over so many legs
abbrev pub AreSoftLines : ℕ → Config → List (List ℕ) → Type 0
AreSoftLines legs config lines = All (λ line. (is_empty line ≡ true)
    ⊎ ((said : Said) × Says legs config line said)) lines
