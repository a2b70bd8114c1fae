-- What a run of the command `link` does.
use Rattle.std.specs.Prelude.{◌≡◌, ◌*◌, ℕ, List, [], ◌∷◌, Bool, Some}
use Rattle.dch_io.specs.Ends.{End}
use Rattle.dch_check.specs.declared.both.Configurations.{Configurations}
use Rattle.dch_gen.specs.LinkLink.{active}
use Rattle.dch_gen.specs.LinkNodes.{HaveHistories}
use Rattle.dch_runlaw.specs.LinkcmdRules.{link_lines}
use Rattle.dch_runlaw.specs.LinkcmdRun.{Run, opened_run}
use Rattle.dch_runlaw.specs.LinkcmdRunLines.{AreRunLines}
use Rattle.dch_lines.specs.Coming.{coming}
use Rattle.dch_nodecmd.specs.NodebValues.{Node as NodeB}
use Rattle.dch_nodecmd.specs.RncValues.{Node as Rnc}
use Rattle.dch_nodecmd.specs.UeValues.{Node as Ue}
use Rattle.dch_top.specs.Benches.{Nodes}
use Rattle.dch_top.specs.NodeRuns.{RunsWith, later_of}
use Rattle.dch_check.specs.declared.status.Status.{Status}
use Rattle.dch_check.specs.declared.front.FrontKind.TheVariants.{Both}

-- the run of three nodes before the first line
abbrev pub run_of : ℕ → Bool → Configurations → Run
run_of start quiet accepted = opened_run accepted.first (later_of accepted.second) (8 * start) quiet

-- each of three nodes stands for just what happened at it in a run
abbrev pub HaveRunHistories : Ue → NodeB → Rnc → Run → Type 0
HaveRunHistories ue node_b rnc run = HaveHistories run.began (active run.link) run.first run.link ue node_b rnc

-- the bench holds all three nodes, each of which stands for just what happened at it in a run
pub record HoldsLink (nodes : Nodes) (run : Run) : Type 0 where
  pub ue : Ue
  pub node_b : NodeB
  pub rnc : Rnc
  pub all : nodes ≡ record { ue = Some ue; node_bs = node_b ∷ []; rnc = Some rnc }
  pub histories : HaveRunHistories ue node_b rnc run

-- a run of `link`
abbrev pub RunsLink : ℕ → Bool → End → End → Nodes → Status → Type 0
RunsLink start quiet source sink nodes status = RunsWith Both link_lines (run_of start quiet)
    HoldsLink source sink nodes status

-- the lines are good ones of three nodes that were opened for configurations, none of which is refused where those
-- before it lead
abbrev pub AreLinkLines : Configurations → List (List ℕ) → Type 0
AreLinkLines accepted lines = AreRunLines accepted.first.config (coming (later_of accepted.second)) 0 lines
