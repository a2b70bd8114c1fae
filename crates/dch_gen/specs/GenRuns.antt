-- What a run of the command `gen` does.
use Rattle.std.specs.Prelude.{◌*◌, ℕ, List, [], Result, Ok, Err}
use Rattle.std.specs.Io.KnownBytes.{Appends}
use Rattle.dch_io.specs.Ends.{End, Breaks}
use Rattle.dch_accept.specs.Answers.{IsAccepted}
use Rattle.dch_accept.specs.Plans.{IsPlanned, Planned}
use Rattle.dch_node.specs.Lines.{Line}
use Rattle.dch_link.specs.NodebValues.{Node as NodeB}
use Rattle.dch_link.specs.RncValues.{Node as Rnc}
use Rattle.dch_link.specs.UeValues.{Node as Ue}
use Rattle.dch_link.specs.Link.{LinkState}
use Rattle.dch_link.specs.LinkNodes.{HaveHistories}
use Rattle.dch_gen.specs.Summary.{summary}
use Rattle.dch_gen.specs.Configuration.{gen_config}
use Rattle.dch_gen.specs.Run.{Runs}
use Rattle.dch_gen.specs.declared.run.GenFault.{GenFault}
use Rattle.dch_gen.specs.declared.run.GenFault.TheVariants.{WriteFault, NoMemory}

-- the configuration of `gen`, accepted, with the plans of its rate matching
pub record IsConfigured (accepted : Planned) : Type 0 where
  pub is : IsAccepted gen_config accepted
  pub plans : IsPlanned accepted

-- three nodes that are opened for it run through so many radio frames
pub record GenRun (start frames : ℕ) : Type 0 where
  pub accepted : Planned
  pub is : IsConfigured accepted
  pub link : LinkState
  pub lines : List Line
  pub runs : Runs accepted (8 * start) frames link lines

-- the summary of a run
abbrev pub summary_of : {start frames : ℕ} → GenRun start frames → List ℕ
summary_of {start} {frames} run = summary frames run.lines

-- the sink took the summary of a run, and each of three nodes stands for just what happened at it in this run
pub record WritesSummary (start frames : ℕ) (sink : End) (ue : Ue) (node_b : NodeB) (rnc : Rnc) : Type 0 where
  pub run : GenRun start frames
  pub writes : Appends sink.before sink.now (summary_of run)
  pub histories : HaveHistories run.accepted run.accepted (8 * start) run.link ue node_b rnc

-- the sink failed within the summary of a run
pub record CutsSummary (start frames : ℕ) (sink : End) : Type 0 where
  pub run : GenRun start frames
  pub breaks : Breaks sink (summary_of run)

-- what a run gives
abbrev pub GivesNodes : ℕ → ℕ → End → Result (Ue × NodeB × Rnc) GenFault → Type 0
GivesNodes start frames sink (Ok nodes) = WritesSummary start frames sink nodes.0 nodes.1 nodes.2
GivesNodes start frames sink (Err WriteFault) = CutsSummary start frames sink
GivesNodes start frames sink (Err NoMemory) = Appends sink.before sink.now []
