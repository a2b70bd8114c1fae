-- What a run of the command `gen` does, and what the bench holds then.
use Rattle.std.specs.Prelude.{◌≡◌, ℕ, [], ◌∷◌, Some}
use Rattle.std.specs.Io.KnownBytes.{Appends}
use Rattle.dch_io.specs.Ends.{End}
use Rattle.dch_nodecmd.specs.NodebValues.{Node as NodeB}
use Rattle.dch_nodecmd.specs.RncValues.{Node as Rnc}
use Rattle.dch_nodecmd.specs.UeValues.{Node as Ue}
use Rattle.dch_gen.specs.GenRuns.{CutsSummary, WritesSummary}
use Rattle.dch_top.specs.Benches.{Nodes, no_nodes}
use Rattle.dch_check.specs.declared.status.Status.{Status}
use Rattle.dch_check.specs.declared.status.Status.TheVariants.{Ok, WriteFault, NoMemory}

-- the sink took the summary of a run, and the bench holds all three nodes, each of which stands for just what happened
-- at it in this run
pub record HoldsGen (start frames : ℕ) (sink : End) (nodes : Nodes) : Type 0 where
  pub ue : Ue
  pub node_b : NodeB
  pub rnc : Rnc
  pub all : nodes ≡ record { ue = Some ue; node_bs = node_b ∷ []; rnc = Some rnc }
  pub writes : WritesSummary start frames sink ue node_b rnc

-- how a run of `gen` ends by each status: what was written, and what the bench holds
abbrev pub EndsGen : ℕ → ℕ → End → Nodes → Status → Type 0
EndsGen start frames sink nodes Ok = HoldsGen start frames sink nodes
EndsGen start frames sink nodes WriteFault = CutsSummary start frames sink × (nodes ≡ no_nodes)
EndsGen start frames sink nodes NoMemory = Appends sink.before sink.now [] × (nodes ≡ no_nodes)
EndsGen start frames sink nodes _ = ⊥

-- and nothing is read
pub record RunsGen (start frames : ℕ) (source sink : End) (nodes : Nodes) (status : Status) : Type 0 where
  pub ends : EndsGen start frames sink nodes status
  pub unread : source.now ≡ source.before
