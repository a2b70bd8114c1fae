-- A handle that holds a node of which something is told.
use Rattle.std.specs.Prelude.{◌≡◌, ℕ, List, [], Option, Some, None, false}
use Rattle.dch_nodeb.specs.Values.{Node as NodeBNode}
use Rattle.dch_rnc.specs.Values.{Node as RncNode}
use Rattle.dch_ue.specs.Values.{Node as UeNode}
use Rattle.dch_check.specs.Both.{AreAcceptedAs}
use Rattle.dch_check.specs.declared.both.Configurations.{Configurations}
use Rattle.dch_handle.specs.declared.held.Held.{Held}
use Rattle.dch_handle.specs.declared.held.Held.TheVariants.{Decoder, Channels, Rnc, Ue, NodeB}
use Rattle.dch_handle.specs.declared.told.Told.{Told}
use Rattle.dch_handle.specs.NodeRules.{NodeRules}
use Rattle.dch_handle.specs.Runs.{IsOpened, Run}
use Rattle.dch_handle.specs.Telling.{IsPulled, Waiting}

abbrev pub HoldsRnc : (Run RncNode → Type 0) → Option Held → Type 0
HoldsRnc P None = ⊥
HoldsRnc P (Some (Decoder most)) = ⊥
HoldsRnc P (Some (Channels trchs)) = ⊥
HoldsRnc P (Some (Rnc run)) = P run
HoldsRnc P (Some (Ue run)) = ⊥
HoldsRnc P (Some (NodeB run)) = ⊥

abbrev pub HoldsUe : (Run UeNode → Type 0) → Option Held → Type 0
HoldsUe P None = ⊥
HoldsUe P (Some (Decoder most)) = ⊥
HoldsUe P (Some (Channels trchs)) = ⊥
HoldsUe P (Some (Rnc run)) = ⊥
HoldsUe P (Some (Ue run)) = P run
HoldsUe P (Some (NodeB run)) = ⊥

abbrev pub HoldsNodeB : (Run NodeBNode → Type 0) → Option Held → Type 0
HoldsNodeB P None = ⊥
HoldsNodeB P (Some (Decoder most)) = ⊥
HoldsNodeB P (Some (Channels trchs)) = ⊥
HoldsNodeB P (Some (Rnc run)) = ⊥
HoldsNodeB P (Some (Ue run)) = ⊥
HoldsNodeB P (Some (NodeB run)) = P run

-- what a node told that was not pulled; other kinds tell nothing
abbrev pub nothing_told : Waiting
nothing_told = record { told = []; letters = []; heads_left = 0; room_left = 0; most = 0; room = 0; lost = false }

abbrev pub waiting_of : Held → Waiting
waiting_of (Decoder most) = nothing_told
waiting_of (Channels trchs) = nothing_told
waiting_of (Rnc run) = run.waiting
waiting_of (Ue run) = run.waiting
waiting_of (NodeB run) = run.waiting

-- the first value was pulled, and nothing else changed
pub record PullsFrom (told : Told) (before after : List ℕ) {V : Type 0} (old new : Run V) : Type 0 where
  pub pulled : IsPulled old.waiting new.waiting told before after
  pub same : new ≡ record old { waiting = new.waiting }

abbrev pub HoldsPulled : Held → Told → List ℕ → List ℕ → Option Held → Type 0
HoldsPulled (Decoder most) told before after new = ⊥
HoldsPulled (Channels trchs) told before after new = ⊥
HoldsPulled (Rnc run) told before after new = HoldsRnc (PullsFrom told before after run) new
HoldsPulled (Ue run) told before after new = HoldsUe (PullsFrom told before after run) new
HoldsPulled (NodeB run) told before after new = HoldsNodeB (PullsFrom told before after run) new

-- a node was opened at a CFN for the configurations of a text that is accepted
pub record IsOpenedFrom {S E V : Type 0} (rules : NodeRules S E V) (text : List ℕ) (first : ℕ) (run : Run V)
    : Type 0 where
  pub both : Configurations
  pub accepted : AreAcceptedAs text both
  pub opened : IsOpened rules both first run
