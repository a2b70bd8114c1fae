-- What a generator has, and what it stands for.
use Rattle.std.specs.Prelude.{◌≡◌, ◌<◌, ◌+◌, ◌*◌, ◌++◌, ℕ, List, true}
use Rattle.dch_types.specs.declared.channel.Dir.{Dir}
use Rattle.dch_types.specs.declared.config.Config.{Config}
use Rattle.dch_accept.specs.Plans.{Planned}
use Rattle.dch_accept.specs.Reports.{step_bytes}
use Rattle.dch_node.specs.Lines.{Line}
use Rattle.dch_link.specs.Link.{LinkState, opened_link}
use Rattle.dch_link.specs.LinkNodes.{IsLinkOf, Represents, SendsTo}
use Rattle.dch_link.specs.Values.{Nodes}
use Rattle.dch_gen.specs.Counting.{AreCountsOf, HasRoom}
use Rattle.dch_gen.specs.declared.counts.Counts.{Counts}
use Rattle.dch_gen.specs.Run.{PassFrames}

-- the configuration, the nodes, and what was counted
pub record Parts : Type 0 where
  pub accepted : Planned
  pub link : Nodes
  pub counts : Counts

-- a step tells of lines with less text than so many bytes
abbrev pub stage_bytes : Config → ℕ
stage_bytes config = step_bytes config + 2400

-- the first six bearers send in both directions
abbrev pub HasBearers : Planned → Type 0
HasBearers planned = (dir : Dir) (b : ℕ) → b < 6 → SendsTo planned dir b

-- what a generator keeps at any time
pub record IsReady (parts : Parts) : Type 0 where
  pub opened : IsLinkOf parts.accepted parts.link
  pub bearers : HasBearers parts.accepted
  pub exact : parts.counts.is_exact ≡ true

-- its counts may grow by the bytes of so many steps
pub record MayCount (parts : Parts) (steps : ℕ) : Type 0 where
  pub room : HasRoom parts.counts (steps * stage_bytes parts.accepted.config)

-- a generator has gone through the first f frames of n: its nodes stand for them, and its counts for what they told
pub record HasPassed (first n f : ℕ) (parts : Parts) : Type 0 where
  pub link : LinkState
  pub lines : List Line
  pub passed : PassFrames n f (opened_link parts.accepted first) link lines
  pub stands : Represents parts.accepted parts.accepted first link parts.link
  pub counted : AreCountsOf lines parts.counts

-- something was done from a state of the nodes, and the lines that it told were counted
pub record GoesOn (first : ℕ) (Does : LinkState → List Line → Type 0) (old new : Parts) : Type 0 where
  pub next : LinkState
  pub lines : List Line
  pub does : Does next lines
  pub stands : Represents old.accepted old.accepted first next new.link
  pub counted : (before : List Line) → AreCountsOf before old.counts → AreCountsOf (before ++ lines) new.counts

-- the same from any state that the nodes stand for, with the text of so many steps at most
pub record Advances (steps : ℕ) (Does : LinkState → LinkState → List Line → Type 0) (old new : Parts) : Type 0 where
  pub goes : (first : ℕ) (link : LinkState) → Represents old.accepted old.accepted first link old.link
      → GoesOn first (Does link) old new
  pub ready : IsReady new
  pub same : new.accepted ≡ old.accepted
  pub counts : (more : ℕ) → MayCount old (steps + more) → MayCount new more
