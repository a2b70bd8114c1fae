-- The parts of a run of three nodes: the first one begins at opening, and a second one where another configuration
-- becomes active.
use Rattle.std.specs.Prelude.{◌≡◌, ◌⊎◌, ℕ, List}
use Rattle.dch_config.specs.Changes.{KeepsBearer}
use Rattle.dch_accept.specs.Plans.{IsPlanned, Planned}
use Rattle.dch_node.specs.Lines.{Line}
use Rattle.dch_linkcmd.specs.LinkChanging.{Changes}
use Rattle.dch_linkcmd.specs.LinkLink.{LinkState, opened_link}
use Rattle.dch_runlaw.specs.Runs.{Event, Runs}

-- the events of a first part, which begins at opening, have these lines, and behind them a second configuration becomes
-- active
pub record GoesOver (planned second : Planned) (first : ℕ) (events : List Event) (lines : List Line)
    (start : LinkState) : Type 0 where
  pub last : LinkState
  pub run : Runs (opened_link planned first) events last lines
  pub changes : Changes second last start

-- every bearer goes on in the second configuration
abbrev pub KeepsAll : Planned → Planned → Type 0
KeepsAll planned second = (b : ℕ) → KeepsBearer planned.config second.config b

-- a part begins at opening
pub record BeginsFirst (planned : Planned) (start : LinkState) : Type 0 where
  pub first : ℕ
  pub is : start ≡ opened_link planned first

-- or behind another part, whose configuration keeps its limits
pub record BeginsSecond (planned : Planned) (start : LinkState) : Type 0 where
  pub before : Planned
  pub good : IsPlanned before
  pub kept : KeepsAll before planned
  pub first : ℕ
  pub events : List Event
  pub lines : List Line
  pub over : GoesOver before planned first events lines start

-- a part of a run begins at opening, or behind another part whose configuration keeps its limits
abbrev pub Begins : Planned → LinkState → Type 0
Begins planned start = BeginsFirst planned start ⊎ BeginsSecond planned start
