-- Runs in soft handover: what happens between radio frames, and the stages of radio frames, one after another, with the
-- lines of all.
use Rattle.std.specs.Prelude.{◌≡◌, ◌++◌, ℕ, List, [], ◌∷◌, Option, Some, None}
use Rattle.dch_accept.specs.Plans.{Planned}
use Rattle.dch_node.specs.Lines.{Line}
use Rattle.dch_linkcmd.specs.SoftEvents.{Event, Happens}
use Rattle.dch_linkcmd.specs.SoftPassing.{next_stage}
use Rattle.dch_linkcmd.specs.LinkSoft.{SoftState, framed, opened_soft}
use Rattle.dch_linkcmd.specs.SoftStages.{AtStage}
use Rattle.dch_linkcmd.specs.soft_stage.Stage.{Stage}
use Rattle.dch_linkcmd.specs.soft_stage.Stage.TheVariants.{RncTick}

-- the nodes, and the next stage of the radio frame that is on
pub record Point : Type 0 where
  pub soft : SoftState
  pub stage : Stage

abbrev pub opened_point : Planned → ℕ → ℕ → Point
opened_point planned first legs = record { soft = opened_soft planned first legs; stage = RncTick }

-- something happens between two radio frames, or the next stage of a radio frame passes
pub data Move : Type 0 where
  Between : (event : Event) → Move
  Next : Move

pub record HappensBetween (old : Point) (event : Event) (new : Point) (lines : List Line) : Type 0 where
  pub at_rest : old.stage ≡ RncTick
  pub soft : SoftState
  pub happens : Happens old.soft event soft lines
  pub is : new ≡ record { soft = soft; stage = RncTick }

-- behind the last stage of a radio frame no damage waits any more, and the first stage of the next one comes
abbrev pub behind : SoftState → Option Stage → Point
behind soft (Some stage) = record { soft = soft; stage = stage }
behind soft None = record { soft = framed soft; stage = RncTick }

pub record Passes (old new : Point) (lines : List Line) : Type 0 where
  pub soft : SoftState
  pub passes : AtStage old.stage old.soft soft lines
  pub is : new ≡ behind soft (next_stage old.soft.count old.stage)

abbrev pub Steps : Point → Move → Point → List Line → Type 0
Steps old (Between event) new lines = HappensBetween old event new lines
Steps old Next new lines = Passes old new lines

-- a move, and what comes after it
pub record RunStep (Rest : Point → List Line → Type 0) (old : Point) (move : Move) (lines : List Line) : Type 0 where
  pub next : Point
  pub own : List Line
  pub rest : List Line
  pub step : Steps old move next own
  pub later : Rest next rest
  pub reported : lines ≡ own ++ rest

-- the moves lead from a point to another one with these lines in all
abbrev pub Runs : Point → List Move → Point → List Line → Type 0
Runs old [] new lines = (new ≡ old) × (lines ≡ [])
Runs old (move ∷ moves) new lines = RunStep (λ next rest. Runs next moves new rest) old move lines
