-- TTIs in runs in soft handover.
use Rattle.std.specs.Prelude.{◌≡◌, ◌+◌, ℕ, List, [], ◌∷◌, true}
use Rattle.dch_types.specs.Timing.{starts}
use Rattle.dch_node.specs.Lines.{Line}
use Rattle.dch_linkcmd.specs.LinkSoft.{SoftState}
use Rattle.dch_linkcmd.specs.soft_stage.Stage.{Stage}
use Rattle.dch_linkcmd.specs.soft_stage.Stage.TheVariants.{RncTick, IubDown, RadioDown, UeTick, RadioUp, IubUp, Combine}
use Rattle.dch_runlaw.specs.SoftRuns.{Between, Move, Next, Point, Runs}

-- how many radio frames the terminal sends in a stage, and in a run
abbrev pub frames_at : Stage → ℕ
frames_at RncTick = 0
frames_at (IubDown leg set) = 0
frames_at (RadioDown leg) = 0
frames_at UeTick = 1
frames_at (RadioUp leg) = 0
frames_at (IubUp set leg) = 0
frames_at (Combine set) = 0

abbrev pub frames_in : (moves : List Move) → (old new : Point) → (lines : List Line) → Runs old moves new lines → ℕ
frames_in [] old new lines run = 0
frames_in (Between event ∷ moves) old new lines run = frames_in moves run.next new run.rest run.later
frames_in (Next ∷ moves) old new lines run = frames_at old.stage + frames_in moves run.next new run.rest run.later

-- what holds in each stage of a run
abbrev pub InStages : (Stage → (old new : SoftState) → Type 0) → (moves : List Move) → (old new : Point)
    → (lines : List Line) → Runs old moves new lines → Type 0
InStages P [] old new lines run = Unit {0}
InStages P (Between event ∷ moves) old new lines run = InStages P moves run.next new run.rest run.later
InStages P (Next ∷ moves) old new lines run = P old.stage old.soft run.step.soft
    × InStages P moves run.next new run.rest run.later

-- a TTI of so many radio frames: it starts at a point, and at another one the legs' Iub frames of a set for it are to
-- be combined, in its last radio frame
pub record Tti (frames set : ℕ) (old last : Point) : Type 0 where
  pub at_rest : old.stage ≡ RncTick
  pub at_start : starts frames old.soft.cfn ≡ true
  pub moves : List Move
  pub lines : List Line
  pub run : Runs old moves last lines
  pub at_end : last.stage ≡ Combine set
  pub count : frames_in moves old last lines run ≡ frames

abbrev pub InTti : (Stage → (old new : SoftState) → Type 0) → (frames set : ℕ) → (old last : Point)
    → Tti frames set old last → Type 0
InTti P frames set old last t = InStages P t.moves old last t.lines t.run
