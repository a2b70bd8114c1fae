-- Two runs of the command `link` that say the same.
use Rattle.std.specs.Prelude.{◌≡◌, IfSome}
use Rattle.dch_accept.specs.Plans.{IsPlanned}
use Rattle.dch_link.specs.Passing.{IsStage}
use Rattle.dch_link.specs.Same.{ArePlanned, IsSameLink}
use Rattle.dch_linkcmd.specs.Run.{Run}

-- the nodes say the same, and the runs agree in all that their lines look at
pub record IsSameRun (run other : Run) : Type 0 where
  pub link : IsSameLink run.link other.link
  pub second : other.second ≡ run.second
  pub quiet : other.quiet ≡ run.quiet
  pub stage : other.stage ≡ run.stage
  pub left : other.left ≡ run.left
  pub frames : other.frames ≡ run.frames

-- the next stage is one that there is, and each configuration can be accepted, the second one where it is still to come
-- too
pub record IsPlannedRun (run : Run) : Type 0 where
  pub link : ArePlanned run.link
  pub second : IfSome run.second (λ later. IsPlanned later.accepted)
  pub stage : IsStage run.stage
