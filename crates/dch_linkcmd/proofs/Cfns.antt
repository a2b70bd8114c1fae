-- The CFN of the terminal goes on by the radio frames.
use Rattle.std.proofs.Common.{◌≡◌, ◌+◌, ◌%◌, ℕ, arith, subst, inl, inr, Some, None}
use Rattle.std.proofs.lemmas.Bool.Decides.{eqb_tells}
use Rattle.dch_link.specs.Passing.{cfn_after, next_stage}
use Rattle.dch_link.specs.declared.stage.Stage.{Stage}
use Rattle.dch_link.specs.declared.stage.Stage.TheVariants.{RncTick, IubDown, RadioDown, UeTick, RadioUp, IubUp}
use Rattle.dch_linkcmd.specs.Handlers.{ticked}
use Rattle.dch_linkcmd.proofs.Stages.{some_same}

-- with the stage that is next
at_next : (one next : Stage) (n frames : ℕ) → n ≡ (frames + ticked one) % 8 → Some one ≡ Some next → n ≡ (frames + ticked next) % 8
at_next one next n frames at same = subst (λ (s : Stage). n ≡ (frames + ticked s) % 8) (some_same one next same) at

-- behind each stage but the last
pub cfn_some : (stage next : Stage) (cfn frames : ℕ) → next_stage stage ≡ Some next → cfn % 8 ≡ (frames + ticked stage) % 8 → cfn_after stage cfn % 8 ≡ (frames + ticked next) % 8
cfn_some RncTick next cfn frames same at = at_next (IubDown 0) next (cfn % 8) frames at same
cfn_some (IubDown set) next cfn frames same at = elim (eqb_tells set 7) [
  | inl last ↦ at_next RadioDown next (cfn % 8) frames at (rw last.0 at same)
  | inr other ↦ at_next (IubDown (set + 1)) next (cfn % 8) frames at (rw other.0 at same)
]
cfn_some RadioDown next cfn frames same at = at_next UeTick next (cfn % 8) frames at same
cfn_some UeTick next cfn frames same at = at_next RadioUp next (((cfn + 1) % 256) % 8) frames (omega (arith, at)) same
cfn_some RadioUp next cfn frames same at = at_next (IubUp 0) next (cfn % 8) frames at same
cfn_some (IubUp set) next cfn frames same at = elim (eqb_tells set 7) [
  | inl last ↦ (let none = rw last.0 at same in cc none)
  | inr other ↦ at_next (IubUp (set + 1)) next (cfn % 8) frames at (rw other.0 at same)
]

-- and behind the last
pub cfn_none : (stage : Stage) (cfn frames : ℕ) → next_stage stage ≡ None → cfn % 8 ≡ (frames + ticked stage) % 8 → cfn_after stage cfn % 8 ≡ ((frames + 1) + ticked RncTick) % 8
cfn_none RncTick cfn frames none at = cc none
cfn_none (IubDown set) cfn frames none at = elim (eqb_tells set 7) [
  | inl last ↦ (let some = rw last.0 at none in cc some)
  | inr other ↦ (let some = rw other.0 at none in cc some)
]
cfn_none RadioDown cfn frames none at = cc none
cfn_none UeTick cfn frames none at = cc none
cfn_none RadioUp cfn frames none at = cc none
cfn_none (IubUp set) cfn frames none at = omega (arith, at)
