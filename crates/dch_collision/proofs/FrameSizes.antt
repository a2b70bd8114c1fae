-- The sizes of radio frames and TTIs.
use Rattle.std.proofs.Common.{◌≡◌, ◌<◌, ℕ, ap, arith, inl, inr}
use Rattle.std.specs.Prelude.{unwrap_or}
use Rattle.dch_types.specs.declared.config.Uplink.{Uplink}
use Rattle.dch_types.specs.Limits.{IsFrames}
use Rattle.dch_frame.specs.declared.uplink_plan.UplinkPlan.{UplinkPlan}
use Rattle.dch_frame.specs.Uplinks.{IsPlan}
use Rattle.dch_collision.specs.Copies.{frame_size}

-- the size of a frame is that of its plan
pub frame_size-plan : (uplink : Uplink) (c : ℕ) (plan : UplinkPlan) → IsPlan uplink c plan → frame_size uplink c ≡ plan.ndata
frame_size-plan uplink c plan is = ap (λ size. unwrap_or size 0) is.size

-- a TTI has a radio frame
pub some_frames : (f : ℕ) → IsFrames f → 0 < f
some_frames f (inl one) = omega arith
some_frames f (inr (inl two)) = omega arith
some_frames f (inr (inr (inl four))) = omega arith
some_frames f (inr (inr (inr eight))) = omega arith
