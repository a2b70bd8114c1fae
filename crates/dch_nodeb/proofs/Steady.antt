-- The TTIs of a set of channels.
use Rattle.std.proofs.Common.{◌≡◌, ◌≢◌, ◌<◌, ◌∙◌, ℕ, zero, suc, Bool, true, false, length, arith, refl, ap, sym, inl, inr, eq-eqb}
use Rattle.std.specs.Prelude.{◌⊎◌, ◌%◌}
use Rattle.std.proofs.lemmas.Bool.Decides.{eqb_tells}
use Rattle.dch_types.specs.declared.channel.Side.{Side}
use Rattle.dch_types.specs.Limits.{IsFrames, IsSide}
use Rattle.dch_types.specs.Parts.{channel_at}
use Rattle.dch_types.specs.Timing.{frames_among, set_frames, starts}

-- a set's TTIs are those of each of its channels
frames_among-member : (side : Side) (set frames n i : ℕ) → ((j : ℕ) → j < n → (channel_at side j).set ≡ set → (channel_at side j).frames ≡ frames)
    → i < n → (channel_at side i).set ≡ set → frames_among side set n ≡ frames
frames_among-member side set frames zero i same inside member = absurd (omega arith)
frames_among-member side set frames (suc m) i same inside member =
    elim (eqb_tells (channel_at side m).set set) [
      | inl this ↦ rw this.0 (same m (omega arith) this.1)
      | inr other ↦
          let apart : i ≢ m = (λ (e : i ≡ m). other.1 (ap (λ k. (channel_at side k).set) (sym e) ∙ member)) in
          rw other.0 (frames_among-member side set frames m i (λ j early. same j (omega arith)) (omega arith) member)
    ]

pub set_frames-member : (side : Side) (i : ℕ) → IsSide side → i < length side.channels → set_frames side (channel_at side i).set ≡ (channel_at side i).frames
set_frames-member side i good inside =
    frames_among-member side (channel_at side i).set (channel_at side i).frames (length side.channels) i (λ j early member. good.sets j i early inside member) inside refl

-- every TTI starts where the CFN is a multiple of 8
pub starts-eighth : (frames cfn : ℕ) → IsFrames frames → cfn % 8 ≡ 0 → starts frames cfn ≡ true
starts-eighth frames cfn is eighth = elim is [
  | inl one ↦ rw one (eq-eqb (cfn % 1) 0 (omega arith))
  | inr more ↦ elim more [
    | inl two ↦ rw two (eq-eqb (cfn % 2) 0 (omega arith))
    | inr rest ↦ elim rest [
      | inl four ↦ rw four (eq-eqb (cfn % 4) 0 (omega arith))
      | inr eight ↦ rw eight (eq-eqb (cfn % 8) 0 (omega arith))
    ]
  ]
]

-- a test is true or false
pub tells : (b : Bool) → ((b ≡ true) × Unit {0}) ⊎ ((b ≡ false) × Unit {0})
tells true = inl (refl, tt)
tells false = inr (refl, tt)
