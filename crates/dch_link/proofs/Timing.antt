-- A set whose TTI ends is there.
use Rattle.std.proofs.Common.{◌≡◌, ◌<◌, ◌+◌, ℕ, zero, suc, true, length, arith, refl, subst, inl, inr}
use Rattle.std.proofs.lemmas.Bool.Decides.{eqb_tells}
use Rattle.std.proofs.Math.Bool.{or-true}
use Rattle.dch_types.specs.declared.channel.Side.{Side}
use Rattle.dch_types.specs.Parts.{channel_at}
use Rattle.dch_types.specs.Timing.{ends, frames_among, has_set, is_set_among, set_frames, starts}

among : (side : Side) (set i : ℕ) → 0 < frames_among side set i → is_set_among side set i ≡ true
among side set zero some = absurd (omega (arith, some))
among side set (suc i) some = elim (eqb_tells (channel_at side i).set set) [
  | inl same ↦ rw same.0 (or-true (is_set_among side set i))
  | inr other ↦ (let less : 0 < frames_among side set i = subst (λ n. 0 < n) (rw other.0 refl) some in rw (other.0, among side set i less) refl)
]

starts_some : (frames cfn : ℕ) → starts frames cfn ≡ true → 0 < frames
starts_some zero cfn is = cc is
starts_some (suc frames) cfn is = omega arith

pub set_there : (side : Side) (set cfn : ℕ) → ends (set_frames side set) cfn ≡ true → has_set side set ≡ true
set_there side set cfn is = among side set (length side.channels) (starts_some (set_frames side set) (cfn + 1) is)
