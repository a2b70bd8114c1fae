-- The channels of a good direction.
use Rattle.std.proofs.Common.{◌≡◌, ◌<◌, ◌⊎◌, ◌∙◌, ℕ, zero, suc, true, false, length, arith, refl, sym, ap, ⊎_elim}
use Rattle.std.specs.Prelude.{◌==◌, ◌%◌}
use Rattle.dch_types.specs.declared.channel.Side.{Side}
use Rattle.dch_types.specs.Limits.{IsFrames, IsSide}
use Rattle.dch_types.specs.Parts.{channel_at}
use Rattle.dch_types.specs.Timing.{frames_among}
use Rattle.dch_runlaw.proofs.Names.{number_same, same_number}
use Rattle.dch_runlaw.proofs.Sublists.{either}
use Rattle.dch_runlaw.specs.HonestFits.{IsChannel}

among : (side : Side) (set frames n i : ℕ) → ((j : ℕ) → j < n → (channel_at side j).set ≡ set → (channel_at side j).frames ≡ frames) → i < n → (channel_at side i).set ≡ set → frames_among side set n ≡ frames
among side set frames zero i all l e = absurd (omega arith)
among side set frames (suc n) i all l e = either ((channel_at side n).set == set)
    (λ q. rw q (all n (omega arith) (number_same (channel_at side n).set set q)))
    (λ q. let lower : i < n = omega (arith, l, differs q) in rw q (among side set frames n i (λ j m. all j (omega arith)) lower e))
  where
    differs : ((channel_at side n).set == set) ≡ false → i ≡ n → ⊥
    differs q same = let t : ((channel_at side n).set == set) ≡ true = same_number (channel_at side n).set set (sym (ap (λ k. (channel_at side k).set) same) ∙ e) in absurd (cc)

divides_by : (frames : ℕ) → IsFrames frames → (n : ℕ) → (n % 256) % frames ≡ n % frames
divides_by frames is n = ⊎_elim
    (λ (e : frames ≡ 1). rw e (omega arith))
    (λ (r : (frames ≡ 2) ⊎ ((frames ≡ 4) ⊎ (frames ≡ 8))). ⊎_elim
    (λ (e : frames ≡ 2). rw e (omega arith))
    (λ (q : (frames ≡ 4) ⊎ (frames ≡ 8)). ⊎_elim (λ (e : frames ≡ 4). rw e (omega arith)) (λ (e : frames ≡ 8). rw e (omega arith)) q)
    r)
    is

some_of : (frames : ℕ) → IsFrames frames → 0 < frames
some_of frames is = ⊎_elim
    (λ (e : frames ≡ 1). omega arith)
    (λ (r : (frames ≡ 2) ⊎ ((frames ≡ 4) ⊎ (frames ≡ 8))). ⊎_elim
    (λ (e : frames ≡ 2). omega arith)
    (λ (q : (frames ≡ 4) ⊎ (frames ≡ 8)). ⊎_elim (λ (e : frames ≡ 4). omega arith) (λ (e : frames ≡ 8). omega arith) q)
    r)
    is

pub is_channel : (side : Side) (i : ℕ) → IsSide side → i < length side.channels → IsChannel side i
is_channel side i good l = record {
  there = l;
  some = some_of (channel_at side i).frames (good.channels i l).frames;
  divides = divides_by (channel_at side i).frames (good.channels i l).frames;
  set = among side (channel_at side i).set (channel_at side i).frames (length side.channels) i (λ j m e. good.sets j i m l e) l refl;
  small = omega (arith, (good.channels i l).set);
}
