-- A direction of the configuration of `gen` keeps every rule.
use Rattle.std.proofs.Common.{◌≡◌, ◌<◌, ℕ, zero, suc, length, refl, ap, sym, ◌∙◌, inl, inr, arith}
use Rattle.dch_types.specs.declared.channel.Dir.{Dir}
use Rattle.dch_types.specs.declared.channel.Dir.TheVariants.{Up}
use Rattle.dch_types.specs.declared.channel.Trch.{Trch}
use Rattle.dch_types.specs.Lengths.{tti_bits}
use Rattle.dch_types.specs.Limits.{IsSide}
use Rattle.dch_types.specs.Parts.{channel_at}
use Rattle.dch_tree.proofs.Channels.{KeepsRanges}
use Rattle.dch_tree.proofs.Whole.{KeepsSide}
use Rattle.dch_config.proofs.GoodSides.{RefusesNone, side_good}
use Rattle.dch_gen.specs.Channels.{class_a, class_b, class_c, signalling, packets, gen_channels}
use Rattle.dch_gen.specs.Combinations.{gen_combinations}
use Rattle.dch_gen.specs.Configuration.{gen_side}

-- what holds of each of the five channels
pub each_channel : (P : Trch → Type 0) → P class_a → P class_b → P class_c → P signalling → P packets
    → (i : ℕ) → i < length gen_side.channels → P (channel_at gen_side i)
unfolding gen_side gen_channels
each_channel P a b c d e zero inside = a
each_channel P a b c d e (suc zero) inside = b
each_channel P a b c d e (suc (suc zero)) inside = c
each_channel P a b c d e (suc (suc (suc zero))) inside = d
each_channel P a b c d e (suc (suc (suc (suc zero)))) inside = e
each_channel P a b c d e (suc (suc (suc (suc (suc i))))) inside = absurd (omega arith)

ranges : (i : ℕ) → i < length gen_side.channels → KeepsRanges (channel_at gen_side i)
ranges = each_channel KeepsRanges
    (record { frames = inr (inl refl); rm = (omega arith, omega arith); set = omega arith })
    (record { frames = inr (inl refl); rm = (omega arith, omega arith); set = omega arith })
    (record { frames = inr (inl refl); rm = (omega arith, omega arith); set = omega arith })
    (record { frames = inr (inr (inl refl)); rm = (omega arith, omega arith); set = omega arith })
    (record { frames = inl refl; rm = (omega arith, omega arith); set = omega arith })

-- the frames of a TTI by the set that carries the channel
set_frames : ℕ → ℕ
set_frames zero = 2
set_frames (suc zero) = 4
set_frames (suc (suc n)) = 1

frames_by_set : (i : ℕ) → i < length gen_side.channels → (channel_at gen_side i).frames ≡ set_frames (channel_at gen_side i).set
unfolding set_frames
frames_by_set = each_channel (λ channel. channel.frames ≡ set_frames channel.set) refl refl refl refl refl

keeps : KeepsSide gen_side
keeps = record {
  channels = ranges;
  sets = λ i j before inside same. frames_by_set i (omega arith) ∙ ap set_frames same ∙ sym (frames_by_set j inside);
}

refuses_none : (dir : Dir) → RefusesNone dir gen_side
unfolding gen_side gen_channels gen_combinations tti_bits
refuses_none dir = record {
  channels = refl;
  formats = refl;
  idle = refl;
  combinations = refl;
  names = refl;
  closure = refl;
  blocks = refl;
  bits = refl;
}

pub side_is_good : IsSide gen_side
side_is_good = side_good Up gen_side (refuses_none Up) keeps
