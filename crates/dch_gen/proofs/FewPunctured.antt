-- In the configuration of `gen` few code blocks may lose bits.
use Rattle.std.proofs.Common.{◌≡◌, ◌<◌, ◌≤◌, ℕ, Bool, true, false, length, refl, arith}
use Rattle.std.specs.Prelude.{if◌then◌else◌}
use Rattle.dch_types.specs.Parts.{channel_at}
use Rattle.dch_types.specs.Sums.{total}
use Rattle.dch_types.proofs.Sums.{total_le, total_none}
use Rattle.dch_collision.specs.Counted.{blocks_in, in_channel, over_formats, uplink_count, downlink_count, uplink_punctures, downlink_punctures}
use Rattle.dch_accept.specs.Answers.{count_of}
use Rattle.dch_gen.specs.Channels.{gen_channels}
use Rattle.dch_gen.specs.Configuration.{gen_side, gen_config}
use Rattle.dch_gen.proofs.Rates.{uplink_keeps}

pub five_up : length gen_config.uplink.side.channels ≡ 5
unfolding gen_config gen_side gen_channels
five_up = refl

pub five_down : length gen_config.downlink.side.channels ≡ 5
unfolding gen_config gen_side gen_channels
five_down = refl

if_none : (b : Bool) (n : ℕ) → b ≡ false → (if b then n else 0) ≡ 0
if_none true n none = cc
if_none false n none = refl

if_at_most : (b : Bool) (n : ℕ) → (if b then n else 0) ≤ n
if_at_most true n = omega arith
if_at_most false n = omega arith

none_of_format : (i f : ℕ) → i < 5 → uplink_count gen_config.uplink i f ≡ 0
none_of_format i f inside = if_none (uplink_punctures gen_config.uplink i f) _ (uplink_keeps i f inside)

none_up : over_formats gen_config.uplink.side (uplink_count gen_config.uplink) ≤ 0
none_up =
    let number : ℕ → ℕ = in_channel gen_config.uplink.side (uplink_count gen_config.uplink) in
    let least : total number (length gen_config.uplink.side.channels) ≤ total (λ i. 0) (length gen_config.uplink.side.channels) =
    total_le number (λ i. 0) (length gen_config.uplink.side.channels) (λ i inside.
    let none : number i ≡ 0 = total_none (uplink_count gen_config.uplink i) (length (channel_at gen_config.uplink.side i).formats) (λ f. none_of_format i f (omega (arith, five_up))) in
    omega (arith, none)) in
    omega (arith, least, total_none (λ i. 0) (length gen_config.uplink.side.channels) (λ i. refl))

all_blocks : over_formats gen_config.downlink.side (blocks_in gen_config.downlink.side) ≡ 26
unfolding gen_config gen_side gen_channels total
all_blocks = refl

few_down : over_formats gen_config.downlink.side (downlink_count gen_config.downlink) ≤ over_formats gen_config.downlink.side (blocks_in gen_config.downlink.side)
few_down = total_le (in_channel gen_config.downlink.side (downlink_count gen_config.downlink)) (in_channel gen_config.downlink.side (blocks_in gen_config.downlink.side)) (length gen_config.downlink.side.channels)
    (λ i inside. total_le (downlink_count gen_config.downlink i) (blocks_in gen_config.downlink.side i) (length (channel_at gen_config.downlink.side i).formats)
    (λ f there. if_at_most (downlink_punctures gen_config.downlink i f) (blocks_in gen_config.downlink.side i f)))

pub few : count_of gen_config ≤ 2048
few = omega (arith, none_up, few_down, all_blocks)
