-- In the configuration of `gen` no two code blocks collide.
use Rattle.std.proofs.Common.{◌≡◌, ◌<◌, ◌+◌, ◌*◌, ℕ, zero, suc, refl, subst, sym, arith}
use Rattle.dch_types.specs.declared.channel.Coding.{Coding}
use Rattle.dch_types.specs.declared.channel.Coding.TheVariants.{Half}
use Rattle.dch_types.specs.declared.config.Downlink.{Downlink}
use Rattle.dch_types.specs.Lengths.{coded_block}
use Rattle.dch_types.specs.Parts.{channel_at}
use Rattle.dch_coding.specs.declared.cut.Plan.{Plan}
use Rattle.dch_coding.specs.Segments.{plan_of, filler_of}
use Rattle.dch_frame.specs.Matched.{steps_of}
use Rattle.dch_frame.specs.Patterns.{copies}
use Rattle.dch_frame.specs.Downlinks.{pattern_of}
use Rattle.dch_collision.specs.Copies.{uplink_copies, downlink_copies}
use Rattle.dch_collision.specs.Clear.{block_copies, joined_in, IsClear, IsClearFormat, IsClearSide, AreClearBlocks}
use Rattle.dch_collision.proofs.Unpunctured.{uplink_whole}
use Rattle.dch_collision.proofs.Under.{clear_channel}
use Rattle.dch_collision.proofs.Whole.{whole_none}
use Rattle.dch_gen.specs.Channels.{gen_channels}
use Rattle.dch_gen.specs.Configuration.{gen_side, gen_config}
use Rattle.dch_gen.proofs.Good.{gen_good}
use Rattle.dch_gen.proofs.Spaced.{OneOfTwo, one_of_two, spaced_clear}
use Rattle.dch_gen.proofs.Rates.{uplink_keeps}
use Rattle.dch_gen.proofs.FewPunctured.{five_up, five_down}
use Rattle.dch_gen.proofs.Places.{kind_of, class_a_sent, class_b_sent, class_c_sent, signalling_sent, packets_are}

up_clear : IsClearSide gen_config.uplink.side (uplink_copies gen_config.uplink)
up_clear i inside = clear_channel gen_config.uplink.side (uplink_copies gen_config.uplink) i gen_good.uplink.side inside
    (λ f there. uplink_whole gen_config.uplink i f gen_good.uplink inside (uplink_keeps i f (omega (arith, five_up))))

-- a downlink format of which each bit is sent
kept_clear : (downlink : Downlink) (i f : ℕ) → ((m : ℕ) → 0 < copies (pattern_of downlink i f).kind m) → IsClearFormat downlink.side (downlink_copies downlink) i f
kept_clear downlink i f sent sequence legal r block =
    let coding : Coding = (channel_at downlink.side i).coding in
    let plan : Plan = plan_of (joined_in downlink.side i f) coding in
    whole_none coding plan.size (filler_of plan r) (block_copies coding plan (downlink_copies downlink i f sequence) r)
    (λ t within. sent (r * coded_block coding plan.size + t))

packets_half : (channel_at gen_config.downlink.side 4).coding ≡ Half
unfolding gen_config gen_side gen_channels
packets_half = refl

packets_spaced : (f : ℕ) → OneOfTwo (copies (kind_of 4 f))
packets_spaced f = subst (λ kind. OneOfTwo (copies kind)) (sym (packets_are f))
    (one_of_two (steps_of 8604 8355 1) (record { least = omega arith; most = omega arith; plus = omega arith; minus = omega arith }) (omega arith))

packets_clear : (f : ℕ) → IsClearFormat gen_config.downlink.side (downlink_copies gen_config.downlink) 4 f
packets_clear f sequence legal =
    subst (λ coding. AreClearBlocks coding (plan_of (joined_in gen_config.downlink.side 4 f) coding) (copies (kind_of 4 f))) (sym packets_half)
    (spaced_clear (plan_of (joined_in gen_config.downlink.side 4 f) Half) (copies (kind_of 4 f)) (packets_spaced f))

down_format : (i f : ℕ) → i < 5 → IsClearFormat gen_config.downlink.side (downlink_copies gen_config.downlink) i f
down_format zero f inside = kept_clear gen_config.downlink 0 f (class_a_sent f)
down_format (suc zero) f inside = kept_clear gen_config.downlink 1 f (class_b_sent f)
down_format (suc (suc zero)) f inside = kept_clear gen_config.downlink 2 f (class_c_sent f)
down_format (suc (suc (suc zero))) f inside = kept_clear gen_config.downlink 3 f (signalling_sent f)
down_format (suc (suc (suc (suc zero)))) f inside = packets_clear f
down_format (suc (suc (suc (suc (suc i))))) f inside = absurd (omega arith)

down_clear : IsClearSide gen_config.downlink.side (downlink_copies gen_config.downlink)
down_clear i inside f = down_format i f (omega (arith, five_down))

pub clear : IsClear gen_config
clear = record { up = up_clear; down = down_clear }
