-- Where no code block is counted there is no collision to be found.
use Rattle.std.proofs.Common.{◌≡◌, ◌<◌, ◌*◌, ℕ, zero, suc, List, [], ◌∷◌, Bool, true, false, length, arith, refl, subst, cond}
use Rattle.std.specs.Prelude.{slice_index}
use Rattle.dch_types.specs.declared.channel.Side.{Side}
use Rattle.dch_types.specs.declared.config.Config.{Config}
use Rattle.dch_types.specs.declared.config.Downlink.{Downlink}
use Rattle.dch_types.specs.declared.config.Uplink.{Uplink}
use Rattle.dch_types.specs.Limits.{IsDownlink, IsSide, IsUplink}
use Rattle.dch_types.specs.Parts.{channel_at}
use Rattle.dch_types.specs.Sums.{total}
use Rattle.dch_types.proofs.Sums.{part_le}
use Rattle.dch_collision.specs.SequenceCounts.{how_many, is_legal, legal_count}
use Rattle.dch_collision.specs.Sequences.{IsLegal}
use Rattle.dch_collision.proofs.Ways.{tells_legal}
use Rattle.dch_collision.specs.Copies.{downlink_copies, uplink_copies}
use Rattle.dch_collision.specs.Counted.{blocks_in, downlink_count, downlink_punctures, in_channel, over_formats, search_count, uplink_count, uplink_punctures}
use Rattle.dch_collision.specs.Clear.{IsClear, IsClearFormat}
use Rattle.dch_collision.proofs.Under.{clear_channel}
use Rattle.dch_collision.proofs.Unpunctured.{downlink_whole, uplink_whole}

-- where a sum is 0, so is each part
part_none : (number : ℕ → ℕ) (i n : ℕ) → total number n ≡ 0 → i < n → number i ≡ 0
part_none number i n none inside = omega (arith, none, part_le number i n inside)

format_none : (side : Side) (number : ℕ → ℕ → ℕ) (i f : ℕ) → over_formats side number ≡ 0 → i < length side.channels → f < length (channel_at side i).formats → number i f ≡ 0
format_none side number i f none channel format =
    part_none (number i) f (length (channel_at side i).formats) (part_none (in_channel side number) i (length side.channels) none channel) format

-- a list that passes a test is counted
counted : (bound : ℕ) (list : List ℕ) (test : List ℕ → Bool) → ((n : ℕ) → n < length list → slice_index list n < bound) → test list ≡ true → 0 < how_many bound (length list) test
unfolding how_many
counted bound [] test small passes = rw passes (omega arith)
counted bound (c ∷ rest) test small passes =
    let here : 0 < how_many bound (length rest) (λ rest. test (c ∷ rest)) = counted bound rest (λ rest. test (c ∷ rest)) (λ n inside. small (suc n) (omega arith)) passes in
    omega (arith, here, part_le (λ c. how_many bound (length rest) (λ rest. test (c ∷ rest))) c bound (small 0 (omega arith)))

-- and so is a legal sequence
legal_counted : (side : Side) (i f : ℕ) (sequence : List ℕ) → IsSide side → IsLegal side i f sequence → 0 < legal_count side i f
legal_counted side i f sequence good legal =
    subst (λ n. 0 < how_many (length side.combinations) n (is_legal side i f)) legal.whole
    (counted (length side.combinations) sequence (is_legal side i f) legal.there ((tells_legal side i f good sequence (record { whole = legal.whole; there = legal.there })).1 legal))

-- one of two numbers is 0
no_product : (a b : ℕ) → a * b ≡ 0 → 0 < a → b ≡ 0
no_product zero b none some = absurd (omega arith)
no_product (suc a) b none some = omega (arith, none)

counted_uplink : (uplink : Uplink) (i f : ℕ) (b : Bool) → uplink_punctures uplink i f ≡ b → cond b (legal_count uplink.side i f * blocks_in uplink.side i f) 0 ≡ 0
    → IsUplink uplink → i < length uplink.side.channels → IsClearFormat uplink.side (uplink_copies uplink) i f
counted_uplink uplink i f false whole none good channel = uplink_whole uplink i f good channel whole
counted_uplink uplink i f true removes none good channel = λ sequence legal r block.
    absurd (omega (arith, no_product (legal_count uplink.side i f) (blocks_in uplink.side i f) none (legal_counted uplink.side i f sequence good.side legal), block))

counted_downlink : (downlink : Downlink) (i f : ℕ) (b : Bool) → downlink_punctures downlink i f ≡ b → cond b (blocks_in downlink.side i f) 0 ≡ 0
    → IsDownlink downlink → i < length downlink.side.channels → IsClearFormat downlink.side (downlink_copies downlink) i f
counted_downlink downlink i f false whole none good channel = downlink_whole downlink i f good channel whole
counted_downlink downlink i f true removes none good channel = λ sequence legal r block. absurd (omega (arith, none, block))

-- where no code block of a configuration is counted, it is clear
pub uncounted_clear : (config : Config) → IsUplink config.uplink → IsDownlink config.downlink → search_count config.uplink config.downlink ≡ 0 → IsClear config
uncounted_clear config up down none =
    let uplink : Uplink = config.uplink in
    let downlink : Downlink = config.downlink in
    record {
      up = λ i channel. clear_channel uplink.side (uplink_copies uplink) i up.side channel
          (λ f format. counted_uplink uplink i f (uplink_punctures uplink i f) refl (format_none uplink.side (uplink_count uplink) i f (omega (arith, none)) channel format) up channel);
      down = λ i channel. clear_channel downlink.side (downlink_copies downlink) i down.side channel
          (λ f format. counted_downlink downlink i f (downlink_punctures downlink i f) refl (format_none downlink.side (downlink_count downlink) i f (omega (arith, none)) channel format) down channel);
    }
