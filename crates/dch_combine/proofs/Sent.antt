-- What the legs' frames become where one leg has all blocks that were sent.
use Rattle.std.proofs.Common.{◌≡◌, ◌<◌, ◌∙◌, ℕ, length, Option, true, false, ap, sym, subst, inl, inr}
use Rattle.dch_types.specs.declared.channel.Trch.{Trch}
use Rattle.dch_types.specs.Parts.{format_at}
use Rattle.dch_accept.specs.Blocks.{Held}
use Rattle.dch_accept.specs.HeldSets.{HasFormat}
use Rattle.dch_combine.specs.Combined.{HasGood, HasGoodBlock, IsCombinedBlock, IsCombinedTti, IsGoodBlock, IsLeading}
use Rattle.dch_combine.specs.Legs.{LegFrame, blocks_in}
use Rattle.dch_combine.specs.Sent.{AreSent, HasAll, IsSentBlock, TakesSent}
use Rattle.dch_combine.proofs.Frames.{good_inside}

-- the leading leg has the format that was sent, where some leg has a good block
sent_format : (legs : ℕ → Option LegFrame) (i lead leg : ℕ) (sent : Held) → IsLeading legs i lead → AreSent legs i sent → HasGood (blocks_in (legs leg) i) → (blocks_in (legs lead) i).format ≡ sent.format
sent_format legs i lead leg sent (inl lowest) are some = (are lead lowest.holds.block lowest.holds.is_good).format
sent_format legs i lead leg sent (inr other) are some = absurd (other.none leg some)

-- a combined block that some leg has good
sent_block : (legs : ℕ → Option LegFrame) (i lead leg b : ℕ) (sent new : Held) → new.format ≡ sent.format → AreSent legs i sent → HasGoodBlock (blocks_in (legs leg) i) sent.format b → IsCombinedBlock legs i lead b new → IsGoodBlock new b × IsSentBlock sent b new
sent_block legs i lead leg b sent new format are has (inl one) =
    let from = are one.leg b one.lowest.holds.is_good in
    (one.good, record { format = format; there = from.there; bits = one.bits ∙ from.bits })
sent_block legs i lead leg b sent new format are has (inr bad) = absurd (bad.none leg (subst (λ f. HasGoodBlock (blocks_in (legs leg) i) f b) (sym format) has))

-- a combined block that is good
good_block : (legs : ℕ → Option LegFrame) (i lead b : ℕ) (sent new : Held) → AreSent legs i sent → IsGoodBlock new b → IsCombinedBlock legs i lead b new → IsSentBlock sent b new
good_block legs i lead b sent new are good (inl one) =
    let from = are one.leg b one.lowest.holds.is_good in
    record { format = sym one.lowest.holds.same ∙ from.format; there = from.there; bits = one.bits ∙ from.bits }
good_block legs i lead b sent new are good (inr bad) = let clash : true ≡ false = sym good ∙ bad.bad in absurd (cc)

pub takes_sent : (channel : Trch) (legs : ℕ → Option LegFrame) (i leg : ℕ) (sent new : Held) → HasFormat channel sent → HasFormat channel new → IsCombinedTti legs i new → AreSent legs i sent → HasAll sent (blocks_in (legs leg) i) → TakesSent sent new
takes_sent channel legs i leg sent new has_sent has_new is are all = record {
  all = λ b inside.
      let some : HasGood (blocks_in (legs leg) i) = record { block = b; is_good = all.good b inside } in
      let format : new.format ≡ sent.format = is.format ∙ sent_format legs i is.lead leg sent is.leading are some in
      let count : length new.good ≡ length sent.good = has_new.count ∙ (ap (λ f. (format_at channel f).number) format ∙ sym has_sent.count) in
      sent_block legs i is.lead leg b sent new format are (record { same = all.format; is_good = all.good b inside }) (is.blocks b (subst (λ n. b < n) (sym count) inside));
  only = λ b good. good_block legs i is.lead b sent new are good (is.blocks b (good_inside new b good));
}
