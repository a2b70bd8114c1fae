-- The blocks of a channel are combined.
use Rattle.std.proofs.Common.{◌≡◌, ◌≢◌, ◌<◌, ◌+◌, ◌∙◌, ◌⊎◌, ℕ, List, length, Option, Some, None, false, get_or, arith, refl, sym, ap, subst, inl, inr, get_or-set_same, get_or-set_other}
use Rattle.std.specs.Prelude.{IfSome, IsSome, is_some, slice_set, unwrap_or}
use Rattle.std.proofs.lemmas.Bool.{cases_lt}
use Rattle.dch_types.specs.declared.channel.Side.{Side}
use Rattle.dch_types.specs.declared.channel.Trch.{Trch}
use Rattle.dch_types.specs.Parts.{channel_at, format_at}
use Rattle.dch_accept.specs.Blocks.{Held, block_at}
use Rattle.dch_accept.specs.HeldSets.{HasFormat, HeldSet, held_at}
use Rattle.dch_combine.specs.declared.leg.LegBuffer.{LegBuffer}
use Rattle.dch_combine.specs.Combined.{HasGoodBlock, IsCombinedBlock, IsCombinedTti, IsLeading, IsLowest}
use Rattle.dch_combine.specs.Legs.{LegFrame, blocks_in}
use Rattle.dch_combine.specs.Steps.{HaveFormats, IsSameBlock}
use Rattle.dch_combine.specs.Taken.{FindsLowest}
use Rattle.dch_combine.specs.Values.{frames_in, leg_at}
use Rattle.dch_combine.proofs.Frames.{blocks_here, good_frame, good_inside}

-- the blocks of channel i in the receive buffer of leg k
abbrev pub held_in : List LegBuffer → ℕ → ℕ → Held
held_in legs k i = held_at (leg_at legs k).blocks.blocks i

-- the leading leg has a frame
pub leading_frame : (legs : ℕ → Option LegFrame) (i lead : ℕ) → IsLeading legs i lead → IsSome (legs lead)
leading_frame legs i lead (inl good) = good_frame (legs lead) i good.holds.block good.holds.is_good
leading_frame legs i lead (inr other) = other.frame.holds

-- the blocks that are copied, of leg k
pub record IsSource (legs : List LegBuffer) (i b k : ℕ) (tti : Held) : Type 0 where
  pub inside : k < length legs
  pub blocks : blocks_in (frames_in legs k) i ≡ held_in legs k i
  pub size : (held_in legs k i).size ≡ tti.size
  pub there : b < length (held_in legs k i).good

source_of : (legs : List LegBuffer) (channel : Trch) (i b k : ℕ) (tti : Held) → HaveFormats channel i legs → HasFormat channel tti → k < length legs → IsSome (frames_in legs k) → (blocks_in (frames_in legs k) i).format ≡ tti.format
    → (b < length (blocks_in (frames_in legs k) i).good ⊎ b < length tti.good) → IsSource legs i b k tti
source_of legs channel i b k tti have has inside frame same there =
    let blocks : blocks_in (frames_in legs k) i ≡ held_in legs k i = blocks_here (leg_at legs k).qe (leg_at legs k).blocks i frame in
    let format : (held_in legs k i).format ≡ tti.format = sym (ap (λ (h : Held). h.format) blocks) ∙ same in
    let is : HasFormat channel (held_in legs k i) = have k inside in
    let count : length (held_in legs k i).good ≡ length tti.good = is.count ∙ (ap (λ f. (format_at channel f).number) format ∙ sym has.count) in
    record {
      inside = inside;
      blocks = blocks;
      size = is.size ∙ (ap (λ f. (format_at channel f).size) format ∙ sym has.size);
      there = elim there [
        | inl good ↦ subst (λ (h : Held). b < length h.good) blocks good
        | inr in_tti ↦ subst (λ n. b < n) (sym count) in_tti
      ];
    }

-- they are those of the leg that was found, or else of the leading leg
pub source : (legs : List LegBuffer) (channel : Trch) (i lead b format : ℕ) (good : Option ℕ) (tti : Held) → HaveFormats channel i legs → HasFormat channel tti → IsLeading (frames_in legs) i lead → lead < length legs
    → tti.format ≡ (blocks_in (frames_in legs lead) i).format → b < length tti.good → format ≡ tti.format → FindsLowest (λ k. HasGoodBlock (blocks_in (frames_in legs k) i) format b) good → IfSome good (λ k. k < length legs)
    → IsSource legs i b (unwrap_or good lead) tti
source legs channel i lead b format None tti have has leading inside same there format_is finds few =
    source_of legs channel i b lead tti have has inside (leading_frame (frames_in legs) i lead leading) (sym same) (inr there)
source legs channel i lead b format (Some k) tti have has leading inside same there format_is finds few =
    source_of legs channel i b k tti have has few (good_frame (frames_in legs k) i b finds.holds.is_good) (finds.holds.same ∙ format_is)
    (inl (good_inside (blocks_in (frames_in legs k) i) b finds.holds.is_good))

-- a block was copied and marked
pub combined : (legs : List LegBuffer) (i lead b format : ℕ) (good : Option ℕ) (tti new : Held) → FindsLowest (λ k. HasGoodBlock (blocks_in (frames_in legs k) i) format b) good → IsSource legs i b (unwrap_or good lead) tti
    → new.format ≡ format → block_at new b ≡ block_at (held_in legs (unwrap_or good lead) i) b → get_or new.good b false ≡ is_some good → IsCombinedBlock (frames_in legs) i lead b new
combined legs i lead b format None tti new finds from same bits bad = inr (record {
  none = λ k. subst (λ f. ¬ HasGoodBlock (blocks_in (frames_in legs k) i) f b) (sym same) (finds k);
  bits = bits ∙ ap (λ (h : Held). block_at h b) (sym from.blocks);
  bad = bad;
})
combined legs i lead b format (Some leg) tti new finds from same bits good = inl (record {
  leg = leg;
  lowest = subst (λ f. IsLowest (λ k. HasGoodBlock (blocks_in (frames_in legs k) i) f b) leg) (sym same) finds;
  bits = bits ∙ ap (λ (h : Held). block_at h b) (sym from.blocks);
  good = good;
})

-- a combined block is one still where its format, its bits and its mark stay
pub still_combined : (legs : ℕ → Option LegFrame) (i lead b : ℕ) (old new : Held) → new.format ≡ old.format → IsSameBlock b old new → IsCombinedBlock legs i lead b old → IsCombinedBlock legs i lead b new
still_combined legs i lead b old new format same (inl one) = inl (record {
  leg = one.leg;
  lowest = subst (λ f. IsLowest (λ k. HasGoodBlock (blocks_in (legs k) i) f b) one.leg) (sym format) one.lowest;
  bits = same.bits ∙ one.bits;
  good = same.good ∙ one.good;
})
still_combined legs i lead b old new format same (inr one) = inr (record {
  none = λ k. subst (λ f. ¬ HasGoodBlock (blocks_in (legs k) i) f b) (sym format) (one.none k);
  bits = same.bits ∙ one.bits;
  bad = same.good ∙ one.bad;
})

-- combined blocks are such in another room
pub combined_room : (legs : ℕ → Option LegFrame) (i room : ℕ) (held : Held) → IsCombinedTti legs i held → IsCombinedTti legs i (record held { room = room })
combined_room legs i room held is = record {
  lead = is.lead;
  leading = is.leading;
  format = is.format;
  blocks = λ b there. still_combined legs i is.lead b held (record held { room = room }) refl (record { bits = refl; good = refl }) (is.blocks b there);
}

-- one more channel of the set
pub added_next : (legs : ℕ → Option LegFrame) (side : Side) (set i : ℕ) (out : HeldSet) (tti : Held) → i < length out.blocks → ((j : ℕ) → j < i → (channel_at side j).set ≡ set → IsCombinedTti legs j (held_at out.blocks j)) → IsCombinedTti legs i tti
    → (j : ℕ) → j < i + 1 → (channel_at side j).set ≡ set → IsCombinedTti legs j (held_at (slice_set out.blocks i (record tti { room = (held_at out.blocks i).room })) j)
added_next legs side set i out tti inside are is j less member =
    let new : Held = record tti { room = (held_at out.blocks i).room } in
    elim (cases_lt j i) [
      | inl early ↦ (let apart : j ≢ i = omega (arith, early) in
          subst (λ (h : Held). IsCombinedTti legs j h) (sym (get_or-set_other out.blocks i j new _ apart)) (are j early member))
      | inr late ↦ (let same : i ≡ j = omega (arith, late, less) in
          subst (λ n. IsCombinedTti legs n (held_at (slice_set out.blocks i new) n)) same
          (subst (λ (h : Held). IsCombinedTti legs i h) (sym (get_or-set_same out.blocks i new _ inside)) (combined_room legs i (held_at out.blocks i).room tti is)))
    ]

-- or of another set
pub other_next : (legs : ℕ → Option LegFrame) (side : Side) (set i : ℕ) (out : HeldSet) → ((j : ℕ) → j < i → (channel_at side j).set ≡ set → IsCombinedTti legs j (held_at out.blocks j)) → (channel_at side i).set ≢ set
    → (j : ℕ) → j < i + 1 → (channel_at side j).set ≡ set → IsCombinedTti legs j (held_at out.blocks j)
other_next legs side set i out are other j less member = elim (cases_lt j i) [
  | inl early ↦ are j early member
  | inr late ↦ (let same : i ≡ j = omega (arith, late, less) in absurd (other (ap (λ n. (channel_at side n).set) same ∙ member)))
]
