-- Kept radio frames that are the same as far as a reader looks give the same reading of an uplink channel.
use Rattle.std.proofs.Common.{◌≡◌, ◌∙◌, ℕ, List, Option, Some, None, ap, sym}
use Rattle.dch_bits.specs.declared.bit.Trit.{Trit}
use Rattle.dch_bits.specs.declared.bit.Vote.{Vote}
use Rattle.dch_types.specs.declared.channel.Dir.TheVariants.{Up}
use Rattle.dch_types.specs.declared.channel.Side.{Side}
use Rattle.dch_types.specs.Parts.{channel_at}
use Rattle.dch_inter.specs.Places.{frame_of, place_of}
use Rattle.dch_collision.specs.Copies.{padded_in}
use Rattle.dch_accept.specs.Blocks.{Held}
use Rattle.dch_accept.specs.Plans.{Planned}
use Rattle.dch_tti.specs.RxFrames.{RxFrames, frame_at}
use Rattle.dch_tti.proofs.Alike.{KeepTheSame, reading_alike, same_cells, same_combination}
use Rattle.dch_ulphy.specs.Read.{AreVotes, IsTtiRead, frame_votes, tti_votes}

frame_votes-same : (planned : Planned) (i n m : ℕ) (a b : Option ℕ) (xs ys : List Trit) → b ≡ a → ((c : ℕ) → a ≡ Some c → ys ≡ xs) → frame_votes planned i n b ys m ≡ frame_votes planned i n a xs m
frame_votes-same planned i n m None b xs ys same cells = ap (λ o. frame_votes planned i n o ys m) same
frame_votes-same planned i n m (Some c) b xs ys same cells = ap (λ o. frame_votes planned i n o ys m) same ∙ ap (λ zs. frame_votes planned i n (Some c) zs m) (cells c (λ t. Some c))

tti_votes-same : (planned : Planned) (one other : RxFrames) (i len j : ℕ) → KeepTheSame one other → tti_votes planned other i len j ≡ tti_votes planned one i len j
tti_votes-same planned one other i len j same =
    let side : Side = planned.config.uplink.side in
    let n : ℕ = frame_of (channel_at side i).frames len j in
    frame_votes-same planned i n (place_of (channel_at side i).frames len j) (frame_at side one i n).combination (frame_at side other i n).combination (frame_at side one i n).cells (frame_at side other i n).cells
    (same_combination side one other i n same) (λ c found. same_cells side one other i n c same found)

votes_alike : (planned : Planned) (one other : RxFrames) (i f : ℕ) (votes : List Vote) → KeepTheSame one other → AreVotes planned one i f votes → AreVotes planned other i f votes
votes_alike planned one other i f votes same are j v inside = are j v inside ∙ sym (tti_votes-same planned one other i (padded_in planned.config.uplink.side i f) j same)

pub read_alike : (planned : Planned) (one other : RxFrames) (i : ℕ) (held : Held) → KeepTheSame one other → IsTtiRead planned one i held → IsTtiRead planned other i held
read_alike planned one other i held same = reading_alike planned Up (AreVotes planned) one other i held same (λ f votes are. votes_alike planned one other i f votes same are)
