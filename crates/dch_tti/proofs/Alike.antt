-- Kept radio frames that are the same as far as a reader looks give the same formats and the same readings.
use Rattle.std.proofs.Common.{◌≡◌, ◌<◌, ◌∙◌, ℕ, List, Some, arith, ap, sym, inl, inr}
use Rattle.dch_bits.specs.declared.bit.Vote.{Vote}
use Rattle.dch_types.specs.declared.channel.Dir.{Dir}
use Rattle.dch_types.specs.declared.channel.Side.{Side}
use Rattle.dch_types.specs.Parts.{channel_at, side_of}
use Rattle.dch_accept.specs.Blocks.{Held}
use Rattle.dch_accept.specs.Plans.{Planned}
use Rattle.dch_tti.specs.Formats.{IsBadFrame, IsFormatOf, format_in, tti_format}
use Rattle.dch_tti.specs.Read.{IsTtiRead}
use Rattle.dch_tti.specs.RxFrames.{RxFrames, frame_at, rx_frame_at, tti_place}

-- the same CFN, the same combination of each frame, and where there is one the same cells
pub record KeepTheSame (one other : RxFrames) : Type 0 where
  pub cfn : other.cfn ≡ one.cfn
  pub combination : (k : ℕ) → k < 8 → (rx_frame_at other.frames k).combination ≡ (rx_frame_at one.frames k).combination
  pub cells : (k c : ℕ) → k < 8 → (rx_frame_at one.frames k).combination ≡ Some c → (rx_frame_at other.frames k).cells ≡ (rx_frame_at one.frames k).cells

pub same_combination : (side : Side) (one other : RxFrames) (i n : ℕ) → KeepTheSame one other → (frame_at side other i n).combination ≡ (frame_at side one i n).combination
same_combination side one other i n same =
    ap (λ m. (rx_frame_at other.frames (tti_place m (channel_at side i).frames n)).combination) same.cfn
    ∙ same.combination (tti_place one.cfn (channel_at side i).frames n) (omega arith)

pub same_cells : (side : Side) (one other : RxFrames) (i n c : ℕ) → KeepTheSame one other → (frame_at side one i n).combination ≡ Some c → (frame_at side other i n).cells ≡ (frame_at side one i n).cells
same_cells side one other i n c same found =
    ap (λ m. (rx_frame_at other.frames (tti_place m (channel_at side i).frames n)).cells) same.cfn
    ∙ same.cells (tti_place one.cfn (channel_at side i).frames n) c (omega arith) found

same_format : (side : Side) (one other : RxFrames) (i n : ℕ) → KeepTheSame one other → tti_format side other i n ≡ tti_format side one i n
same_format side one other i n same = ap (format_in side i) (same_combination side one other i n same)

pub format_alike : (side : Side) (one other : RxFrames) (i f : ℕ) → KeepTheSame one other → IsFormatOf side one i f → IsFormatOf side other i f
format_alike side one other i f same is = record {
  inside = is.inside;
  all = λ n inside. same_format side one other i n same ∙ is.all n inside;
}

pub bad_alike : (side : Side) (one other : RxFrames) (i n : ℕ) → KeepTheSame one other → IsBadFrame side one i n → IsBadFrame side other i n
bad_alike side one other i n same is =
    let at : (m : ℕ) → tti_format side other i m ≡ tti_format side one i m = λ m. same_format side one other i m same in record {
      inside = is.inside;
      bad = elim is.bad [
        | inl none ↦ inl (at n ∙ none)
        | inr differ ↦ inr (λ both. differ (sym (at n) ∙ both ∙ at 0))
      ];
      first = λ earlier early. (λ none. (is.first earlier early).0 (sym (at earlier) ∙ none), at earlier ∙ (is.first earlier early).1 ∙ sym (at 0));
    }

-- where the votes of a direction are the same
pub reading_alike : (planned : Planned) (dir : Dir) (AreVotes : RxFrames → ℕ → ℕ → List Vote → Type 0) (one other : RxFrames) (i : ℕ) (held : Held) → KeepTheSame one other
    → ((f : ℕ) (votes : List Vote) → AreVotes one i f votes → AreVotes other i f votes) → IsTtiRead planned dir AreVotes one i held → IsTtiRead planned dir AreVotes other i held
reading_alike planned dir AreVotes one other i held same alike read = record {
  format = format_alike (side_of planned.config dir) one other i held.format same read.format;
  votes = read.votes;
  long = read.long;
  are = alike held.format read.votes read.are;
  blocks = read.blocks;
}
