-- The votes of the first radio frames of a TTI.
use Rattle.std.proofs.Common.{◌≡◌, ◌≢◌, ◌+◌, ◌<◌, ◌≤◌, ℕ, List, length, get_or, arith, ap, sym, ◌∙◌, subst, inl, inr}
use Rattle.std.proofs.lemmas.Bool.{cases_eq}
use Rattle.dch_bits.specs.declared.bit.Vote.{Vote}
use Rattle.dch_types.specs.Parts.{channel_at}
use Rattle.dch_inter.specs.Places.{frame_of, place_of}
use Rattle.dch_accept.specs.Plans.{Planned}
use Rattle.dch_tti.specs.RxFrames.{RxFrame, RxFrames, frame_at}
use Rattle.dch_ulphy.specs.Read.{frame_votes, tti_votes}

-- the votes that the first frames carry are counted
pub record AreHeard (planned : Planned) (reader : RxFrames) (i : ℕ) (heard : List Vote) (n : ℕ) : Type 0 where
  pub votes : (j : ℕ) (v : Vote) → j < length heard → frame_of (channel_at planned.config.uplink.side i).frames (length heard) j < n →
      get_or heard j v ≡ tti_votes planned reader i (length heard) j
  pub few : (j : ℕ) (v : Vote) → j < length heard → frame_of (channel_at planned.config.uplink.side i).frames (length heard) j < n →
      (get_or heard j v).zeros + (get_or heard j v).ones ≤ 57600

pub heard_none : (planned : Planned) (reader : RxFrames) (i : ℕ) (heard : List Vote) → AreHeard planned reader i heard 0
heard_none planned reader i heard = record {
  votes = λ j v inside early. absurd (omega arith);
  few = λ j v inside early. absurd (omega arith);
}

-- one frame more
pub heard_more : (planned : Planned) (reader : RxFrames) (i n : ℕ) (heard next : List Vote) (kept : RxFrame) → length next ≡ length heard → kept ≡ frame_at planned.config.uplink.side reader i n
    → ((j : ℕ) (v : Vote) → j < length next → frame_of (channel_at planned.config.uplink.side i).frames (length next) j ≡ n → get_or next j v ≡ frame_votes planned i n kept.combination kept.cells (place_of (channel_at planned.config.uplink.side i).frames (length next) j))
    → ((j : ℕ) (v : Vote) → j < length next → frame_of (channel_at planned.config.uplink.side i).frames (length next) j ≡ n → (get_or next j v).zeros + (get_or next j v).ones ≤ 57600)
    → ((j : ℕ) (v : Vote) → j < length next → frame_of (channel_at planned.config.uplink.side i).frames (length next) j ≢ n → get_or next j v ≡ get_or heard j v)
    → AreHeard planned reader i heard n → AreHeard planned reader i next (n + 1)
heard_more planned reader i n heard next kept long is votes few same done =
    let side = planned.config.uplink.side in
    let f : ℕ = (channel_at side i).frames in
    record {
      votes = λ j v inside early. elim (cases_eq (frame_of f (length next) j) n) [
        | inl here ↦
            votes j v inside here
            ∙ ap (λ (kept : RxFrame). frame_votes planned i n kept.combination kept.cells (place_of f (length next) j)) is
            ∙ ap (λ n. frame_votes planned i n (frame_at side reader i n).combination (frame_at side reader i n).cells (place_of f (length next) j)) (sym here)
        | inr other ↦
            same j v inside other
            ∙ done.votes j v (omega (arith, long)) (subst (λ len. frame_of f len j < n) long (omega arith))
            ∙ ap (λ len. tti_votes planned reader i len j) (sym long)
      ];
      few = λ j v inside early. elim (cases_eq (frame_of f (length next) j) n) [
        | inl here ↦ few j v inside here
        | inr other ↦
            subst (λ (vote : Vote). vote.zeros + vote.ones ≤ 57600) (sym (same j v inside other))
            (done.few j v (omega (arith, long)) (subst (λ len. frame_of f len j < n) long (omega arith)))
      ];
    }
