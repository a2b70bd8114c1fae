-- Counting the cells of each bit.
use Rattle.std.proofs.Common.{◌≡◌, ◌≢◌, ◌<◌, ◌≤◌, ◌+◌, ℕ, zero, suc, List, [], ◌∷◌, length, get_or, arith, refl, ap, ap₂, sym, subst, ◌∙◌, inl, inr, below_more}
use Rattle.std.specs.Prelude.{slice_index}
use Rattle.std.proofs.Math.ListN.{set}
use Rattle.std.proofs.lemmas.List.{get_or-set_other, get_or-set_same}
use Rattle.std.proofs.lemmas.Bool.{cases_eq, cases_lt}
use Rattle.dch_bits.specs.declared.bit.Vote.{Vote}
use Rattle.dch_types.specs.declared.config.Uplink.{Uplink}
use Rattle.dch_types.specs.Parts.{channel_at}
use Rattle.dch_inter.specs.Places.{frame_of, place_of}
use Rattle.dch_trellis.specs.Search.{no_votes}
use Rattle.dch_trellis.specs.Distance.{AreOfZeros, copies_at}
use Rattle.dch_collision.specs.Copies.{padded_in, frame_copies, uplink_copies}
use Rattle.dch_margin.specs.Counts.{AreCounts, IsCount}

-- the first bits are counted
abbrev pub AreFirstCounts : (ℕ → ℕ) → List Vote → ℕ → Type 0
AreFirstCounts sent votes n = (j : ℕ) → j < n → IsCount (sent j) (get_or votes j no_votes)

pub count_more : (sent : ℕ → ℕ) (votes : List Vote) (m : ℕ) (vote : Vote) → m < length votes → IsCount (sent m) vote → AreFirstCounts sent votes m → AreFirstCounts sent (set votes m vote) (m + 1)
count_more sent votes m vote inside is told = below_more (λ j. IsCount (sent j) (get_or (set votes m vote) j no_votes)) m
    (λ j early. subst (λ (v : Vote). IsCount (sent j) v) (sym (get_or-set_other votes m j vote no_votes (λ same. absurd (omega (arith, same))))) (told j early))
    (subst (λ (v : Vote). IsCount (sent m) v) (sym (get_or-set_same votes m vote no_votes inside)) is)

-- the places that the first radio frames carry are counted
abbrev pub AreCarried : Uplink → ℕ → ℕ → List ℕ → List Vote → ℕ → Type 0
AreCarried uplink i f sequence votes n =
    (j : ℕ) → j < length votes → frame_of (channel_at uplink.side i).frames (length votes) j < n → IsCount (uplink_copies uplink i f sequence j) (get_or votes j no_votes)

pub carried_more : (uplink : Uplink) (i f n frames : ℕ) (sequence : List ℕ) (segment before after : List Vote)
    → frames ≡ (channel_at uplink.side i).frames → length after ≡ padded_in uplink.side i f → length before ≡ length after
    → ((j : ℕ) (d : Vote) → j < length after → frame_of frames (length after) j ≡ n → get_or after j d ≡ get_or segment (place_of frames (length after) j) d)
    → ((j : ℕ) (d : Vote) → j < length after → frame_of frames (length after) j ≢ n → get_or after j d ≡ get_or before j d)
    → ((j : ℕ) → j < length after → place_of frames (length after) j < length segment)
    → AreCounts (frame_copies uplink i n (slice_index sequence n)) segment
    → AreCarried uplink i f sequence before n → AreCarried uplink i f sequence after (n + 1)
unfolding uplink_copies
carried_more uplink i f n frames sequence segment before after whole long stays carried same rows told done j inside early =
    let all : ℕ = (channel_at uplink.side i).frames in
    let len : ℕ = padded_in uplink.side i f in
    let frame_is : frame_of frames (length after) j ≡ frame_of all len j = ap₂ (λ (f l : ℕ). frame_of f l j) whole long in
    let place_is : place_of frames (length after) j ≡ place_of all len j = ap₂ (λ (f l : ℕ). place_of f l j) whole long in
    let early_is : frame_of all (length after) j ≡ frame_of all len j = ap (λ (l : ℕ). frame_of all l j) long in
    elim (cases_eq (frame_of frames (length after) j) n) [
      | inl here ↦
          let place : ℕ = place_of frames (length after) j in
          let which : frame_copies uplink i n (slice_index sequence n) place ≡ uplink_copies uplink i f sequence j =
          ap₂ (λ (m place : ℕ). frame_copies uplink i m (slice_index sequence m) place) (sym here ∙ frame_is) place_is in
          subst (λ (n : ℕ). IsCount n (get_or after j no_votes)) which
          (subst (λ (v : Vote). IsCount (frame_copies uplink i n (slice_index sequence n) place) v) (sym (carried j no_votes inside here)) (told place (rows j inside)))
      | inr other ↦
          let there : frame_of all (length before) j ≡ frame_of all (length after) j = ap (λ (l : ℕ). frame_of all l j) stays in
          subst (λ (v : Vote). IsCount (uplink_copies uplink i f sequence j) v) (sym (same j no_votes inside other))
          (done j (omega (arith, stays)) (omega (arith, there, early_is, frame_is, early)))
    ]

-- votes that count something count what they have
pub own_counts : (sent : ℕ → ℕ) (votes : List Vote) → AreCounts sent votes → AreCounts (copies_at votes) votes
own_counts sent votes counts j inside = record {
  zeros = omega (arith, (counts j inside).ones);
  ones = (counts j inside).ones;
  few = omega (arith, (counts j inside).zeros, (counts j inside).ones, (counts j inside).few);
}

pub counts_are : (sent : ℕ → ℕ) (votes : List Vote) (j : ℕ) → AreCounts sent votes → j < length votes → copies_at votes j ≡ sent j
counts_are sent votes j counts inside = omega (arith, (counts j inside).zeros, (counts j inside).ones)

past : (votes : List Vote) (j : ℕ) → length votes ≤ j → get_or votes j no_votes ≡ no_votes
past [] j beyond = refl
past (v ∷ votes) zero beyond = absurd (omega arith)
past (v ∷ votes) (suc j) beyond = past votes j (omega arith)

pub of_zeros : (sent : ℕ → ℕ) (votes : List Vote) → AreCounts sent votes → AreOfZeros votes
of_zeros sent votes counts j = elim (cases_lt j (length votes)) [
  | inl inside ↦ (counts j inside).ones
  | inr beyond ↦ ap (λ (v : Vote). v.ones) (past votes j beyond)
]
