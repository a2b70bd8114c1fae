-- Flags of the bits that are sent.
use Rattle.std.proofs.Common.{◌≡◌, ◌≢◌, ◌<◌, ◌+◌, ℕ, List, Bool, false, length, get_or, ap, ap₂, sym, ◌∙◌, arith, inl, inr, below_more}
use Rattle.std.specs.Prelude.{nat_lt, slice_index}
use Rattle.std.proofs.Math.ListN.{set}
use Rattle.std.proofs.lemmas.List.{get_or-set_other, get_or-set_same}
use Rattle.std.proofs.lemmas.Bool.{cases_eq}
use Rattle.dch_types.specs.declared.config.Uplink.{Uplink}
use Rattle.dch_types.specs.Parts.{channel_at}
use Rattle.dch_inter.specs.Places.{frame_of, place_of}
use Rattle.dch_collision.specs.Copies.{padded_in, frame_copies, uplink_copies, AreSentFlags}

-- the first bits are told
abbrev pub AreTold : (ℕ → ℕ) → List Bool → ℕ → Type 0
AreTold sent sent_flags n = (j : ℕ) → j < n → get_or sent_flags j false ≡ nat_lt 0 (sent j)

pub told_more : (sent : ℕ → ℕ) (sent_flags : List Bool) (m : ℕ) (flag : Bool) → m < length sent_flags → flag ≡ nat_lt 0 (sent m) → AreTold sent sent_flags m → AreTold sent (set sent_flags m flag) (m + 1)
told_more sent sent_flags m flag inside is told = below_more (λ j. get_or (set sent_flags m flag) j false ≡ nat_lt 0 (sent j)) m
    (λ j early. get_or-set_other sent_flags m j flag false (λ same. absurd (omega (arith, same))) ∙ told j early)
    (get_or-set_same sent_flags m flag false inside ∙ is)

-- the places that the first radio frames carry are told
abbrev pub AreCarried : Uplink → ℕ → ℕ → List ℕ → List Bool → ℕ → Type 0
AreCarried uplink i f sequence sent_flags n =
    (j : ℕ) → j < length sent_flags → frame_of (channel_at uplink.side i).frames (length sent_flags) j < n → get_or sent_flags j false ≡ nat_lt 0 (uplink_copies uplink i f sequence j)

pub carried_more : (uplink : Uplink) (i f n frames : ℕ) (sequence : List ℕ) (segment before after : List Bool)
    → frames ≡ (channel_at uplink.side i).frames → length after ≡ padded_in uplink.side i f → length before ≡ length after
    → ((j : ℕ) (d : Bool) → j < length after → frame_of frames (length after) j ≡ n → get_or after j d ≡ get_or segment (place_of frames (length after) j) d)
    → ((j : ℕ) (d : Bool) → j < length after → frame_of frames (length after) j ≢ n → get_or after j d ≡ get_or before j d)
    → ((j : ℕ) → j < length after → place_of frames (length after) j < length segment)
    → AreSentFlags (frame_copies uplink i n (slice_index sequence n)) segment
    → AreCarried uplink i f sequence before n → AreCarried uplink i f sequence after (n + 1)
unfolding uplink_copies
carried_more uplink i f n frames sequence segment before after whole long stays carried same rows told done j inside early =
    let all : ℕ = (channel_at uplink.side i).frames in
    let len : ℕ = padded_in uplink.side i f in
    let frame_is : frame_of frames (length after) j ≡ frame_of all len j = ap₂ (λ (f l : ℕ). frame_of f l j) whole long in
    let place_is : place_of frames (length after) j ≡ place_of all len j = ap₂ (λ (f l : ℕ). place_of f l j) whole long in
    let early_is : frame_of all (length after) j ≡ frame_of all len j = ap (λ (l : ℕ). frame_of all l j) long in
    elim (cases_eq (frame_of frames (length after) j) n) [
      | inl here ↦
          carried j false inside here
          ∙ told (place_of frames (length after) j) (rows j inside)
          ∙ ap₂ (λ (m place : ℕ). nat_lt 0 (frame_copies uplink i m (slice_index sequence m) place)) (sym here ∙ frame_is) place_is
      | inr other ↦
          let there : frame_of all (length before) j ≡ frame_of all (length after) j = ap (λ (l : ℕ). frame_of all l j) stays in
          same j false inside other ∙ done j (omega (arith, stays)) (omega (arith, there, early_is, frame_is, early))
    ]
