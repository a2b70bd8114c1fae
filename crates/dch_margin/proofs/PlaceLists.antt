-- One cell more, and one radio frame more.
use Rattle.std.proofs.Common.{◌≡◌, ◌+◌, ℕ, List, [], ◌∷◌, ◌++◌, Bool, true, false, append_assoc, refl, ap, sym, ◌∙◌, add-one}
use Rattle.std.specs.Prelude.{if◌then◌else◌}
use Rattle.dch_bits.specs.declared.bit.Bit.{Bit}
use Rattle.dch_margin.specs.Worst.{cells_among, frame_places, tti_places}
use Rattle.dch_margin.specs.declared.carrier.Carrier.{Carrier}
use Rattle.dch_margin.specs.declared.places.Place.{Place}

pub cells_among-none : (test : ℕ → Bool) (n : ℕ) → cells_among test n 0 ≡ []
unfolding cells_among
cells_among-none test n = refl

pub cells_among-more : (test : ℕ → Bool) (n k : ℕ) → cells_among test n (k + 1) ≡ (if test k then cells_among test n k ++ record { frame = n; cell = k } ∷ [] else cells_among test n k)
unfolding cells_among
cells_among-more test n k = rw add-one refl

pub tti_places-none : (carriers : ℕ → Carrier) (code : List Bit) (from : ℕ) → tti_places carriers code from 0 ≡ []
unfolding tti_places
tti_places-none carriers code from = refl

pub tti_places-more : (carriers : ℕ → Carrier) (code : List Bit) (from n : ℕ) → tti_places carriers code from (n + 1) ≡ tti_places carriers code from n ++ frame_places (carriers n) code from
unfolding tti_places
tti_places-more carriers code from n = rw add-one refl

pushed : (wanted : Bool) (front cells before after : List Place) (place : Place) → before ≡ front ++ cells → after ≡ (if wanted then before ++ place ∷ [] else before) → after ≡ front ++ (if wanted then cells ++ place ∷ [] else cells)
pushed true front cells before after place is more = more ∙ ap (λ (list : List Place). list ++ place ∷ []) is ∙ append_assoc front cells (place ∷ [])
pushed false front cells before after place is more = more ∙ is

pub cell_pushed : (test : ℕ → Bool) (n k : ℕ) (front before after : List Place) → before ≡ front ++ cells_among test n k → after ≡ (if test k then before ++ record { frame = n; cell = k } ∷ [] else before) → after ≡ front ++ cells_among test n (k + 1)
cell_pushed test n k front before after is more =
    pushed (test k) front (cells_among test n k) before after (record { frame = n; cell = k }) is more
    ∙ ap (λ (list : List Place). front ++ list) (sym (cells_among-more test n k))
