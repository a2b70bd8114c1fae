use Rattle.std.proofs.Common.{◌≡◌, ℕ, List, [], slice_index, replicate, ap, ◌∙◌, arith, inl, inr}
use Rattle.std.proofs.lemmas.Bool.{cases_lt}
use Rattle.std.proofs.lemmas.List.{get_or-replicate, get_or_past, length-replicate}
use Rattle.dch_frame.proofs.places.Places.none.Goals as goal

clear : (n k : ℕ) → slice_index (replicate n 0) k ≡ 0
clear n k = elim (cases_lt k n) [
  | inl inside ↦ get_or-replicate n k 0 0 inside
  | inr past ↦ get_or_past (replicate n 0) k 0 (omega (arith, length-replicate {A = ℕ} n 0))
]

pub returns : goal.returns
returns c i f =
    let row : List ℕ = replicate 32 0 in
    elim (cases_lt i 8) [
      | inl inside ↦ ap (λ row. slice_index row f) (get_or-replicate 8 i row [] inside) ∙ clear 32 f
      | inr past ↦ ap (λ row. slice_index row f) (get_or_past (replicate 8 row) i [] past)
    ]
