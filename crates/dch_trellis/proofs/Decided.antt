-- A block on whose coded bits the copies decide is the nearest one.
use Rattle.std.proofs.Common.{◌≡◌, ◌+◌, ◌<◌, ◌≤◌, ℕ, suc, List, [], ◌∷◌, length, sum_by, arith, refl, ap, sym, ◌∙◌, inl, inr}
use Rattle.std.proofs.lemmas.List.Sums.{sum_by-cons}
use Rattle.dch_bits.specs.declared.bit.Bit.{Bit}
use Rattle.dch_bits.specs.declared.bit.Bit.TheVariants.{Zero, One}
use Rattle.dch_bits.specs.declared.bit.Vote.{Vote}
use Rattle.dch_bits.specs.Bits.{number_of, plus, distance}
use Rattle.dch_coding.specs.declared.rate.Rate.{Rate}
use Rattle.dch_coding.specs.declared.rate.Rate.TheVariants.{Half, Third}
use Rattle.dch_coding.specs.Conv.{coded_length, encoded}
use Rattle.dch_coding.proofs.Codes.{length-encoded}
use Rattle.dch_trellis.specs.Distance.{free_distance}
use Rattle.dch_trellis.specs.Inverse.{IsDecided, AreDecided}
use Rattle.dch_trellis.specs.Nearest.{differing, disagreement, IsBlock, IsNearest}
use Rattle.dch_trellis.specs.Search.{branch_metric, is_free, best, found}
use Rattle.dch_trellis.specs.Undamaged.{fewest}
use Rattle.dch_trellis.proofs.Apart.{same_or_far}
use Rattle.dch_trellis.proofs.Found.{found_nearest, disagreement-found}

-- another bit costs one copy more at least
differing-decided : (vote : Vote) (x y : Bit) → IsDecided vote x → differing vote x + number_of (plus x y) ≤ differing vote y
differing-decided vote Zero Zero decided = omega arith
differing-decided vote Zero One decided = omega arith
differing-decided vote One Zero decided = omega arith
differing-decided vote One One decided = omega arith

fewest-decided : (vote : Vote) (x : Bit) → IsDecided vote x → differing vote x ≡ fewest vote
fewest-decided vote Zero decided = omega arith
fewest-decided vote One decided = omega arith

-- other bits disagree with so many copies more at least as they differ from those
disagreement-decided : (votes : List Vote) (xs ys : List Bit) → length xs ≡ length votes → length ys ≡ length votes → AreDecided votes xs → disagreement votes xs + distance xs ys ≤ disagreement votes ys
disagreement-decided [] [] ys long other decided = omega arith
disagreement-decided [] (x ∷ xs) ys long other decided = absurd (omega arith)
disagreement-decided (v ∷ votes) [] ys long other decided = absurd (omega arith)
disagreement-decided (v ∷ votes) (x ∷ xs) [] long other decided = absurd (omega arith)
disagreement-decided (v ∷ votes) (x ∷ xs) (y ∷ ys) long other decided =
    omega (arith, differing-decided v x y (decided 0 (omega arith)), disagreement-decided votes xs ys (omega arith) (omega arith) (λ j within. decided (suc j) (omega arith)))

-- which disagree with as few as any bits do
disagreement-fewest : (votes : List Vote) (xs : List Bit) → length xs ≡ length votes → AreDecided votes xs → disagreement votes xs ≡ sum_by fewest votes
disagreement-fewest [] xs long decided = refl
disagreement-fewest (v ∷ votes) [] long decided = absurd (omega arith)
disagreement-fewest (v ∷ votes) (x ∷ xs) long decided =
    omega (arith, sum_by-cons fewest v votes, fewest-decided v x (decided 0 (omega arith)), disagreement-fewest votes xs (omega arith) (λ j within. decided (suc j) (omega arith)))

some_distance : (rate : Rate) → 0 < free_distance rate
some_distance Half = omega arith
some_distance Third = omega arith

-- so no other block is as near
pub found-decided : (rate : Rate) (votes : List Vote) (size filler : ℕ) (block : List Bit) → length votes ≡ coded_length rate size → IsBlock size filler block → AreDecided votes (encoded rate block) → block ≡ found rate votes size filler
found-decided rate votes size filler block sized shape decided =
    let near : IsNearest rate votes size filler (found rate votes size filler) = found_nearest rate votes size filler sized in
    let long : length (encoded rate block) ≡ length votes = length-encoded rate block ∙ ap (coded_length rate) shape.sized ∙ sym sized in
    let other : length (encoded rate (found rate votes size filler)) ≡ length votes = length-encoded rate (found rate votes size filler) ∙ ap (coded_length rate) near.shape.sized ∙ sym sized in
    elim (same_or_far rate block (found rate votes size filler) (shape.sized ∙ sym near.shape.sized)) [
      | inl same ↦ same
      | inr far ↦ absurd (omega (arith, far, some_distance rate, near.least block shape, disagreement-decided votes (encoded rate block) (encoded rate (found rate votes size filler)) long other decided))
    ]

pub best-decided : (rate : Rate) (votes : List Vote) (size filler : ℕ) (block : List Bit) → length votes ≡ coded_length rate size → IsBlock size filler block → AreDecided votes (encoded rate block) → sum_by fewest votes ≡ best (branch_metric rate votes) (is_free size filler) (size + 8) 0 0
best-decided rate votes size filler block sized shape decided =
    let long : length (encoded rate block) ≡ length votes = length-encoded rate block ∙ ap (coded_length rate) shape.sized ∙ sym sized in
    sym (disagreement-fewest votes (encoded rate block) long decided)
    ∙ ap (λ bits. disagreement votes (encoded rate bits)) (found-decided rate votes size filler block sized shape decided)
    ∙ disagreement-found rate votes size filler sized
