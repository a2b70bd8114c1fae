-- The coded bits of two different blocks are as far apart as the free distance.
use Rattle.std.proofs.Common.{◌≡◌, ◌+◌, ◌*◌, ◌<◌, ◌≤◌, ◌⊎◌, ℕ, List, [], ◌∷◌, length, get_or, arith, refl, ap, sym, ◌∙◌, inl, inr}
use Rattle.std.specs.Prelude.{replicate}
use Rattle.std.proofs.lemmas.List.{length-replicate, get_or-replicate}
use Rattle.dch_bits.specs.declared.bit.Bit.{Bit}
use Rattle.dch_bits.specs.declared.bit.Bit.TheVariants.{Zero, One}
use Rattle.dch_bits.specs.declared.bit.Vote.{Vote}
use Rattle.dch_bits.specs.Bits.{number_of, plus, distance}
use Rattle.dch_coding.specs.declared.rate.Rate.{Rate}
use Rattle.dch_coding.specs.declared.rate.Rate.TheVariants.{Half, Third}
use Rattle.dch_coding.specs.Conv.{coded_length, encoded}
use Rattle.dch_coding.proofs.Codes.{length-encoded}
use Rattle.dch_coding.proofs.Linear.{sum, length-sum, encoded-sum, sum-same}
use Rattle.dch_trellis.specs.Distance.{free_distance, AreApart, IsAttained}
use Rattle.dch_trellis.specs.Nearest.{differing, disagreement}
use Rattle.dch_trellis.specs.Windows.{output}
use Rattle.dch_trellis.specs.Search.{no_votes, branch_metric}
use Rattle.dch_trellis.proofs.FreeDistance.{AreWeighed, zeros_or_far}
use Rattle.dch_trellis.proofs.Link.{path_metric-disagreement}

-- one copy, of Zero, so that each One of a code costs one
abbrev one_zero : Vote
one_zero = record { zeros = 1; ones = 0 }

differing-one_zero : (b : Bit) → differing one_zero b ≡ number_of b
differing-one_zero Zero = refl
differing-one_zero One = refl

distance-sum : (xs ys : List Bit) → length xs ≡ length ys → distance xs ys ≡ disagreement (replicate (length xs) one_zero) (sum xs ys)
distance-sum [] ys same = refl
distance-sum (x ∷ xs) [] same = absurd (omega arith)
distance-sum (x ∷ xs) (y ∷ ys) same = omega (arith, differing-one_zero (plus x y), distance-sum xs ys (omega arith))

vote-one_zero : (n i : ℕ) (b : Bit) → i < n → number_of b ≡ differing (get_or (replicate n one_zero) i no_votes) b
vote-one_zero n i b within = sym (differing-one_zero b) ∙ ap (λ vote. differing vote b) (sym (get_or-replicate n i one_zero no_votes within))

weighed : (rate : Rate) (size : ℕ) → AreWeighed rate (branch_metric rate (replicate (coded_length rate size) one_zero)) (size + 8)
unfolding branch_metric
weighed Half size k s b inside small =
    let window : ℕ = 256 * number_of b + s in
    omega (arith, vote-one_zero (2 * (size + 8)) (2 * k + 0) (output Half window 0) (omega arith), vote-one_zero (2 * (size + 8)) (2 * k + 1) (output Half window 1) (omega arith))
weighed Third size k s b inside small =
    let window : ℕ = 256 * number_of b + s in
    omega (arith, vote-one_zero (3 * (size + 8)) (3 * k + 0) (output Third window 0) (omega arith), vote-one_zero (3 * (size + 8)) (3 * k + 1) (output Third window 1) (omega arith), vote-one_zero (3 * (size + 8)) (3 * k + 2) (output Third window 2) (omega arith))

-- two blocks are the same, or far apart
pub same_or_far : (rate : Rate) (a b : List Bit) → length a ≡ length b → (a ≡ b) ⊎ (free_distance rate ≤ distance (encoded rate a) (encoded rate b))
same_or_far rate a b sized =
    let c : List Bit = sum a b in
    let size : ℕ = coded_length rate (length c) in
    let votes : List Vote = replicate size one_zero in
    let long : length (encoded rate a) ≡ size = length-encoded rate a ∙ ap (coded_length rate) (sym (length-sum a b sized)) in
    let longer : length (encoded rate b) ≡ size = length-encoded rate b ∙ ap (coded_length rate) (sym (length-sum a b sized ∙ sized)) in
    let cost : distance (encoded rate a) (encoded rate b) ≡ disagreement votes (encoded rate c) =
    distance-sum (encoded rate a) (encoded rate b) (long ∙ sym longer)
    ∙ ap (λ n. disagreement (replicate n one_zero) (sum (encoded rate a) (encoded rate b))) long
    ∙ ap (disagreement votes) (sym (encoded-sum rate a b sized)) in
    elim (zeros_or_far rate (branch_metric rate votes) (length c + 8) c 0 (weighed rate (length c)) (omega arith)) [
      | inl zeros ↦ inl (sum-same a b sized zeros)
      | inr far ↦ inr (omega (arith, far, cost, path_metric-disagreement rate votes c (length-replicate {A = Vote} size one_zero)))
    ]

pub apart : (rate : Rate) → AreApart rate
apart rate a b sized differ = elim (same_or_far rate a b sized) [ inl same ↦ absurd (differ same) | inr far ↦ far ]

-- of the least weight, one One
pub attained : (rate : Rate) → IsAttained rate
unfolding encoded
attained Half = (One ∷ [], Zero ∷ [], refl, refl)
attained Third = (One ∷ [], Zero ∷ [], refl, refl)
