-- The nearest block is the one that was sent, where less than half of the copies that tell it from others are lost.
use Rattle.std.proofs.Common.{◌≡◌, ◌+◌, ◌*◌, ◌<◌, ◌≤◌, ℕ, suc, List, [], ◌∷◌, length, get_or, arith, refl, ap, sym, ◌∙◌, inl, inr}
use Rattle.std.proofs.Math.Nat.{mul-le-mul_left}
use Rattle.dch_bits.specs.declared.bit.Bit.{Bit}
use Rattle.dch_bits.specs.declared.bit.Bit.TheVariants.{Zero, One}
use Rattle.dch_bits.specs.declared.bit.Vote.{Vote}
use Rattle.dch_bits.specs.Bits.{number_of, plus, distance}
use Rattle.dch_coding.specs.declared.rate.Rate.{Rate}
use Rattle.dch_coding.specs.Conv.{coded_length, encoded}
use Rattle.dch_coding.proofs.Codes.{length-encoded}
use Rattle.dch_coding.proofs.Linear.{same_or_not}
use Rattle.dch_trellis.specs.Distance.{free_distance, copies_between, AreToldApart, lost, damage, HaveCopies}
use Rattle.dch_trellis.specs.Nearest.{differing, disagreement, copies, IsBlock, IsNearest}
use Rattle.dch_trellis.specs.Search.{no_votes}
use Rattle.dch_trellis.proofs.Apart.{apart}

more_copies : (n least : ℕ) (x y : Bit) → least ≤ n → least * number_of (plus x y) ≤ n * number_of (plus x y)
more_copies n least Zero Zero some = omega arith
more_copies n least Zero One some = omega arith
more_copies n least One Zero some = omega arith
more_copies n least One One some = omega arith

pub copies-distance : (sent : ℕ → ℕ) (xs ys : List Bit) (least : ℕ) → ((j : ℕ) → j < length xs → least ≤ sent j) → least * distance xs ys ≤ copies_between sent xs ys
copies-distance sent [] ys least some = omega arith
copies-distance sent (x ∷ xs) [] least some = omega arith
copies-distance sent (x ∷ xs) (y ∷ ys) least some =
    omega (arith, more_copies (sent 0) least x y (some 0 (omega arith)), copies-distance (λ j. sent (suc j)) xs ys least (λ j within. some (suc j) (omega arith)))

-- with so many copies of each coded bit, so many times the free distance tell blocks apart
pub told_by_copies : (rate : Rate) (sent : ℕ → ℕ) (size filler least : ℕ) → ((j : ℕ) → j < coded_length rate size → least ≤ sent j) → AreToldApart (encoded rate) size filler sent (least * free_distance rate)
told_by_copies rate sent size filler least some a b first second differ =
    let long : length (encoded rate a) ≡ coded_length rate size = length-encoded rate a ∙ ap (coded_length rate) first.sized in
    omega (arith, mul-le-mul_left least (apart rate a b (first.sized ∙ sym second.sized) differ), copies-distance sent (encoded rate a) (encoded rate b) least (λ j within. some j (omega (arith, long))))

-- what speaks against the bits that were sent is lost
wrong-lost : (n : ℕ) (vote : Vote) (x : Bit) → differing vote x ≤ lost n vote x
wrong-lost n vote Zero = omega arith
wrong-lost n vote One = omega arith

pub disagreement-le : (sent : ℕ → ℕ) (votes : List Vote) (xs : List Bit) → disagreement votes xs ≤ damage sent votes xs
disagreement-le sent [] xs = omega arith
disagreement-le sent (v ∷ votes) [] = omega arith
disagreement-le sent (v ∷ votes) (x ∷ xs) = omega (arith, wrong-lost (sent 0) v x, disagreement-le (λ j. sent (suc j)) votes xs)

-- what is not lost speaks against other bits
left : (n : ℕ) (vote : Vote) (x y : Bit) → n * number_of (plus x y) ≤ lost n vote x + differing vote y
left n vote Zero Zero = omega arith
left n vote Zero One = omega arith
left n vote One Zero = omega arith
left n vote One One = omega arith

pub copies_between-le : (sent : ℕ → ℕ) (votes : List Vote) (xs ys : List Bit) → length xs ≡ length votes → copies_between sent xs ys ≤ damage sent votes xs + disagreement votes ys
copies_between-le sent [] [] ys long = omega arith
copies_between-le sent [] (x ∷ xs) ys long = absurd (omega arith)
copies_between-le sent (v ∷ votes) [] ys long = omega arith
copies_between-le sent (v ∷ votes) (x ∷ xs) [] long = omega arith
copies_between-le sent (v ∷ votes) (x ∷ xs) (y ∷ ys) long = omega (arith, left (sent 0) v x y, copies_between-le (λ j. sent (suc j)) votes xs ys (omega arith))

-- a block that disagrees with no more copies than the one that was sent is that one
pub found-sent : (code : List Bit → List Bit) (votes : List Vote) (size filler count : ℕ) (sent : ℕ → ℕ) (found block : List Bit) → length (code block) ≡ length votes → IsBlock size filler found → IsBlock size filler block
    → disagreement votes (code found) ≤ disagreement votes (code block) → AreToldApart code size filler sent count → 2 * damage sent votes (code block) < count → found ≡ block
found-sent code votes size filler count sent found block long shape is near told few = elim (same_or_not found block) [
  | inl same ↦ same
  | inr differ ↦
      absurd (omega (arith, told block found is shape (λ same. differ (sym same)), copies_between-le sent votes (code block) (code found) long, disagreement-le sent votes (code block)))
]

pub nearest-sent : (rate : Rate) (votes : List Vote) (size filler count : ℕ) (sent : ℕ → ℕ) (found block : List Bit) → length votes ≡ coded_length rate size → IsNearest rate votes size filler found → IsBlock size filler block
    → AreToldApart (encoded rate) size filler sent count → 2 * damage sent votes (encoded rate block) < count → found ≡ block
nearest-sent rate votes size filler count sent found block coded nearest is told few =
    found-sent (encoded rate) votes size filler count sent found block (length-encoded rate block ∙ ap (coded_length rate) is.sized ∙ sym coded) nearest.shape is (nearest.least block is) told few

-- only the copies of these places count
pub damage-same : (sent other : ℕ → ℕ) (votes : List Vote) (xs : List Bit) → ((j : ℕ) → j < length votes → sent j ≡ other j) → damage sent votes xs ≡ damage other votes xs
damage-same sent other [] xs same = refl
damage-same sent other (v ∷ votes) [] same = refl
damage-same sent other (v ∷ votes) (x ∷ xs) same =
    rw (same 0 (omega arith), damage-same (λ j. sent (suc j)) (λ j. other (suc j)) votes xs (λ j within. same (suc j) (omega arith))) refl

-- where all received copies count as sent, just the wrong ones are lost
abbrev pub received : List Vote → ℕ → ℕ
received votes j = copies (get_or votes j no_votes)

lost-wrong : (vote : Vote) (x : Bit) → lost (copies vote) vote x ≡ differing vote x
lost-wrong vote Zero = omega arith
lost-wrong vote One = omega arith

pub damage-received : (votes : List Vote) (xs : List Bit) → damage (received votes) votes xs ≡ disagreement votes xs
damage-received [] xs = refl
damage-received (v ∷ votes) [] = refl
damage-received (v ∷ votes) (x ∷ xs) = omega (arith, lost-wrong v x, damage-received votes xs)

pub nearest-received : (rate : Rate) (votes : List Vote) (size filler least : ℕ) (found block : List Bit) → length votes ≡ coded_length rate size → IsNearest rate votes size filler found → IsBlock size filler block
    → HaveCopies least votes → 2 * disagreement votes (encoded rate block) < least * free_distance rate → found ≡ block
nearest-received rate votes size filler least found block coded nearest is some few =
    nearest-sent rate votes size filler (least * free_distance rate) (received votes) found block coded nearest is
    (told_by_copies rate (received votes) size filler least (λ j within. some j no_votes (omega (arith, coded))))
    (omega (arith, few, damage-received votes (encoded rate block)))
