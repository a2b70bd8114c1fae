-- Copies are wrong or missing where cells are changed.
use Rattle.std.proofs.Common.{◌≡◌, ◌+◌, ◌*◌, ◌<◌, ◌≤◌, ℕ, zero, suc, List, [], ◌∷◌, length, get_or, arith, refl, ap, ap₂}
use Rattle.dch_bits.specs.declared.bit.Bit.{Bit}
use Rattle.dch_bits.specs.declared.bit.Bit.TheVariants.{Zero, One}
use Rattle.dch_bits.specs.declared.bit.Trit.{Trit}
use Rattle.dch_bits.specs.declared.bit.Trit.TheVariants.{Zero as ZeroCell, One as OneCell, Off}
use Rattle.dch_bits.specs.declared.bit.Vote.{Vote}
use Rattle.dch_types.specs.Sums.{total}
use Rattle.dch_frame.specs.Votes.{copies_as_votes, ones_among, ones_of, votes_among, zeros_among, zeros_of}
use Rattle.dch_trellis.specs.Distance.{damage, lost}
use Rattle.dch_trellis.specs.Nearest.{differing, disagreement}
use Rattle.dch_trellis.specs.Search.{no_votes}
use Rattle.dch_tti.specs.Damaged.{cell_at, changed, changed_among}

-- what cells make of the copies of a bit: so many were sent right and wrong, so many arrive right and wrong
record Near (right wrong received_right received_wrong changes : ℕ) : Type 0 where
  twice : 2 * received_wrong ≤ 2 * wrong + changes
  left : received_wrong + right ≤ received_right + wrong + changes

near_none : Near 0 0 0 0 0
near_none = record { twice = omega arith; left = omega arith }

near_more : (a b c d e x y z w v : ℕ) → Near a b c d e → Near x y z w v → Near (a + x) (b + y) (c + z) (d + w) (e + v)
near_more a b c d e x y z w v first next = record { twice = omega (arith, first.twice, next.twice); left = omega (arith, first.left, next.left) }

zero_near : (a b : Trit) → Near (zeros_of a) (ones_of a) (zeros_of b) (ones_of b) (changed a b)
zero_near ZeroCell ZeroCell = record { twice = omega arith; left = omega arith }
zero_near ZeroCell OneCell = record { twice = omega arith; left = omega arith }
zero_near ZeroCell Off = record { twice = omega arith; left = omega arith }
zero_near OneCell ZeroCell = record { twice = omega arith; left = omega arith }
zero_near OneCell OneCell = record { twice = omega arith; left = omega arith }
zero_near OneCell Off = record { twice = omega arith; left = omega arith }
zero_near Off ZeroCell = record { twice = omega arith; left = omega arith }
zero_near Off OneCell = record { twice = omega arith; left = omega arith }
zero_near Off Off = record { twice = omega arith; left = omega arith }

one_near : (a b : Trit) → Near (ones_of a) (zeros_of a) (ones_of b) (zeros_of b) (changed a b)
one_near ZeroCell ZeroCell = record { twice = omega arith; left = omega arith }
one_near ZeroCell OneCell = record { twice = omega arith; left = omega arith }
one_near ZeroCell Off = record { twice = omega arith; left = omega arith }
one_near OneCell ZeroCell = record { twice = omega arith; left = omega arith }
one_near OneCell OneCell = record { twice = omega arith; left = omega arith }
one_near OneCell Off = record { twice = omega arith; left = omega arith }
one_near Off ZeroCell = record { twice = omega arith; left = omega arith }
one_near Off OneCell = record { twice = omega arith; left = omega arith }
one_near Off Off = record { twice = omega arith; left = omega arith }

zeros_near : (sent received : List Trit) (at n : ℕ) → Near (zeros_among sent at n) (ones_among sent at n) (zeros_among received at n) (ones_among received at n) (changed_among (cell_at sent) (cell_at received) at n)
unfolding zeros_among ones_among changed_among
zeros_near sent received at zero = near_none
zeros_near sent received at (suc n) = near_more _ _ _ _ _ _ _ _ _ _ (zeros_near sent received at n) (zero_near (get_or sent (at + n) Off) (get_or received (at + n) Off))

ones_near : (sent received : List Trit) (at n : ℕ) → Near (ones_among sent at n) (zeros_among sent at n) (ones_among received at n) (zeros_among received at n) (changed_among (cell_at sent) (cell_at received) at n)
unfolding zeros_among ones_among changed_among
ones_near sent received at zero = near_none
ones_near sent received at (suc n) = near_more _ _ _ _ _ _ _ _ _ _ (ones_near sent received at n) (one_near (get_or sent (at + n) Off) (get_or received (at + n) Off))

-- what the copies of a bit lose: those that are wrong count twice, and those that are missing once
abbrev pub loses : ℕ → Vote → Bit → ℕ
loses sent vote bit = differing vote bit + lost sent vote bit

loses_near : (copies zeros ones : ℕ) (bit : Bit) (vote : Vote) (changes : ℕ) → zeros ≡ (copies_as_votes bit copies).zeros → ones ≡ (copies_as_votes bit copies).ones → Near zeros ones vote.zeros vote.ones changes → Near ones zeros vote.ones vote.zeros changes
    → loses copies vote bit ≤ changes
loses_near copies zeros ones Zero vote changes all none first second = omega (arith, first.twice, first.left, all, none)
loses_near copies zeros ones One vote changes none all first second = omega (arith, second.twice, second.left, all, none)

-- the copies of a bit lose no more than its cells are changed
pub lost_changed : (sent received : List Trit) (at n copies : ℕ) (bit : Bit) → votes_among sent at n ≡ copies_as_votes bit copies → loses copies (votes_among received at n) bit ≤ changed_among (cell_at sent) (cell_at received) at n
unfolding votes_among
lost_changed sent received at n copies bit same =
    loses_near copies (zeros_among sent at n) (ones_among sent at n) bit (votes_among received at n) (changed_among (cell_at sent) (cell_at received) at n)
    (ap (λ (vote : Vote). vote.zeros) same) (ap (λ (vote : Vote). vote.ones) same) (zeros_near sent received at n) (ones_near sent received at n)

-- only the cells of these places count
pub changed_among-same : (sent received f g : ℕ → Trit) (at n : ℕ) → ((p : ℕ) → p < at + n → sent p ≡ f p) → ((p : ℕ) → p < at + n → received p ≡ g p) → changed_among sent received at n ≡ changed_among f g at n
unfolding changed_among
changed_among-same sent received f g at zero first second = refl
changed_among-same sent received f g at (suc n) first second =
    ap₂ (λ a b. a + b)
    (changed_among-same sent received f g at n (λ p within. first p (omega arith)) (λ p within. second p (omega arith)))
    (ap₂ changed (first (at + n) (omega arith)) (second (at + n) (omega arith)))

total-front : (f : ℕ → ℕ) (n : ℕ) → total f (suc n) ≡ f 0 + total (λ t. f (suc t)) n
unfolding total
total-front f zero = omega arith
total-front f (suc n) = omega (arith, total-front f n)

-- and so over all places
pub damage-changed : (copies changes : ℕ → ℕ) (votes : List Vote) (bits : List Bit) (len : ℕ) → length votes ≡ len → ((t : ℕ) → t < length votes → loses (copies t) (get_or votes t no_votes) (get_or bits t Zero) ≤ changes t)
    → disagreement votes bits + damage copies votes bits ≤ total changes len
damage-changed copies changes [] bits len long each = omega arith
damage-changed copies changes (v ∷ votes) [] len long each = omega arith
damage-changed copies changes (v ∷ votes) (b ∷ bits) zero long each = absurd (omega arith)
damage-changed copies changes (v ∷ votes) (b ∷ bits) (suc len) long each =
    omega (arith, total-front changes len, each 0 (omega arith), damage-changed (λ t. copies (suc t)) (λ t. changes (suc t)) votes bits len (omega arith) (λ t within. each (suc t) (omega arith)))

-- cells that are kept as they were sent have not changed
changed-same : (cell : Trit) → changed cell cell ≡ 0
changed-same ZeroCell = refl
changed-same OneCell = refl
changed-same Off = refl

pub changed_among-none : (cells : ℕ → Trit) (at n : ℕ) → changed_among cells cells at n ≡ 0
unfolding changed_among
changed_among-none cells at zero = refl
changed_among-none cells at (suc n) = omega (arith, changed_among-none cells at n, changed-same (cells (at + n)))
