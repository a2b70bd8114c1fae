-- How far apart the coded bits of two blocks are.
use Rattle.std.specs.Prelude.{◌≡◌, ◌≢◌, ◌+◌, ◌-◌, ◌*◌, ◌≤◌, ◌<◌, ℕ, suc, max, List, [], ◌∷◌, length, slice_index_or}
use Rattle.dch_bits.specs.declared.bit.Bit.{Bit}
use Rattle.dch_bits.specs.declared.bit.Bit.TheVariants.{Zero, One}
use Rattle.dch_bits.specs.declared.bit.Vote.{Vote}
use Rattle.dch_bits.specs.Bits.{number_of, plus, distance}
use Rattle.dch_coding.specs.declared.rate.Rate.{Rate}
use Rattle.dch_coding.specs.declared.rate.Rate.TheVariants.{Half, Third}
use Rattle.dch_coding.specs.Conv.{encoded}
use Rattle.dch_trellis.specs.Nearest.{copies, IsBlock}
use Rattle.dch_trellis.specs.Search.{no_votes}

-- the free distance of the code of each rate: in how many places the coded bits of two blocks differ at least
abbrev pub free_distance : Rate → ℕ
free_distance Half = 12
free_distance Third = 18

-- the coded bits of two different blocks of one length differ in so many places
abbrev pub AreApart : Rate → Type 0
AreApart rate = (a b : List Bit) → length a ≡ length b → a ≢ b
    → free_distance rate ≤ distance (encoded rate a) (encoded rate b)

-- and some blocks differ in no more
abbrev pub IsAttained : Rate → Type 0
IsAttained rate = (a : List Bit) × (b : List Bit) × (length a ≡ length b)
    × (distance (encoded rate a) (encoded rate b) ≡ free_distance rate)

-- the copies of the places where two lists differ, with so many of each
abbrev pub copies_between : (ℕ → ℕ) → List Bit → List Bit → ℕ
copies_between sent [] others = 0
copies_between sent (bit ∷ bits) [] = 0
copies_between sent (bit ∷ bits)
    (other ∷ others) = sent 0 * number_of (plus bit other) + copies_between (λ j. sent (suc j)) bits others

-- so many copies at least tell two different blocks of this size and filler apart, by a code of which so many copies of
-- each bit are sent
abbrev pub AreToldApart : (List Bit → List Bit) → ℕ → ℕ → (ℕ → ℕ) → ℕ → Type 0
AreToldApart code size filler sent count = (a b : List Bit) → IsBlock size filler a → IsBlock size filler b → a ≢ b
    → count ≤ copies_between sent (code a) (code b)

-- how many copies of each coded bit there are, and that none of them is a One
abbrev pub copies_at : List Vote → ℕ → ℕ
copies_at votes j = copies (slice_index_or votes j no_votes)

abbrev pub AreOfZeros : List Vote → Type 0
AreOfZeros votes = (j : ℕ) → (slice_index_or votes j no_votes).ones ≡ 0

-- the least number of copies that tell two different blocks apart: no two differ in fewer, and some two in just so many
pub record IsLeastDistance (rate : Rate) (size filler : ℕ) (sent : ℕ → ℕ) (count : ℕ) : Type 0 where
  pub told : AreToldApart (encoded rate) size filler sent count
  pub attained : (a : List Bit) × (b : List Bit) × IsBlock size filler a × IsBlock size filler b × (a ≢ b)
      × (copies_between sent (encoded rate a) (encoded rate b) ≡ count)

-- how many of the copies of a bit did not arrive as they were sent: some are wrong, or missing
abbrev pub lost : ℕ → Vote → Bit → ℕ
lost sent vote Zero = max vote.ones (sent - vote.zeros)
lost sent vote One = max vote.zeros (sent - vote.ones)

-- how many of the copies of all bits of a coded block did not arrive as they were sent
abbrev pub damage : (ℕ → ℕ) → List Vote → List Bit → ℕ
damage sent [] bits = 0
damage sent (vote ∷ votes) [] = 0
damage sent (vote ∷ votes) (bit ∷ bits) = lost (sent 0) vote bit + damage (λ j. sent (suc j)) votes bits

-- each coded bit was received so many times at least
abbrev pub HaveCopies : ℕ → List Vote → Type 0
HaveCopies least votes = (j : ℕ) (v : Vote) → j < length votes → least ≤ copies (slice_index_or votes j v)
