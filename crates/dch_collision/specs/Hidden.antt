-- Blocks whose code is not shown from that of zeros, by the place of their first One, and the votes that find them.
use Rattle.std.specs.Prelude.{◌≡◌, ◌+◌, ◌*◌, ◌<◌, ◌&&◌, not, ℕ, List, Bool, true, false, length, sum_by, slice_index_or}
use Rattle.dch_bits.specs.declared.bit.Bit.{Bit}
use Rattle.dch_bits.specs.declared.bit.Bit.TheVariants.{Zero, One}
use Rattle.dch_bits.specs.declared.bit.Vote.{Vote}
use Rattle.dch_types.specs.declared.channel.Coding.{Coding}
use Rattle.dch_types.specs.declared.channel.Coding.TheVariants.{Half, Third}
use Rattle.dch_coding.specs.declared.rate.Rate.{Rate}
use Rattle.dch_coding.specs.declared.rate.Rate.TheVariants.{Half as HalfRate, Third as ThirdRate}
use Rattle.dch_coding.specs.Conv.{coded_length, encoded}
use Rattle.dch_trellis.specs.Nearest.{IsBlock, IsFirst}
use Rattle.dch_trellis.specs.Search.{no_votes}

-- the coding of a rate
abbrev pub coding_of : Rate → Coding
coding_of HalfRate = Half
coding_of ThirdRate = Third

-- a block whose first One is bit k, and whose coded bits are Zero wherever they are sent
pub record IsHidden (rate : Rate) (sent_flags : List Bool) (size k : ℕ) (block : List Bit) : Type 0 where
  pub shape : IsBlock size k block
  pub one : slice_index_or block k Zero ≡ One
  pub silent : (t : ℕ) → t < coded_length rate size → slice_index_or sent_flags t false ≡ true
      → slice_index_or (encoded rate block) t Zero ≡ Zero

-- and of those the first in text order
pub record IsFirstHidden (rate : Rate) (sent_flags : List Bool) (size k : ℕ) (block : List Bit) : Type 0 where
  pub hidden : IsHidden rate sent_flags size k block
  pub first : (other : List Bit) → IsHidden rate sent_flags size k other → IsFirst block other

-- no output of step k is sent
abbrev pub is_punctured : Rate → List Bool → ℕ → Bool
is_punctured HalfRate sent_flags k = not (slice_index_or sent_flags (2 * k) false) &&
    not (slice_index_or sent_flags (2 * k + 1) false)
is_punctured ThirdRate sent_flags k = not (slice_index_or sent_flags (3 * k) false) &&
    not (slice_index_or sent_flags (3 * k + 1) false) && not (slice_index_or sent_flags (3 * k + 2) false)

-- the vote for a coded bit: so many times Zero where it is sent, so many times One where it is not
abbrev pub vote_for : ℕ → ℕ → Bool → Vote
vote_for low high true = record { zeros = low; ones = 0 }
vote_for low high false = record { zeros = 0; ones = high }

-- such a vote for each coded bit
abbrev pub AreVotes : ℕ → ℕ → List Bool → List Vote → Type 0
AreVotes low high sent_flags votes = (t : ℕ) → t < length sent_flags → slice_index_or votes t no_votes
    ≡ vote_for low high (slice_index_or sent_flags t false)

-- how many coded bits are not sent
abbrev pub missing : Bool → ℕ
missing true = 0
missing false = 1

abbrev pub removed : List Bool → ℕ
removed sent_flags = sum_by missing sent_flags
