-- What a decoder reads, as C has it.
use Rattle.std.specs.Prelude.{◌≡◌, ◌<◌, ◌≤◌, ◌^◌, ℕ, List, length, map}
use Rattle.dch_bits.specs.declared.bit.Bit.{Bit}
use Rattle.dch_bits.specs.declared.bit.Vote.{Vote}
use Rattle.dch_bits.specs.Text.{letter_of}
use Rattle.dch_coding.specs.Conv.{coded_length, encoded}
use Rattle.dch_coding.specs.declared.rate.Rate.{Rate}
use Rattle.dch_trellis.specs.Nearest.{IsNearest, all_copies, disagreement}
use Rattle.dch_handle.specs.declared.decoder.Copies.{Copies}

-- the copies of coded bits as votes
abbrev pub vote_of : Copies → Vote
vote_of copies = record { zeros = copies.zeros; ones = copies.ones }

abbrev pub votes_of : List Copies → List Vote
votes_of copies = map vote_of copies

-- copies can be read as a block of so many bits by a decoder for blocks of up to `most`
pub record Suits (most : ℕ) (rate : Rate) (copies : List Copies) (filler size : ℕ) : Type 0 where
  pub some : 1 ≤ size
  pub room : size ≤ most
  pub short : filler ≤ size
  pub coded : length copies ≡ coded_length rate size
  pub few : all_copies (votes_of copies) < 2 ^ 31

-- a text writes the block of so many bits, with so much filler, that is nearest to the copies; so many of them disagree
-- with it
pub record IsRead (rate : Rate) (copies : List Copies) (size filler : ℕ) (text : List ℕ)
    (disagreeing : ℕ) : Type 0 where
  pub bits : List Bit
  pub written : text ≡ map letter_of bits
  pub nearest : IsNearest rate (votes_of copies) size filler bits
  pub cost : disagreeing ≡ disagreement (votes_of copies) (encoded rate bits)
