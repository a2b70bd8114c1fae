-- Code blocks that are read as they were sent, though some of their copies arrive wrong or not at all.
use Rattle.std.specs.Prelude.{◌≡◌, ◌+◌, ◌*◌, ◌<◌, ℕ, List, length}
use Rattle.dch_bits.specs.declared.bit.Bit.{Bit}
use Rattle.dch_bits.specs.declared.bit.Vote.{Vote}
use Rattle.dch_types.specs.declared.channel.Coding.{Coding}
use Rattle.dch_types.specs.declared.channel.Coding.TheVariants.{Uncoded, Half, Third}
use Rattle.dch_types.specs.declared.channel.Format.{Format}
use Rattle.dch_types.specs.declared.channel.Trch.{Trch}
use Rattle.dch_types.specs.Lengths.{coded_block}
use Rattle.dch_coding.specs.declared.rate.Rate.TheVariants.{Half as HalfRate, Third as ThirdRate}
use Rattle.dch_coding.specs.Segments.{plan_of, filler_of}
use Rattle.dch_coding.specs.declared.cut.Plan.{Plan}
use Rattle.dch_coding.specs.Chain.{coded_as, code_block}
use Rattle.dch_coding.specs.Ttis.{AreJoined, part}
use Rattle.dch_trellis.specs.Distance.{damage, free_distance, AreToldApart}
use Rattle.dch_trellis.specs.Nearest.{disagreement}
use Rattle.dch_accept.specs.CollisionClear.{block_copies}
use Rattle.dch_accept.specs.Blocks.{Held, bits_of}
use Rattle.dch_tti.specs.Received.{ArrivesAs}

-- in how many places the coded bits of two blocks differ at least
abbrev pub least_distance : Coding → ℕ
least_distance Uncoded = 1
least_distance Half = free_distance HalfRate
least_distance Third = free_distance ThirdRate

-- the votes for code block r, and its coded bits
abbrev pub block_votes : Coding → Plan → List Vote → ℕ → List Vote
block_votes coding plan votes r = part r (coded_block coding plan.size) votes

abbrev pub coded_bits_of : Coding → Plan → List Bit → ℕ → List Bit
coded_bits_of coding plan joined r = coded_as coding (code_block plan joined r)

-- of code block r so few copies are lost that it is told from others, where coded bit j of the TTI is sent `sent j`
-- times: a wrong copy counts twice and a missing one once, and together they are less than the copies in which two
-- blocks differ
pub record IsCorrectable (coding : Coding) (plan : Plan) (sent : ℕ → ℕ) (votes : List Vote) (joined : List Bit)
    (r : ℕ) : Type 0 where
  pub count : ℕ
  pub apart : AreToldApart (coded_as coding) plan.size (filler_of plan r) (block_copies coding plan sent r) count
  pub few : disagreement (block_votes coding plan votes r) (coded_bits_of coding plan joined r)
      + damage (block_copies coding plan sent r) (block_votes coding plan votes r) (coded_bits_of coding plan joined r)
      < count

-- and so in each code block of a TTI
abbrev pub AreCorrectable : Coding → (ℕ → ℕ) → List Vote → List Bit → Type 0
AreCorrectable coding sent votes joined =
    let plan = plan_of (length joined) coding in
    (r : ℕ) → r < plan.blocks → IsCorrectable coding plan sent votes joined r

-- in each code block of a TTI less than half as many copies are wrong as so many times the free distance of its code.
-- So many times at least each coded bit was received
abbrev pub AreFewWrong : Coding → ℕ → List Vote → List Bit → Type 0
AreFewWrong coding least votes joined =
    let plan = plan_of (length joined) coding in
    (r : ℕ) → r < plan.blocks → 2 * disagreement (block_votes coding plan votes r)
    (coded_bits_of coding plan joined r) < least * least_distance coding

-- where each code block of a TTI is correctable, just the blocks of that TTI are received
abbrev pub ReadsCorrectable : Trch → Format → List Vote → Held → Type 0
ReadsCorrectable channel format votes held =
    (blocks joined : List Bit) (sent : ℕ → ℕ) → length blocks ≡ bits_of format → AreJoined channel format blocks joined
    → AreCorrectable channel.coding sent votes joined → ArrivesAs blocks held
