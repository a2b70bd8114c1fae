-- Blocks that a terminal sent on a channel in a TTI, and what the legs' frames have of them.
use Rattle.std.specs.Prelude.{◌≡◌, ◌<◌, ℕ, Option, length}
use Rattle.dch_accept.specs.Blocks.{Held, block_at}
use Rattle.dch_combine.specs.Combined.{IsGoodBlock}
use Rattle.dch_combine.specs.Legs.{LegFrame, blocks_in}

-- block b is the one that was sent, at its place and in its format
pub record IsSentBlock (sent : Held) (b : ℕ) (held : Held) : Type 0 where
  pub format : held.format ≡ sent.format
  pub there : b < length sent.good
  pub bits : block_at held b ≡ block_at sent b

-- each good block that a leg has of channel i is the one that was sent
abbrev pub AreSent : (ℕ → Option LegFrame) → ℕ → Held → Type 0
AreSent legs i sent = (k b : ℕ) → IsGoodBlock (blocks_in (legs k) i) b → IsSentBlock sent b (blocks_in (legs k) i)

-- the blocks that a leg has of a channel are in the transport format of those that were sent, and each of them is good
pub record HasAll (sent held : Held) : Type 0 where
  pub format : held.format ≡ sent.format
  pub good : (b : ℕ) → b < length sent.good → IsGoodBlock held b

-- the good blocks are just those that were sent
pub record TakesSent (sent new : Held) : Type 0 where
  pub all : (b : ℕ) → b < length sent.good → IsGoodBlock new b × IsSentBlock sent b new
  pub only : (b : ℕ) → IsGoodBlock new b → IsSentBlock sent b new
