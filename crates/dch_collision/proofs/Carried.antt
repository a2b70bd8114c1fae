-- Collisions depend only on which coded bits are sent at all.
use Rattle.std.proofs.Common.{◌<◌, ◌+◌, ◌*◌, ℕ, List, arith}
use Rattle.dch_bits.specs.declared.bit.Bit.{Bit}
use Rattle.dch_types.specs.declared.channel.Coding.{Coding}
use Rattle.dch_types.specs.Lengths.{coded_block}
use Rattle.dch_coding.specs.declared.cut.Plan.{Plan}
use Rattle.dch_coding.specs.Segments.{plan_of, filler_of}
use Rattle.dch_collision.specs.Collisions.{IsCollision, IsFirstCollision, NoneCollide}
use Rattle.dch_collision.specs.Clear.{block_copies, AreClearBlocks, HasNoCollision}
use Rattle.dch_collision.specs.Found.{IsFirstBlock}

-- each coded bit of a code block that is sent by the first count is sent by the second
abbrev pub AreSentToo : Coding → ℕ → (ℕ → ℕ) → (ℕ → ℕ) → Type 0
AreSentToo coding size sent other = (t : ℕ) → t < coded_block coding size → 0 < sent t → 0 < other t

collision_by : (coding : Coding) (size filler : ℕ) (sent other : ℕ → ℕ) (a b : List Bit) → AreSentToo coding size sent other → IsCollision coding size filler other a b → IsCollision coding size filler sent a b
collision_by coding size filler sent other a b too collision = record {
  first = collision.first;
  second = collision.second;
  differ = collision.differ;
  agree = λ t within some. collision.agree t within (too t within some);
}

pub none_by : (coding : Coding) (size filler : ℕ) (sent other : ℕ → ℕ) → AreSentToo coding size sent other → NoneCollide coding size filler sent → NoneCollide coding size filler other
none_by coding size filler sent other too none a b collision = none a b (collision_by coding size filler sent other a b too collision)

pub first_by : (coding : Coding) (size filler : ℕ) (sent other : ℕ → ℕ) (block : List Bit) → AreSentToo coding size sent other → AreSentToo coding size other sent → IsFirstCollision coding size filler sent block → IsFirstCollision coding size filler other block
first_by coding size filler sent other block too back first = record {
  collides = collision_by coding size filler other sent _ block back first.collides;
  first = λ later collision. first.first later (collision_by coding size filler sent other _ later too collision);
}

-- the same of all code blocks of a TTI
abbrev pub AreAllSentToo : Coding → Plan → (ℕ → ℕ) → (ℕ → ℕ) → Type 0
AreAllSentToo coding plan sent other = (r t : ℕ) → r < plan.blocks → t < coded_block coding plan.size → 0 < sent (r * coded_block coding plan.size + t) → 0 < other (r * coded_block coding plan.size + t)

pub blocks_by : (coding : Coding) (plan : Plan) (sent other : ℕ → ℕ) → AreAllSentToo coding plan sent other → AreClearBlocks coding plan sent → AreClearBlocks coding plan other
blocks_by coding plan sent other too clear r inside =
    none_by coding plan.size (filler_of plan r) (block_copies coding plan sent r) (block_copies coding plan other r) (λ t within some. too r t inside within some) (clear r inside)

pub clear_by : (coding : Coding) (bits : ℕ) (sent other : ℕ → ℕ) → AreAllSentToo coding (plan_of bits coding) sent other → HasNoCollision coding bits sent → HasNoCollision coding bits other
clear_by coding bits sent other too clear = blocks_by coding (plan_of bits coding) sent other too clear

pub block_by : (coding : Coding) (plan : Plan) (sent other : ℕ → ℕ) (r : ℕ) (block : List Bit) → AreAllSentToo coding plan sent other → AreAllSentToo coding plan other sent → IsFirstBlock coding plan sent r block → IsFirstBlock coding plan other r block
block_by coding plan sent other r block too back first = record {
  there = first.there;
  here = first_by coding plan.size (filler_of plan r) (block_copies coding plan sent r) (block_copies coding plan other r) block
      (λ t within some. too r t first.there within some) (λ t within some. back r t first.there within some) first.here;
  before = λ earlier order. none_by coding plan.size (filler_of plan earlier) (block_copies coding plan sent earlier) (block_copies coding plan other earlier)
      (λ t within some. too earlier t (omega_less earlier r plan.blocks order first.there) within some) (first.before earlier order);
}
  where
    omega_less : (a b c : ℕ) → a < b → b < c → a < c
    omega_less a b c first second = omega arith
