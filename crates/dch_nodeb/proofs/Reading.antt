-- The TTI of a channel as it is read into the blocks of its set.
use Rattle.std.proofs.Common.{◌≡◌, ◌≢◌, ◌+◌, ◌<◌, ◌≤◌, ℕ, length, sym, subst, arith, inl, inr}
use Rattle.std.proofs.lemmas.Bool.Decides.{eqb_tells}
use Rattle.dch_types.specs.declared.channel.Dir.TheVariants.{Up}
use Rattle.dch_types.specs.Parts.{channel_at}
use Rattle.dch_types.specs.declared.config.Config.{Config}
use Rattle.dch_accept.specs.Blocks.{Held}
use Rattle.dch_accept.specs.HeldSets.{HasFormat, HeldSet, IsSetOf, held_at}
use Rattle.dch_accept.specs.Plans.{Planned}
use Rattle.dch_tti.specs.RxFrames.{RxFrames}
use Rattle.dch_tti.specs.Formats.{IsBadFrame}
use Rattle.dch_ulphy.specs.Read.{IsTtiRead}
use Rattle.dch_nodeb.specs.Steps.{IsBadTti}

-- what is read of a channel has one of its formats
pub read_has : (planned : Planned) (rx_frames : RxFrames) (i : ℕ) (held : Held) → IsTtiRead planned rx_frames i held → HasFormat (channel_at planned.config.uplink.side i) held
read_has planned rx_frames i held read = record { there = read.format.inside; size = read.blocks.sized; count = read.blocks.counted; long = read.blocks.whole }

-- the set has room for it
pub read_fits : (config : Config) (set i : ℕ) (held : Held) (blocks : HeldSet) → HasFormat (channel_at config.uplink.side i) held → IsSetOf config Up set blocks
    → i < length config.uplink.side.channels → (channel_at config.uplink.side i).set ≡ set → length held.bits ≤ (held_at blocks.blocks i).room
read_fits config set i held blocks has is inside member =
    subst (λ n. n ≤ (held_at blocks.blocks i).room) (sym has.long) (is.rooms.each i inside member held.format has.there)

-- blocks that were read are so in any room
pub read_roomed : (planned : Planned) (rx_frames : RxFrames) (i room : ℕ) (held : Held) → IsTtiRead planned rx_frames i held → IsTtiRead planned rx_frames i (record held { room = room })
read_roomed planned rx_frames i room held read = record {
  format = read.format;
  votes = read.votes;
  long = read.long;
  are = read.are;
  blocks = record {
    numbered = read.blocks.numbered;
    sized = read.blocks.sized;
    whole = read.blocks.whole;
    counted = read.blocks.counted;
    joined = read.blocks.joined;
    long = read.blocks.long;
    read = read.blocks.read;
    blocks = read.blocks.blocks;
  };
}

-- the first channel of a set that can't be read
pub bad_first : (planned : Planned) (rx_frames now : RxFrames) (set i channel frame : ℕ) (blocks : HeldSet) → now ≡ rx_frames → i < length planned.config.uplink.side.channels
    → (channel_at planned.config.uplink.side i).set ≡ set → ((j : ℕ) → j < i → (channel_at planned.config.uplink.side j).set ≡ set → IsTtiRead planned rx_frames j (held_at blocks.blocks j))
    → channel ≡ i → IsBadFrame planned.config.uplink.side now i frame → IsBadTti planned.config.uplink.side rx_frames set channel frame
bad_first planned rx_frames now set i channel frame blocks same inside member read is bad =
    let first : IsBadTti planned.config.uplink.side rx_frames set i frame = record {
      inside = inside;
      member = member;
      bad = subst (λ (l : RxFrames). IsBadFrame planned.config.uplink.side l i frame) same bad;
      before = λ j early other. record { format = (held_at blocks.blocks j).format; is = (read j early other).format };
    } in
    subst (λ n. IsBadTti planned.config.uplink.side rx_frames set n frame) (sym is) first

-- one more channel was read
pub read_on : (planned : Planned) (rx_frames now : RxFrames) (set i : ℕ) (old new : HeldSet) → now ≡ rx_frames
    → ((j : ℕ) → j < i → (channel_at planned.config.uplink.side j).set ≡ set → IsTtiRead planned rx_frames j (held_at old.blocks j))
    → IsTtiRead planned now i (held_at new.blocks i) → ((j : ℕ) → j ≢ i → held_at new.blocks j ≡ held_at old.blocks j)
    → (j : ℕ) → j < i + 1 → (channel_at planned.config.uplink.side j).set ≡ set → IsTtiRead planned rx_frames j (held_at new.blocks j)
read_on planned rx_frames now set i old new same before own others j early member = elim (eqb_tells j i) [
  | inl is ↦ subst (λ n. IsTtiRead planned rx_frames n (held_at new.blocks n)) (sym is.1) (subst (λ (l : RxFrames). IsTtiRead planned l i (held_at new.blocks i)) same own)
  | inr other ↦ (let apart : j ≢ i = other.1 in subst (λ (h : Held). IsTtiRead planned rx_frames j h) (sym (others j apart)) (before j (omega arith) member))
]

-- or belongs to another set
pub read_off : (planned : Planned) (rx_frames : RxFrames) (set i : ℕ) (blocks : HeldSet)
    → ((j : ℕ) → j < i → (channel_at planned.config.uplink.side j).set ≡ set → IsTtiRead planned rx_frames j (held_at blocks.blocks j))
    → (channel_at planned.config.uplink.side i).set ≢ set
    → (j : ℕ) → j < i + 1 → (channel_at planned.config.uplink.side j).set ≡ set → IsTtiRead planned rx_frames j (held_at blocks.blocks j)
read_off planned rx_frames set i blocks before none j early member = elim (eqb_tells j i) [
  | inl is ↦ absurd (none (subst (λ n. (channel_at planned.config.uplink.side n).set ≡ set) is.1 member))
  | inr other ↦ (let apart : j ≢ i = other.1 in before j (omega arith) member)
]
