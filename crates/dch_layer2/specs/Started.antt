-- How TTIs start: one channel after another.
use Rattle.std.specs.Prelude.{◌≡◌, ◌<◌, ◌&&◌, ℕ, List, Bool, Option, Some, None, if◌then◌else◌, length, nat_lt}
use Rattle.dch_bits.specs.declared.bit.Bit.{Bit}
use Rattle.dch_types.specs.declared.channel.Dir.{Dir}
use Rattle.dch_types.specs.Parts.{format_number, side_of}
use Rattle.dch_accept.specs.Blocks.{Held}
use Rattle.dch_accept.specs.HeldSets.{held_at}
use Rattle.dch_mac.specs.Asked.{Asked, format_in, starts}
use Rattle.dch_mac.specs.Offered.{given}
use Rattle.dch_layer2.specs.Bearings.{Bearing, channel_of, head_of}
use Rattle.dch_layer2.specs.Building.{Gives}
use Rattle.dch_layer2.specs.Layers.{Given}
use Rattle.dch_layer2.specs.Starting.{blocks_for}
use Rattle.dch_layer2.specs.BearerStanding.{Represents as StandsFor}
use Rattle.dch_layer2.specs.declared.bearer.Bearer.{Bearer}
use Rattle.dch_layer2.specs.Opening.{IsGiven}
use Rattle.dch_layer2.specs.Sharing.{AreStanding, HasBits, Moment, asked_by, built_on, head_in}
use Rattle.dch_layer2.specs.Values.{entity_at}

-- the blocks of a channel that starts
abbrev pub given_by : Asked → ℕ → (ℕ → List (List Bit)) → ℕ → Given
given_by asked c built i = record { format = format_number asked.side c i; blocks = blocks_for asked built i }

-- a channel has started: its bearers built its blocks, and the other ones are as they were
pub record IsChannelStarted (m : Moment) (into : Dir) (c i : ℕ) (bearings : ℕ → Bearing) (bearers : List Bearer)
    (held : Held) : Type 0 where
  pub next : ℕ → Bearing
  pub built : ℕ → List (List Bit)
  pub gives : (a : ℕ) → Gives m.config m.out a (built_on (asked_by m) i (format_in (asked_by m) c i) a) (bearings a)
      (next a) (built a)
  pub stands : (a : ℕ) → a < length m.config.bearers → StandsFor m.config m.out into a (next a) (entity_at bearers a)
  pub given : IsGiven m.config m.out i (given_by (asked_by m) c built i) held

-- channel j has started where the first i channels were looked at
abbrev pub is_started : Asked → ℕ → ℕ → Bool
is_started asked i j = nat_lt j i && starts asked j

-- how many blocks a bearer built then, by its channel
abbrev pub count_to : Asked → ℕ → ℕ → ℕ → Option ℕ → ℕ
count_to asked c i b None = 0
count_to asked c i b (Some j) = if is_started asked i j then given asked j (format_in asked c j) b else 0

-- and what a channel was given
abbrev pub given_to : Asked → ℕ → (ℕ → List (List Bit)) → ℕ → (ℕ → Given) → ℕ → Given
given_to asked c built i old j = if is_started asked i j then given_by asked c built j else old j

-- what was there before: each bearer stands for a bearing, in which no unit is empty, and offers this; each channel was
-- given something
pub record IsBefore (m : Moment) (into : Dir) (bearings : ℕ → Bearing) (gave : ℕ → Given) (bearers : List Bearer)
    (held : List Held) : Type 0 where
  pub standing : AreStanding m into bearings bearers
  pub bits : (b : ℕ) → b < length m.config.bearers → HasBits (bearings b)
  pub heads : (b : ℕ) → b < length m.config.bearers → head_in m.heads b ≡ head_of m.config m.out b (bearings b)
  pub all : length held ≡ length (side_of m.config m.out).channels
  pub given : (i : ℕ) → i < length (side_of m.config m.out).channels
      → IsGiven m.config m.out i (gave i) (held_at held i)

-- and what is there when the first channels have started
pub record IsAfter (m : Moment) (into : Dir) (c i : ℕ) (bearings : ℕ → Bearing) (gave : ℕ → Given)
    (bearers : List Bearer) (held : List Held) : Type 0 where
  pub next : ℕ → Bearing
  pub built : ℕ → List (List Bit)
  pub gives : (a : ℕ) → Gives m.config m.out a (count_to (asked_by m) c i a (channel_of m.config m.out a)) (bearings a)
      (next a) (built a)
  pub stands : (a : ℕ) → a < length m.config.bearers → StandsFor m.config m.out into a (next a) (entity_at bearers a)
  pub given : (j : ℕ) → j < length (side_of m.config m.out).channels
      → IsGiven m.config m.out j (given_to (asked_by m) c built i gave j) (held_at held j)

-- TTIs can start
pub record CanStart (m : Moment) (bearers : List Bearer) (held : List Held) : Type 0 where
  pub into : Dir
  pub bearings : ℕ → Bearing
  pub gave : ℕ → Given
  pub before : IsBefore m into bearings gave bearers held

-- those of the first channels have started
pub record HaveStarted (m : Moment) (c i : ℕ) (bearers new_bearers : List Bearer)
    (held new_held : List Held) : Type 0 where
  pub all_bearers : length new_bearers ≡ length bearers
  pub all : length new_held ≡ length held
  pub after : (into : Dir) (bearings : ℕ → Bearing) (gave : ℕ → Given) → IsBefore m into bearings gave bearers held
      → IsAfter m into c i bearings gave new_bearers new_held
