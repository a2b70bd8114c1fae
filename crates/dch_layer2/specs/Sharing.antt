-- How TTIs start: the bearers of a channel share its blocks.
use Rattle.std.specs.Prelude.{◌≡◌, ◌<◌, ◌+◌, ◌++◌, ◌==◌, ℕ, zero, suc, List, [], ◌∷◌, Bool, true, if◌then◌else◌, length, min, slice_index_or}
use Rattle.dch_bits.specs.declared.bit.Bit.{Bit}
use Rattle.dch_types.specs.declared.channel.Dir.{Dir}
use Rattle.dch_types.specs.declared.channel.Format.{Format}
use Rattle.dch_types.specs.declared.config.Config.{Config}
use Rattle.dch_types.specs.Parts.{side_of}
use Rattle.dch_accept.specs.Blocks.{Held, block_at}
use Rattle.dch_mac.specs.declared.head.Head.{Head}
use Rattle.dch_mac.specs.Asked.{Asked, asked_of}
use Rattle.dch_mac.specs.Offered.{given, waiting}
use Rattle.dch_layer2.specs.Bearings.{Acknowledged, Bearing, Transparent, Unacknowledged, head_of}
use Rattle.dch_layer2.specs.Building.{Gives}
use Rattle.dch_layer2.specs.Starting.{in_turn, is_on, joined}
use Rattle.dch_layer2.specs.BearerStanding.{Represents as StandsFor}
use Rattle.dch_layer2.specs.declared.bearer.Bearer.{Bearer}
use Rattle.dch_layer2.specs.Values.{entity_at}

-- a radio frame at which TTIs start, with what the bearers offer
pub record Moment : Type 0 where
  pub config : Config
  pub out : Dir
  pub cfn : ℕ
  pub running : ℕ
  pub heads : List Head
  pub blocked : List Bool

abbrev pub asked_by : Moment → Asked
asked_by m = asked_of m.config m.out m.cfn m.running m.heads m.blocked

pub record IsMoment (m : Moment) : Type 0 where
  pub running : m.running < length (side_of m.config m.out).combinations
  pub heads : length m.heads ≡ length m.config.bearers
  pub blocked : length m.blocked ≡ length (side_of m.config m.out).combinations

-- what a bearer offers, whatever it stands for, and what all offer
abbrev pub IsHead : Bearer → Head → Type 0
IsHead bearer head = (config : Config) (out into : Dir) (b : ℕ) (now : Bearing) → StandsFor config out into b now bearer
    → head ≡ head_of config out b now

abbrev pub head_in : List Head → ℕ → Head
head_in heads b = slice_index_or heads b (record { size = 0; count = 0 })

pub record AreHeads (count : ℕ) (bearers : List Bearer) (heads : List Head) : Type 0 where
  pub all : length heads ≡ length bearers
  pub each : (b : ℕ) → b < length bearers → b < count → IsHead (entity_at bearers b) (head_in heads b)

-- a bearer that offers this
pub record Offers (bearer : Bearer) (head : Head) : Type 0 where
  pub config : Config
  pub out : Dir
  pub into : Dir
  pub b : ℕ
  pub bearing : Bearing
  pub stands : StandsFor config out into b bearing bearer
  pub head_is : head ≡ head_of config out b bearing

-- how many blocks of a size are built where so many are left
abbrev pub share : Head → ℕ → ℕ → ℕ
share head size left = min (if head.size == size then head.count else 0) left

-- the first blocks
abbrev pub front : Held → ℕ → List (List Bit)
front held zero = []
front held (suc k) = front held k ++ block_at held k ∷ []

-- other bits, and the rest as it is
pub record IsSameShape (old new : Held) : Type 0 where
  pub format : new.format ≡ old.format
  pub size : new.size ≡ old.size
  pub good : new.good ≡ old.good
  pub long : length new.bits ≡ length old.bits
  pub room : new.room ≡ old.room

-- a bearer built so many blocks, which stand behind the first ones
pub record Fills (config : Config) (out into : Dir) (b n from : ℕ) (old : Bearing) (bearer : Bearer)
    (before after : Held) : Type 0 where
  pub next : Bearing
  pub blocks : List (List Bit)
  pub gives : Gives config out b n old next blocks
  pub stands : StandsFor config out into b next bearer
  pub shape : IsSameShape before after
  pub filled : front after (from + n) ≡ front before from ++ blocks

-- units that have bits, and those that wait at a transparent bearer
abbrev pub HaveBits : List (List Bit) → Type 0
HaveBits [] = Unit {0}
HaveBits (u ∷ us) = (0 < length u) × HaveBits us

abbrev pub units_in : Bearing → List (List Bit)
units_in (Transparent w us) = w.units
units_in (Unacknowledged s r) = []
units_in (Acknowledged s r) = []

pub record HasBits (bearing : Bearing) : Type 0 where
  pub units : HaveBits (units_in bearing)

-- how many blocks a bearer of a channel builds
abbrev pub built_on : Asked → ℕ → Format → ℕ → ℕ
built_on asked i format a = if is_on asked i a then given asked i format a else 0

-- all bearers stand for these bearings
pub record AreStanding (m : Moment) (into : Dir) (bearings : ℕ → Bearing) (bearers : List Bearer) : Type 0 where
  pub all : length bearers ≡ length m.config.bearers
  pub each : (b : ℕ) → b < length m.config.bearers → StandsFor m.config m.out into b (bearings b) (entity_at bearers b)

-- in which no unit is empty, and those of a channel still offer what they did
pub record AreReady (m : Moment) (i : ℕ) (into : Dir) (bearings : ℕ → Bearing) (bearers : List Bearer) : Type 0 where
  pub standing : AreStanding m into bearings bearers
  pub bits : (b : ℕ) → b < length m.config.bearers → HasBits (bearings b)
  pub heads : (b : ℕ) → b < length m.config.bearers → is_on (asked_by m) i b ≡ true → head_in m.heads b
      ≡ head_of m.config m.out b (bearings b)

pub record CanShare (m : Moment) (i : ℕ) (bearers : List Bearer) : Type 0 where
  pub into : Dir
  pub bearings : ℕ → Bearing
  pub ready : AreReady m i into bearings bearers

-- each bearer built so many blocks, and the first blocks of the channel are those of these bearers in order
pub record IsShared (m : Moment) (into : Dir) (counts : ℕ → ℕ) (order : List ℕ) (n : ℕ) (bearings : ℕ → Bearing)
    (bearers : List Bearer) (held : Held) : Type 0 where
  pub next : ℕ → Bearing
  pub built : ℕ → List (List Bit)
  pub gives : (a : ℕ) → Gives m.config m.out a (counts a) (bearings a) (next a) (built a)
  pub stands : (a : ℕ) → a < length m.config.bearers → StandsFor m.config m.out into a (next a) (entity_at bearers a)
  pub filled : front held n ≡ joined built order

-- all bearers of a channel built what they give
pub record AreAllServed (m : Moment) (i : ℕ) (format : Format) (old new : List Bearer)
    (before after : Held) : Type 0 where
  pub all : length new ≡ length old
  pub shape : IsSameShape before after
  pub shared : (into : Dir) (bearings : ℕ → Bearing) → AreStanding m into bearings old
      → IsShared m into (built_on (asked_by m) i format) (in_turn (asked_by m) i 8)
      (min format.number (waiting (asked_by m) i format.size)) bearings new after
