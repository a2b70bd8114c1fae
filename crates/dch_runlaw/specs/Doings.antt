-- What an event of a node does with its layer 2: some of these, one after another.
use Rattle.std.specs.Prelude.{◌≡◌, ◌++◌, ◌==◌, ℕ, List, [], ◌∷◌, Bool, true, false, if◌then◌else◌}
use Rattle.dch_bits.specs.declared.bit.Bit.{Bit}
use Rattle.dch_types.specs.declared.channel.Dir.{Dir}
use Rattle.dch_types.specs.declared.config.Config.{Config}
use Rattle.dch_mac.specs.Asked.{starts}
use Rattle.dch_node.specs.Lines.{Line}
use Rattle.dch_layer2.specs.Layers.{Came, Layer, blocks, offers, takes, ticks}
use Rattle.dch_layer2.specs.Starting.{IsStart, asked_in}
use Rattle.dch_runlaw.specs.Lines.{lines_of}

-- a unit is offered, a combination is blocked or free, timers tick, a channel's blocks are taken, TTIs start, or lines
-- are reported
pub data Doing : Type 0 where
  Offers : (bearer : ℕ) → (octets : List ℕ) → (bits : List Bit) → Doing
  Blocks : (combination : ℕ) → (on : Bool) → Doing
  Ticks : Doing
  Takes : (channel : ℕ) → (blocks : List Came) → Doing
  Starts : (cfn : ℕ) → Doing
  Says : (lines : List Line) → Doing  -- of what is no part of layer 2

-- an end that sends in one direction and receives in the other does it
abbrev pub Does : Config → Dir → Dir → Layer → Doing → Layer → List Line → Type 0
Does config out into old (Offers b octets bits) new lines = (new ≡ (offers config out b octets bits old).layer)
    × (lines ≡ (offers config out b octets bits old).lines)
Does config out into old (Blocks c on) new lines = (new ≡ blocks c on old) × (lines ≡ [])
Does config out into old Ticks new lines = (new ≡ ticks config old) × (lines ≡ [])
Does config out into old (Takes channel came) new lines = (new ≡ (takes config into channel 0 came old).layer)
    × (lines ≡ (takes config into channel 0 came old).lines)
Does config out into old (Starts cfn) new lines = IsStart config out cfn old new × (lines ≡ [])
Does config out into old (Says said) new lines = (new ≡ old) × (lines ≡ said) × ((b : ℕ) → lines_of b said ≡ [])

-- the good blocks with bits among these
abbrev pub has_bits : List Bit → Bool
has_bits [] = false
has_bits (bit ∷ bits) = true

abbrev pub block_if : Bool → Bool → List Bit → List (List Bit)
block_if true true bits = bits ∷ []
block_if true false bits = []
block_if false some bits = []

abbrev pub good_blocks : List Came → List (List Bit)
good_blocks [] = []
good_blocks (came ∷ later) = block_if came.good (has_bits came.bits) came.bits ++ good_blocks later

-- the good blocks with bits that are taken of a channel
abbrev pub taken_by : Doing → ℕ → List (List Bit)
taken_by (Offers b octets bits) i = []
taken_by (Blocks c on) i = []
taken_by Ticks i = []
taken_by (Takes channel came) i = if channel == i then good_blocks came else []
taken_by (Starts cfn) i = []
taken_by (Says lines) i = []

-- the blocks that are given to a channel, which are those of its new TTI
abbrev pub given_by : Config → Dir → Layer → Doing → Layer → ℕ → List (List Bit)
given_by config out old (Offers b octets bits) new i = []
given_by config out old (Blocks c on) new i = []
given_by config out old Ticks new i = []
given_by config out old (Takes channel came) new i = []
given_by config out old (Says lines) new i = []
given_by config out old (Starts cfn) new i = if starts (asked_in config out cfn old) i then (new.given i).blocks else []
