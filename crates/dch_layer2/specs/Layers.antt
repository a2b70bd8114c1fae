-- Layer 2 of an end: the bearers, the combinations that are blocked, the combination that runs, and the blocks that
-- each channel was given for its running TTI. And what it does by itself: it takes units and blocks, and its timers
-- tick.
use Rattle.std.specs.Prelude.{◌+◌, ◌++◌, ◌==◌, ℕ, List, [], ◌∷◌, Bool, true, false, if◌then◌else◌, drop, length, replicate, set}
use Rattle.dch_bits.specs.declared.bit.Bit.{Bit}
use Rattle.dch_types.specs.declared.channel.Dir.{Dir}
use Rattle.dch_types.specs.declared.config.Config.{Config}
use Rattle.dch_types.specs.Limits.{idle_format}
use Rattle.dch_types.specs.Parts.{channel_at, side_of}
use Rattle.dch_mac.specs.declared.answer.Demux.{Demux}
use Rattle.dch_mac.specs.declared.answer.Demux.TheVariants.{To, Reserved as ReservedField, NoBearer as Unknown, Nobody as NoOne}
use Rattle.dch_mac.specs.Receivers.{receiver}
use Rattle.dch_indication.specs.Lines.{Line, Bad, NoBearer, Nobody, Reserved}
use Rattle.dch_layer2.specs.Bearings.{Bearing, after_answer, answers, line_of_answer, opened_bearing, ticked}
use Rattle.dch_layer2.specs.Hearing.{hears}

-- a format, and blocks that have bits
pub record Given : Type 0 where
  pub format : ℕ
  pub blocks : List (List Bit)

pub record Layer : Type 0 where
  pub bearings : ℕ → Bearing
  pub blocked : List Bool
  pub running : ℕ
  pub given : ℕ → Given

-- at opening every channel runs its idle format. TTIs of all channels start then, so no matter which combination has
-- run
abbrev pub opened_layer : Config → Dir → Layer
opened_layer config out = record {
  bearings = opened_bearing config out;
  blocked = replicate (length (side_of config out).combinations) false;
  running = 0;
  given = λ i. record { format = idle_format (channel_at (side_of config out) i); blocks = [] };
}

-- where another configuration becomes active every channel runs its idle format in it, no combination is blocked, and
-- the bearers stay
abbrev pub changed_layer : Config → Dir → Layer → Layer
changed_layer config out old = record (opened_layer config out) { bearings = old.bearings }

-- bearer b becomes another, and all others stay
abbrev pub with_bearing : Layer → ℕ → Bearing → Layer
with_bearing layer b new = record layer { bearings = λ c. if c == b then new else layer.bearings c }

-- what happens, and what is reported
pub record Outcome : Type 0 where
  pub layer : Layer
  pub lines : List Line

-- layer 2 of an end after an SDU is offered to a bearer, and the line that answers it
abbrev pub offers : Config → Dir → ℕ → List ℕ → List Bit → Layer → Outcome
offers config out b octets bits layer = record {
  layer = with_bearing layer b (after_answer (answers config out b octets bits (layer.bearings b)) octets bits
      (layer.bearings b));
  lines = line_of_answer out b (answers config out b octets bits (layer.bearings b)) ∷ [];
}

-- a combination is blocked, or is free again
abbrev pub blocks : ℕ → Bool → Layer → Layer
blocks c on layer = record layer { blocked = set layer.blocked c on }

-- the timers of all bearers tick
abbrev pub ticks : Config → Layer → Layer
ticks config layer = record layer { bearings = λ b. ticked config b (layer.bearings b) }

-- a block that came, and whether it is good
pub record Came : Type 0 where
  pub bits : List Bit
  pub good : Bool

-- a good block goes to its bearer
abbrev pub goes : Config → Dir → ℕ → List Bit → Demux → Layer → Outcome
goes config into channel bits (To b skip) layer = record {
  layer = with_bearing layer b (hears config into b (drop skip bits) (layer.bearings b)).bearing;
  lines = (hears config into b (drop skip bits) (layer.bearings b)).lines;
}
goes config into channel bits ReservedField layer = record { layer = layer; lines = Reserved into channel ∷ [] }
goes config into channel bits (Unknown ct) layer = record { layer = layer; lines = NoBearer into channel ct ∷ [] }
goes config into channel bits NoOne layer = record { layer = layer; lines = Nobody into channel ∷ [] }

-- a block without bits goes to nobody, and a bad one is reported
abbrev pub takes_good : Config → Dir → ℕ → List Bit → Layer → Outcome
takes_good config into channel [] layer = record { layer = layer; lines = [] }
takes_good config into channel (bit ∷ bits) layer = goes config into channel (bit ∷ bits)
    (receiver config into channel (bit ∷ bits)) layer

abbrev pub takes_one : Config → Dir → ℕ → ℕ → List Bit → Bool → Layer → Outcome
takes_one config into channel k bits true layer = takes_good config into channel bits layer
takes_one config into channel k bits false layer = record { layer = layer; lines = Bad into channel k ∷ [] }

-- layer 2 of an end after blocks of a TTI of a channel came, and the lines on them
abbrev pub takes : Config → Dir → ℕ → ℕ → List Came → Layer → Outcome
takes config into channel k [] layer = record { layer = layer; lines = [] }
takes config into channel k (came ∷ later) layer = record {
  layer = (takes config into channel (k + 1) later (takes_one config into channel k came.bits came.good
      layer).layer).layer;
  lines = (takes_one config into channel k came.bits came.good layer).lines
      ++ (takes config into channel (k + 1) later (takes_one config into channel k came.bits came.good
      layer).layer).lines;
}
