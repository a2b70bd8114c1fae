-- From layers that say the same, whatever happens leads to such layers, and has the same lines.
use Rattle.std.proofs.Common.{◌≡◌, ◌+◌, ◌++◌, ◌==◌, ℕ, zero, suc, List, [], ◌∷◌, Bool, true, false, cond, drop, refl, ap, ap₂, set}
use Rattle.dch_bits.specs.declared.bit.Bit.{Bit}
use Rattle.dch_types.specs.declared.channel.Dir.{Dir}
use Rattle.dch_types.specs.declared.config.Config.{Config}
use Rattle.dch_mac.specs.declared.answer.Demux.{Demux}
use Rattle.dch_mac.specs.declared.answer.Demux.TheVariants.{To, Reserved as ReservedField, NoBearer as Unknown, Nobody as NoOne}
use Rattle.dch_mac.specs.Receivers.{receiver}
use Rattle.dch_indication.specs.Lines.{Line}
use Rattle.dch_layer2.specs.Bearings.{Bearing, after_answer, answers, line_of_answer, ticked}
use Rattle.dch_layer2.specs.Coming.{came_of}
use Rattle.dch_layer2.specs.Hearing.{hears}
use Rattle.dch_layer2.specs.Layers.{Came, Layer, Outcome, blocks, changed_layer, goes, offers, takes, takes_good, takes_one, ticks, with_bearing}
use Rattle.dch_layer2.specs.Reading.{Bad, Nothing, Read, Reading, reads, reads_below}
use Rattle.dch_layer2.specs.SameLayers.{IsSameLayer}

-- two outcomes that say the same
pub record IsSameOutcome (outcome other : Outcome) : Type 0 where
  pub layer : IsSameLayer outcome.layer other.layer
  pub lines : other.lines ≡ outcome.lines

pub same_layer : (layer : Layer) → IsSameLayer layer layer
same_layer layer = record { bearings = λ b. refl; blocked = refl; running = refl; given = λ i. refl }

-- a bearer becomes another
bearing_same : (layer other : Layer) (b : ℕ) (new again : Bearing) → IsSameLayer layer other → again ≡ new → IsSameLayer (with_bearing layer b new) (with_bearing other b again)
bearing_same layer other b new again same is = record {
  bearings = λ c. ap₂ (λ (x y : Bearing). cond (c == b) x y) is (same.bearings c);
  blocked = same.blocked;
  running = same.running;
  given = same.given;
}

-- a unit is offered, a combination is blocked or free, and the timers tick
pub offers_same : (config : Config) (out : Dir) (b : ℕ) (octets : List ℕ) (bits : List Bit) (layer other : Layer) → IsSameLayer layer other
    → IsSameOutcome (offers config out b octets bits layer) (offers config out b octets bits other)
offers_same config out b octets bits layer other same = record {
  layer = bearing_same layer other b _ _ same (ap (λ (x : Bearing). after_answer (answers config out b octets bits x) octets bits x) (same.bearings b));
  lines = ap (λ (x : Bearing). line_of_answer out b (answers config out b octets bits x) ∷ []) (same.bearings b);
}

pub blocks_same : (c : ℕ) (on : Bool) (layer other : Layer) → IsSameLayer layer other → IsSameLayer (blocks c on layer) (blocks c on other)
blocks_same c on layer other same = record { bearings = same.bearings; blocked = ap (λ (bs : List Bool). set bs c on) same.blocked; running = same.running; given = same.given }

pub ticks_same : (config : Config) (layer other : Layer) → IsSameLayer layer other → IsSameLayer (ticks config layer) (ticks config other)
ticks_same config layer other same = record { bearings = λ b. ap (ticked config b) (same.bearings b); blocked = same.blocked; running = same.running; given = same.given }

-- another configuration becomes active
pub changed_same : (config : Config) (out : Dir) (layer other : Layer) → IsSameLayer layer other → IsSameLayer (changed_layer config out layer) (changed_layer config out other)
changed_same config out layer other same = record { bearings = same.bearings; blocked = refl; running = refl; given = λ i. refl }

-- a block comes, and the blocks of a channel do
goes_same : (config : Config) (into : Dir) (channel : ℕ) (bits : List Bit) (to : Demux) (layer other : Layer) → IsSameLayer layer other
    → IsSameOutcome (goes config into channel bits to layer) (goes config into channel bits to other)
goes_same config into channel bits (To b skip) layer other same = record {
  layer = bearing_same layer other b _ _ same (ap (λ (x : Bearing). (hears config into b (drop skip bits) x).bearing) (same.bearings b));
  lines = ap (λ (x : Bearing). (hears config into b (drop skip bits) x).lines) (same.bearings b);
}
goes_same config into channel bits ReservedField layer other same = record { layer = same; lines = refl }
goes_same config into channel bits (Unknown ct) layer other same = record { layer = same; lines = refl }
goes_same config into channel bits NoOne layer other same = record { layer = same; lines = refl }

good_same : (config : Config) (into : Dir) (channel : ℕ) (bits : List Bit) (layer other : Layer) → IsSameLayer layer other → IsSameOutcome (takes_good config into channel bits layer) (takes_good config into channel bits other)
good_same config into channel [] layer other same = record { layer = same; lines = refl }
good_same config into channel (bit ∷ bits) layer other same = goes_same config into channel (bit ∷ bits) (receiver config into channel (bit ∷ bits)) layer other same

one_same : (config : Config) (into : Dir) (channel k : ℕ) (bits : List Bit) (good : Bool) (layer other : Layer) → IsSameLayer layer other
    → IsSameOutcome (takes_one config into channel k bits good layer) (takes_one config into channel k bits good other)
one_same config into channel k bits true layer other same = good_same config into channel bits layer other same
one_same config into channel k bits false layer other same = record { layer = same; lines = refl }

takes_same : (config : Config) (into : Dir) (channel k : ℕ) (came : List Came) (layer other : Layer) → IsSameLayer layer other → IsSameOutcome (takes config into channel k came layer) (takes config into channel k came other)
takes_same config into channel k [] layer other same = record { layer = same; lines = refl }
takes_same config into channel k (c ∷ later) layer other same =
    let first : IsSameOutcome (takes_one config into channel k c.bits c.good layer) (takes_one config into channel k c.bits c.good other) = one_same config into channel k c.bits c.good layer other same in
    let rest = takes_same config into channel (k + 1) later (takes_one config into channel k c.bits c.good layer).layer (takes_one config into channel k c.bits c.good other).layer first.layer in
    record { layer = rest.layer; lines = ap₂ (λ (ls ms : List Line). ls ++ ms) first.lines rest.lines }

-- a channel is read, and the first channels are
reads_same : (config : Config) (into : Dir) (i : ℕ) (r : Reading) (layer other : Layer) → IsSameLayer layer other → IsSameOutcome (reads config into i r layer) (reads config into i r other)
reads_same config into i Nothing layer other same = record { layer = same; lines = refl }
reads_same config into i (Read held) layer other same = takes_same config into i 0 (came_of held) layer other same
reads_same config into i (Bad frame) layer other same = record { layer = same; lines = refl }

pub all_read_same : (config : Config) (into : Dir) (readings : ℕ → Reading) (n : ℕ) (layer other : Layer) → IsSameLayer layer other → IsSameOutcome (reads_below config into readings n layer) (reads_below config into readings n other)
all_read_same config into readings zero layer other same = record { layer = same; lines = refl }
all_read_same config into readings (suc n) layer other same =
    let first : IsSameOutcome (reads_below config into readings n layer) (reads_below config into readings n other) = all_read_same config into readings n layer other same in
    let last = reads_same config into n (readings n) (reads_below config into readings n layer).layer (reads_below config into readings n other).layer first.layer in
    record { layer = last.layer; lines = ap₂ (λ (ls ms : List Line). ls ++ ms) first.lines last.lines }
