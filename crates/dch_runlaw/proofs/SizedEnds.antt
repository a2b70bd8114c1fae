-- Layer 2 of an end, whatever happens to it.
use Rattle.std.proofs.Common.{◌+◌, ℕ, zero, suc, List, [], ◌∷◌, Bool, true, false, drop, sym, subst}
use Rattle.std.specs.Prelude.{◌==◌}
use Rattle.dch_bits.specs.declared.bit.Bit.{Bit}
use Rattle.dch_types.specs.declared.channel.Dir.{Dir}
use Rattle.dch_types.specs.declared.config.Config.{Config}
use Rattle.dch_types.specs.Parts.{side_of}
use Rattle.dch_config.specs.Good.{IsGood}
use Rattle.dch_mac.specs.declared.answer.Demux.{Demux}
use Rattle.dch_mac.specs.declared.answer.Demux.TheVariants.{To, Reserved, NoBearer, Nobody}
use Rattle.dch_mac.specs.Receivers.{receiver}
use Rattle.dch_layer2.specs.Bearings.{Bearing, after_answer, answers}
use Rattle.dch_layer2.specs.Hearing.{hears}
use Rattle.dch_layer2.specs.Layers.{Came, Layer, blocks, goes, offers, opened_layer, takes, takes_good, takes_one, ticks, with_bearing}
use Rattle.dch_layer2.specs.Coming.{came_of}
use Rattle.dch_layer2.specs.Reading.{Bad, Nothing, Read, Reading, reads, reads_below}
use Rattle.dch_layer2.proofs.Sums.{either, number_same}
use Rattle.dch_runlaw.specs.SizedEnds.{BlockedCombination, CameOn, Event, OfferedUnit, Reaches, Started, Steps, Ticked}
use Rattle.dch_runlaw.specs.Sized.{AreGiven}
use Rattle.dch_runlaw.proofs.SizedBlocks.{Fits, heard_fits, offered_fits, ticked_fits}
use Rattle.dch_runlaw.proofs.SizedStarts.{Stands, opened_stands, start_stands}

-- one bearing becomes another
with_stands : (config : Config) (out : Dir) (b : ℕ) (new : Bearing) (layer : Layer) → Fits config out b new → Stands config out layer → Stands config out (with_bearing layer b new)
with_stands config out b new layer f s = record {
  fit = λ c. either (c == b)
      (λ e. rw e (subst (λ x. Fits config out x new) (sym (number_same c b e)) f))
      (λ e. rw e (s.fit c));
  given = record { sized = s.given.sized; whole = s.given.whole };
}

pub offers_stand : (config : Config) (out : Dir) (b : ℕ) (octets : List ℕ) (bits : List Bit) (layer : Layer) → Stands config out layer → Stands config out (offers config out b octets bits layer).layer
offers_stand config out b octets bits layer s = with_stands config out b (after_answer (answers config out b octets bits (layer.bearings b)) octets bits (layer.bearings b)) layer (offered_fits config out b octets bits (layer.bearings b) (s.fit b)) s

pub blocks_stand : (config : Config) (out : Dir) (c : ℕ) (on : Bool) (layer : Layer) → Stands config out layer → Stands config out (blocks c on layer)
blocks_stand config out c on layer s = record { fit = s.fit; given = record { sized = s.given.sized; whole = s.given.whole } }

pub ticks_stand : (config : Config) (out : Dir) (layer : Layer) → Stands config out layer → Stands config out (ticks config layer)
ticks_stand config out layer s = record { fit = λ b. ticked_fits config out b (layer.bearings b) (s.fit b); given = record { sized = s.given.sized; whole = s.given.whole } }

-- blocks come
goes_stand : (config : Config) (out into : Dir) (i : ℕ) (bits : List Bit) (to : Demux) (layer : Layer) → Stands config out layer → Stands config out (goes config into i bits to layer).layer
goes_stand config out into i bits (To b skip) layer s = with_stands config out b (hears config into b (drop skip bits) (layer.bearings b)).bearing layer (heard_fits config out into b (drop skip bits) (layer.bearings b) (s.fit b)) s
goes_stand config out into i bits Reserved layer s = s
goes_stand config out into i bits (NoBearer ct) layer s = s
goes_stand config out into i bits Nobody layer s = s

good_stands : (config : Config) (out into : Dir) (i : ℕ) (bits : List Bit) (layer : Layer) → Stands config out layer → Stands config out (takes_good config into i bits layer).layer
good_stands config out into i [] layer s = s
good_stands config out into i (bit ∷ bits) layer s = goes_stand config out into i (bit ∷ bits) (receiver config into i (bit ∷ bits)) layer s

one_stands : (config : Config) (out into : Dir) (i k : ℕ) (bits : List Bit) (good : Bool) (layer : Layer) → Stands config out layer → Stands config out (takes_one config into i k bits good layer).layer
one_stands config out into i k bits true layer s = good_stands config out into i bits layer s
one_stands config out into i k bits false layer s = s

pub takes_stand : (config : Config) (out into : Dir) (i k : ℕ) (came : List Came) (layer : Layer) → Stands config out layer → Stands config out (takes config into i k came layer).layer
takes_stand config out into i k [] layer s = s
takes_stand config out into i k (c ∷ came) layer s = takes_stand config out into i (k + 1) came (takes_one config into i k c.bits c.good layer).layer (one_stands config out into i k c.bits c.good layer s)

reads_stand : (config : Config) (out into : Dir) (i : ℕ) (r : Reading) (layer : Layer) → Stands config out layer → Stands config out (reads config into i r layer).layer
reads_stand config out into i Nothing layer s = s
reads_stand config out into i (Read held) layer s = takes_stand config out into i 0 (came_of held) layer s
reads_stand config out into i (Bad frame) layer s = s

pub below_stand : (config : Config) (out into : Dir) (readings : ℕ → Reading) (i : ℕ) (layer : Layer) → Stands config out layer → Stands config out (reads_below config into readings i layer).layer
below_stand config out into readings zero layer s = s
below_stand config out into readings (suc i) layer s = reads_stand config out into i (readings i) (reads_below config into readings i layer).layer (below_stand config out into readings i layer s)

-- any event, and any events
step_stands : (config : Config) (out into : Dir) (old : Layer) (event : Event) (new : Layer) → IsGood config → Steps config out into old event new → Stands config out old → Stands config out new
step_stands config out into old (OfferedUnit b octets bits) new good step s = subst (Stands config out) (sym step) (offers_stand config out b octets bits old s)
step_stands config out into old (BlockedCombination c on) new good step s = subst (Stands config out) (sym step) (blocks_stand config out c on old s)
step_stands config out into old Ticked new good step s = subst (Stands config out) (sym step) (ticks_stand config out old s)
step_stands config out into old (CameOn i k came) new good step s = subst (Stands config out) (sym step) (takes_stand config out into i k came old s)
step_stands config out into old (Started cfn) new good step s = start_stands config out cfn old new good step s

all_stand : (config : Config) (out into : Dir) (old : Layer) (events : List Event) (new : Layer) → IsGood config → Reaches config out into old events new → Stands config out old → Stands config out new
all_stand config out into old [] new good reached s = subst (Stands config out) (sym reached) s
all_stand config out into old (event ∷ events) new good reached s = all_stand config out into reached.next events new good reached.later (step_stands config out into old event reached.next good reached.step s)

-- from opening
pub end_given : (config : Config) (out into : Dir) (events : List Event) (layer : Layer) → IsGood config → Reaches config out into (opened_layer config out) events layer → AreGiven (side_of config out) layer
end_given config out into events layer good reached = (all_stand config out into (opened_layer config out) events layer good reached (opened_stands config out good)).given
