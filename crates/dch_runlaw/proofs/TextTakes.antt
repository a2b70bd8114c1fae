-- What holds of each line that can be reported on blocks that come holds of all lines on them.
use Rattle.std.proofs.Common.{◌≡◌, ◌+◌, ◌<◌, ℕ, List, [], ◌∷◌, ◌++◌, Bool, true, false, Result, Ok, Err, length, drop, refl}
use Rattle.std.specs.Prelude.{◌||◌, nat_lt}
use Rattle.std.proofs.lemmas.Bool.{cond_both}
use Rattle.dch_bits.specs.declared.bit.Bit.{Bit}
use Rattle.dch_types.specs.declared.channel.Dir.{Dir}
use Rattle.dch_types.specs.declared.config.Config.{Config}
use Rattle.dch_rlcpdu.specs.declared.am.AmView.{AmView}
use Rattle.dch_rlcpdu.specs.declared.am.AmView.TheVariants.{Payload as Data, Status, Reset, ResetAck}
use Rattle.dch_rlcpdu.specs.declared.um.UmView.{UmView}
use Rattle.dch_rlcpdu.specs.declared.handed.PduError.{PduError}
use Rattle.dch_rlcpdu.specs.Am.{am_reading}
use Rattle.dch_rlcpdu.specs.Um.{um_reading}
use Rattle.dch_mac.specs.declared.answer.Demux.{Demux}
use Rattle.dch_mac.specs.declared.answer.Demux.TheVariants.{To, Reserved as ReservedField, NoBearer as Unknown, Nobody as NoOne}
use Rattle.dch_mac.specs.Receivers.{receiver}
use Rattle.dch_am.specs.Receiver.{Receiver, taken}
use Rattle.dch_am.specs.Moves.{control_answer}
use Rattle.dch_am.specs.Acknowledging.{status_answer}
use Rattle.dch_am.specs.Rules.{Rules}
use Rattle.dch_am.specs.Sender.{Sender}
use Rattle.dch_rlcum.specs.Receiving.{Receiving, after_pdu as after_um}
use Rattle.dch_amlaw.specs.Pair.{is_beyond, is_outside_answer}
use Rattle.dch_pair.specs.Answers.{is_unknown}
use Rattle.dch_node.specs.Lines.{Line, Bad, Reserved, NoBearer, Nobody, PduBad, Outside, Overlong, Got, GotBits}
use Rattle.dch_layer2.specs.Bearings.{Acknowledged, Bearing, Sends, Transparent, Unacknowledged, rules_in}
use Rattle.dch_layer2.specs.Hearing.{hears, hears_um, lines_by, new_units, receiver_of, rides_outside}
use Rattle.dch_rlcpdu.specs.Errors.{error_number}
use Rattle.dch_layer2.specs.Layers.{Came, Layer, goes, takes, takes_good, takes_one}
use Rattle.dch_layer2.specs.Octets.{octets_of}
use Rattle.dch_layer2.specs.UnitLines.{line_if, unit_lines}
use Rattle.dch_layer2.proofs.PduSizes.{reached}

abbrev pub Every : (Line → Type 0) → List Line → Type 0
Every P [] = Unit {0}
Every P (x ∷ xs) = P x × Every P xs

pub every_append : (P : Line → Type 0) (xs ys : List Line) → Every P xs → Every P ys → Every P (xs ++ ys)
every_append P [] ys h k = k
every_append P (x ∷ xs) ys h k = (h.0, every_append P xs ys h.1 k)

-- the lines on PDUs and units of a bearer
pub record CoversBearer (P : Line → Type 0) (into : Dir) (b : ℕ) : Type 0 where
  pub pdu_bad : (n : ℕ) → P (PduBad into b n)
  pub outside : P (Outside into b)
  pub overlong : P (Overlong into b)
  pub got : (octets : List ℕ) → P (Got into b octets)
  pub got_bits : (bits : List Bit) → P (GotBits into b bits)

-- those of the first bearers, and the lines on good blocks for no bearer
pub record Covers (P : Line → Type 0) (into : Dir) (count : ℕ) : Type 0 where
  pub bearer : (b : ℕ) → b < count → CoversBearer P into b
  pub reserved : (i : ℕ) → P (Reserved into i)
  pub no_bearer : (i ct : ℕ) → P (NoBearer into i ct)
  pub nobody : (i : ℕ) → P (Nobody into i)

units_all : (P : Line → Type 0) (dir : Dir) (b : ℕ) → CoversBearer P dir b → (us : List (List ℕ)) → Every P (unit_lines dir b us)
units_all P dir b c [] = tt
units_all P dir b c (u ∷ us) = (cond_both (nat_lt 1500 (length u)) _ _ P (λ _. c.overlong) (λ _. c.got u), units_all P dir b c us)

outside_all : (P : Line → Type 0) (dir : Dir) (b : ℕ) → CoversBearer P dir b → (o : Bool) → Every P (line_if o (Outside dir b))
outside_all P dir b c true = (c.outside, tt)
outside_all P dir b c false = tt

before : (P : Line → Type 0) (dir : Dir) (b : ℕ) → CoversBearer P dir b → (o : Bool) (us : List (List ℕ)) → Every P (line_if o (Outside dir b) ++ unit_lines dir b us)
before P dir b c o us = every_append P (line_if o (Outside dir b)) (unit_lines dir b us) (outside_all P dir b c o) (units_all P dir b c us)

around : (P : Line → Type 0) (dir : Dir) (b : ℕ) → CoversBearer P dir b → (o q : Bool) (us : List (List ℕ)) → Every P (line_if o (Outside dir b) ++ unit_lines dir b us ++ line_if q (Outside dir b))
around P dir b c o q us = every_append P (line_if o (Outside dir b) ++ unit_lines dir b us) (line_if q (Outside dir b)) (before P dir b c o us) (outside_all P dir b c q)

by_all : (P : Line → Type 0) (dir : Dir) (b : ℕ) → CoversBearer P dir b → (rules : Rules) (view : Result AmView PduError) (s : Sender) (r : Receiver) (units : List (List ℕ)) → Every P (lines_by rules dir b view s r units)
by_all P dir b c rules (Ok (Data sn poll x p)) s r units = around P dir b c (is_outside_answer (taken rules r sn)) (rides_outside rules p s) units
by_all P dir b c rules (Ok (Status fields)) s r units = before P dir b c (is_unknown (status_answer rules s fields) || is_beyond (control_answer rules r fields)) units
by_all P dir b c rules (Ok (Reset rsn hfni)) s r units = tt
by_all P dir b c rules (Ok (ResetAck rsn hfni)) s r units = tt
by_all P dir b c rules (Err x) s r units = (c.pdu_bad (error_number x), tt)

um_all : (P : Line → Type 0) (dir : Dir) (b : ℕ) → CoversBearer P dir b → (view : Result UmView PduError) (s : Sends) (r : Receiving) → Every P (hears_um dir b view s r).lines
um_all P dir b c (Ok view) s r = units_all P dir b c (after_um view r).waiting
um_all P dir b c (Err x) s r = (c.pdu_bad (error_number x), tt)

-- all lines of a bearer
pub hears_all : (P : Line → Type 0) (config : Config) (dir : Dir) (b : ℕ) → CoversBearer P dir b → (bits : List Bit) (bearing : Bearing) → Every P (hears config dir b bits bearing).lines
hears_all P config dir b c bits (Transparent w us) = (c.got_bits bits, tt)
hears_all P config dir b c bits (Unacknowledged s r) = um_all P dir b c (um_reading (octets_of bits)) s r
hears_all P config dir b c bits (Acknowledged s r) = by_all P dir b c (rules_in config b) (am_reading (octets_of bits)) s r (new_units r (receiver_of (rules_in config b) (am_reading (octets_of bits)) r))

goes_all : (P : Line → Type 0) (config : Config) (into : Dir) → Covers P into (length config.bearers) → (i : ℕ) (bits : List Bit) (to : Demux) (layer : Layer) → receiver config into i bits ≡ to → Every P (goes config into i bits to layer).lines
goes_all P config into c i bits (To b skip) layer e = hears_all P config into b (c.bearer b (reached config into i bits b skip e).there) (drop skip bits) (layer.bearings b)
goes_all P config into c i bits ReservedField layer e = (c.reserved i, tt)
goes_all P config into c i bits (Unknown ct) layer e = (c.no_bearer i ct, tt)
goes_all P config into c i bits NoOne layer e = (c.nobody i, tt)

-- of a good block
pub good_all : (P : Line → Type 0) (config : Config) (into : Dir) → Covers P into (length config.bearers) → (i : ℕ) (bits : List Bit) (layer : Layer) → Every P (takes_good config into i bits layer).lines
good_all P config into c i [] layer = tt
good_all P config into c i (bit ∷ bits) layer = goes_all P config into c i (bit ∷ bits) (receiver config into i (bit ∷ bits)) layer refl

one_all : (P : Line → Type 0) (config : Config) (into : Dir) → Covers P into (length config.bearers) → ((i k : ℕ) → P (Bad into i k)) → (i k : ℕ) (bits : List Bit) (good : Bool) (layer : Layer) → Every P (takes_one config into i k bits good layer).lines
one_all P config into c bad i k bits true layer = good_all P config into c i bits layer
one_all P config into c bad i k bits false layer = (bad i k, tt)

-- and of any blocks
pub takes_all : (P : Line → Type 0) (config : Config) (into : Dir) → Covers P into (length config.bearers) → ((i k : ℕ) → P (Bad into i k)) → (i k : ℕ) (came : List Came) (layer : Layer) → Every P (takes config into i k came layer).lines
takes_all P config into c bad i k [] layer = tt
takes_all P config into c bad i k (x ∷ came) layer = every_append P (takes_one config into i k x.bits x.good layer).lines _ (one_all P config into c bad i k x.bits x.good layer) (takes_all P config into c bad i (k + 1) came (takes_one config into i k x.bits x.good layer).layer)
