-- No line of what layer 2 does with blocks tells of an Iub frame that is refused.
use Rattle.std.proofs.Common.{◌≡◌, ◌+◌, ◌++◌, ℕ, zero, suc, List, [], ◌∷◌, Bool, true, false, Result, Ok, Err, length, drop, refl, ap, sym, ◌∙◌, subst}
use Rattle.std.specs.Prelude.{◌||◌, nat_lt}
use Rattle.std.proofs.lemmas.Bool.{cond_both, false≢true}
use Rattle.dch_bits.specs.declared.bit.Bit.{Bit}
use Rattle.dch_types.specs.declared.channel.Dir.{Dir}
use Rattle.dch_types.specs.declared.channel.Dir.TheVariants.{Up}
use Rattle.dch_types.specs.declared.config.Config.{Config}
use Rattle.dch_accept.specs.Plans.{Planned}
use Rattle.dch_rlcpdu.specs.declared.am.AmView.{AmView}
use Rattle.dch_rlcpdu.specs.declared.am.AmView.TheVariants.{Payload as Data, Status, Reset, ResetAck}
use Rattle.dch_rlcpdu.specs.declared.um.UmView.{UmView}
use Rattle.dch_rlcpdu.specs.declared.handed.PduError.{PduError}
use Rattle.dch_rlcpdu.specs.Am.{am_reading}
use Rattle.dch_rlcpdu.specs.Um.{um_reading}
use Rattle.dch_mac.specs.declared.answer.Demux.{Demux}
use Rattle.dch_mac.specs.declared.answer.Demux.TheVariants.{To, Reserved as ReservedField, NoBearer as Unknown, Nobody as NoOne}
use Rattle.dch_mac.specs.Receivers.{receiver}
use Rattle.dch_am.specs.Receiver.{Receiver, taken}
use Rattle.dch_am.specs.Moves.{control_answer}
use Rattle.dch_am.specs.Acknowledging.{status_answer}
use Rattle.dch_am.specs.Rules.{Rules}
use Rattle.dch_am.specs.Sender.{Sender}
use Rattle.dch_rlcum.specs.Receiving.{Receiving, after_pdu as after_um}
use Rattle.dch_layer2.specs.Hearing.{receiver_of, hears, hears_am, hears_um, new_units, rides_outside}
use Rattle.dch_amlaw.specs.Pair.{is_beyond, is_outside_answer}
use Rattle.dch_pair.specs.Answers.{is_unknown}
use Rattle.dch_layer2.specs.Bearings.{Acknowledged, Bearing, Sends, Transparent, Unacknowledged, rules_in}
use Rattle.dch_layer2.specs.Layers.{Came, Layer, goes, takes, takes_one}
use Rattle.dch_layer2.specs.UnitLines.{line_if, unit_lines}
use Rattle.dch_layer2.specs.Octets.{octets_of}
use Rattle.dch_layer2.specs.Coming.{came_of}
use Rattle.dch_layer2.specs.Reading.{Bad as BadFrame, Nothing, Read, Reading, reads, reads_below}
use Rattle.dch_node.specs.Values.{Output}
use Rattle.dch_rnc.specs.State.{State, set_readings}
use Rattle.dch_rnc.specs.Steps.{IsReadFrame}
use Rattle.dch_node.specs.Lines.{Line, Took, Full, Wrong, Bad, Reserved, NoBearer, Nobody, PduBad, Outside, Overlong, Got, GotBits, Iub, IubBad, Phy, PhyNone, BadTti, Differs}

-- a line does not tell of an Iub frame that is refused
abbrev pub is_other : Line → Bool
is_other (Took dir b) = true
is_other (Full dir b) = true
is_other (Wrong dir b) = true
is_other (Bad dir i k) = true
is_other (Reserved dir i) = true
is_other (NoBearer dir i ct) = true
is_other (Nobody dir i) = true
is_other (PduBad dir b n) = true
is_other (Outside dir b) = true
is_other (Overlong dir b) = true
is_other (Got dir b octets) = true
is_other (GotBits dir b bits) = true
is_other (Iub dir set octets) = true
is_other (IubBad dir set n) = false
is_other (Phy dir tfci cells) = true
is_other PhyNone = true
is_other (BadTti dir i n) = true
is_other (Differs dir i) = true

abbrev pub AreOthers : List Line → Type 0
AreOthers [] = Unit {0}
AreOthers (x ∷ xs) = (is_other x ≡ true) × AreOthers xs

others_append : (xs ys : List Line) → AreOthers xs → AreOthers ys → AreOthers (xs ++ ys)
others_append [] ys h k = k
others_append (x ∷ xs) ys h k = (h.0, others_append xs ys h.1 k)

units_other : (dir : Dir) (b : ℕ) (us : List (List ℕ)) → AreOthers (unit_lines dir b us)
units_other dir b [] = tt
units_other dir b (u ∷ us) = (cond_both (nat_lt 1500 (length u)) _ _ (λ l. is_other l ≡ true) (λ _. refl) (λ _. refl), units_other dir b us)

outside_other : (dir : Dir) (b : ℕ) (o : Bool) → AreOthers (line_if o (Outside dir b))
outside_other dir b true = (refl, tt)
outside_other dir b false = tt

before : (dir : Dir) (b : ℕ) (o : Bool) (us : List (List ℕ)) → AreOthers (line_if o (Outside dir b) ++ unit_lines dir b us)
before dir b o us = others_append (line_if o (Outside dir b)) (unit_lines dir b us) (outside_other dir b o) (units_other dir b us)

around : (dir : Dir) (b : ℕ) (o q : Bool) (us : List (List ℕ)) → AreOthers (line_if o (Outside dir b) ++ unit_lines dir b us ++ line_if q (Outside dir b))
around dir b o q us = others_append (line_if o (Outside dir b) ++ unit_lines dir b us) (line_if q (Outside dir b)) (before dir b o us) (outside_other dir b q)

am_other : (rules : Rules) (dir : Dir) (b : ℕ) (view : Result AmView PduError) (s : Sender) (r : Receiver) → AreOthers (hears_am rules dir b view s r).lines
am_other rules dir b (Ok (Data sn poll x p)) s r = around dir b (is_outside_answer (taken rules r sn)) (rides_outside rules p s) (new_units r (receiver_of rules (Ok (Data sn poll x p)) r))
am_other rules dir b (Ok (Status fields)) s r = before dir b (is_unknown (status_answer rules s fields) || is_beyond (control_answer rules r fields)) (new_units r (receiver_of rules (Ok (Status fields)) r))
am_other rules dir b (Ok (Reset rsn hfni)) s r = tt
am_other rules dir b (Ok (ResetAck rsn hfni)) s r = tt
am_other rules dir b (Err x) s r = (refl, tt)

um_other : (dir : Dir) (b : ℕ) (view : Result UmView PduError) (s : Sends) (r : Receiving) → AreOthers (hears_um dir b view s r).lines
um_other dir b (Ok view) s r = units_other dir b (after_um view r).waiting
um_other dir b (Err x) s r = (refl, tt)

hears_other : (config : Config) (dir : Dir) (b : ℕ) (bits : List Bit) (bearing : Bearing) → AreOthers (hears config dir b bits bearing).lines
hears_other config dir b bits (Transparent w us) = (refl, tt)
hears_other config dir b bits (Unacknowledged s r) = um_other dir b (um_reading (octets_of bits)) s r
hears_other config dir b bits (Acknowledged s r) = am_other (rules_in config b) dir b (am_reading (octets_of bits)) s r

goes_other : (config : Config) (into : Dir) (i : ℕ) (bits : List Bit) (to : Demux) (layer : Layer) → AreOthers (goes config into i bits to layer).lines
goes_other config into i bits (To b skip) layer = hears_other config into b (drop skip bits) (layer.bearings b)
goes_other config into i bits ReservedField layer = (refl, tt)
goes_other config into i bits (Unknown ct) layer = (refl, tt)
goes_other config into i bits NoOne layer = (refl, tt)

block_other : (config : Config) (into : Dir) (i k : ℕ) (bits : List Bit) (good : Bool) (layer : Layer) → AreOthers (takes_one config into i k bits good layer).lines
block_other config into i k [] true layer = tt
block_other config into i k (bit ∷ bits) true layer = goes_other config into i (bit ∷ bits) (receiver config into i (bit ∷ bits)) layer
block_other config into i k bits false layer = (refl, tt)

takes_other : (config : Config) (into : Dir) (i k : ℕ) (came : List Came) (layer : Layer) → AreOthers (takes config into i k came layer).lines
takes_other config into i k [] layer = tt
takes_other config into i k (c ∷ came) layer = others_append (takes_one config into i k c.bits c.good layer).lines _ (block_other config into i k c.bits c.good layer) (takes_other config into i (k + 1) came (takes_one config into i k c.bits c.good layer).layer)

reads_other : (config : Config) (into : Dir) (i : ℕ) (reading : Reading) (layer : Layer) → AreOthers (reads config into i reading layer).lines
reads_other config into i Nothing layer = tt
reads_other config into i (Read held) layer = takes_other config into i 0 (came_of held) layer
reads_other config into i (BadFrame frame) layer = (refl, tt)

pub below_other : (config : Config) (into : Dir) (readings : ℕ → Reading) (count : ℕ) (layer : Layer) → AreOthers (reads_below config into readings count layer).lines
below_other config into readings zero layer = tt
below_other config into readings (suc i) layer =
    others_append (reads_below config into readings i layer).lines (reads config into i (readings i) (reads_below config into readings i layer).layer).lines (below_other config into readings i layer)
    (reads_other config into i (readings i) (reads_below config into readings i layer).layer)

-- so an Iub frame that is read is not answered as refused
pub not_refused : (planned : Planned) (old new : State) (set other number : ℕ) (octets : List ℕ) (dir : Dir) (output : Output) → IsReadFrame planned old set octets new output → output.lines ≡ IubBad dir other number ∷ [] → ⊥
not_refused planned old new set other number octets dir output read bad =
    let readings : ℕ → Reading = set_readings planned.config.uplink.side set read.held in
    let count : ℕ = length planned.config.uplink.side.channels in
    let are : AreOthers (reads_below planned.config Up readings count old.layer).lines = below_other planned.config Up readings count old.layer in
    let there : AreOthers (IubBad dir other number ∷ []) = subst AreOthers (sym (ap (λ (o : Output). o.lines) read.reported) ∙ bad) are in
    false≢true there.0
