-- When an unacknowledged bearer of two ends is a sender and a receiver of which the one's PDUs came to the other (TS
-- 25.322 11.2).
use Rattle.std.specs.Prelude.{◌≡◌, ◌≤◌, ◌+◌, ◌-◌, ◌++◌, Some, ℕ, List, [], ◌∷◌, Bool, true, if◌then◌else◌, Result, Ok, Err, drop, filter, length, map, take}
use Rattle.dch_bits.specs.declared.bit.Bit.{Bit}
use Rattle.dch_types.specs.declared.channel.Dir.{Dir}
use Rattle.dch_types.specs.declared.config.Config.{Config}
use Rattle.dch_mac.specs.Field.{field_bits}
use Rattle.dch_rlcpdu.specs.declared.handed.PduError.{PduError}
use Rattle.dch_rlcpdu.specs.declared.um.UmView.{UmView}
use Rattle.dch_rlcpdu.specs.Um.{um_reading}
use Rattle.dch_rlcum.specs.Receiving.{Receiving, after_pdu, opened as opened_receiving}
use Rattle.dch_sar.specs.Pdus.{Pdu, pdus}
use Rattle.dch_rlcum.specs.Handing.{AreFewLost, AreUnits, Sent, all_handed, known_units, sent_from}
use Rattle.dch_rlcum.specs.History.{IsSenderOf, sizes, texts}
use Rattle.dch_node.specs.Lines.{Got, Line, PduBad}
use Rattle.dch_layer2.specs.UnitLines.{unit_lines}
use Rattle.dch_types.specs.declared.bearer.Mode.TheVariants.{Um}
use Rattle.dch_layer2.specs.Bearings.{Sends, Unacknowledged, bearer_in, channel_of, ct_of, pdu_octets}
use Rattle.dch_rlcpdu.specs.Errors.{error_number}
use Rattle.dch_layer2.specs.Layers.{Layer}
use Rattle.dch_layer2.specs.Octets.{octets_of}
use Rattle.dch_runlaw.specs.Ended.{marked_units}
use Rattle.dch_runlaw.specs.Lines.{lines_of}
use Rattle.dch_runlaw.specs.History.{AreApart, is_mine}
use Rattle.dch_runlaw.specs.Worlds.{Log, Side, World}

-- PDUs of the unacknowledged mode are taken one after another: the receiver, and the lines
abbrev pub receives_one : Result UmView PduError → Receiving → Receiving
receives_one (Ok view) r = all_handed (after_pdu view r)
receives_one (Err e) r = r

abbrev pub lines_one : Dir → ℕ → Result UmView PduError → Receiving → List Line
lines_one dir b (Ok view) r = unit_lines dir b (after_pdu view r).waiting
lines_one dir b (Err e) r = PduBad dir b (error_number e) ∷ []

abbrev pub receives : List (List ℕ) → Receiving → Receiving
receives [] r = r
receives (p ∷ ps) r = receives ps (receives_one (um_reading p) r)

abbrev pub lines_all : Dir → ℕ → List (List ℕ) → Receiving → List Line
lines_all dir b [] r = []
lines_all dir b (p ∷ ps) r = lines_one dir b (um_reading p) r ++ lines_all dir b ps (receives_one (um_reading p) r)

-- the PDU in a block of bearer b, and those in its blocks of a channel
abbrev pub pdu_in : Config → Dir → ℕ → List Bit → List ℕ
pdu_in config dir b block = octets_of (drop (field_bits (ct_of config dir b)) block)

abbrev pub pdus_in : Config → Dir → ℕ → ℕ → List (List Bit) → List (List ℕ)
pdus_in config dir b i blocks = map (pdu_in config dir b) (filter (is_mine config dir b i) blocks)

-- an unacknowledged bearer that sends on a channel, and gave these PDUs before, in another configuration
pub record IsUmSender (config : Config) (dir : Dir) (b i : ℕ) (before : List (List ℕ)) (side : Side)
    (log : Log) : Type 0 where
  pub sends : Sends
  pub receiving : Receiving
  pub bearing : side.layer.bearings b ≡ Unacknowledged sends receiving
  pub sender : IsSenderOf sends.accepted sends.cuts sends.sending
  pub units : AreUnits sends.accepted
  pub given : before ++ pdus_in config dir b i log.given
      ≡ texts sends.sending.pdu sends.sending.mark_start sends.accepted sends.cuts

-- and one that receives on it, and took these PDUs before: what it is and what was reported is what all PDUs that were
-- taken do
pub record IsUmReceiver (config : Config) (dir : Dir) (b i : ℕ) (before : List (List ℕ)) (side : Side)
    (log : Log) : Type 0 where
  pub sends : Sends
  pub bearing : side.layer.bearings b ≡ Unacknowledged sends (receives (before
      ++ pdus_in config dir b i log.taken) opened_receiving)
  pub lines : lines_of b side.said ≡ lines_all dir b (before ++ pdus_in config dir b i log.taken) opened_receiving

-- the one at the near end, the other at the far end
pub record IsUmHistory (config : Config) (out : Dir) (b i : ℕ) (given taken : List (List ℕ)) (w : World) : Type 0 where
  pub near : IsUmSender config out b i given w.near (w.out i)
  pub far : IsUmReceiver config out b i taken w.far (w.out i)

-- an unacknowledged bearer that sends on this channel from the near end
pub record IsUmBearer (config : Config) (out : Dir) (b i : ℕ) : Type 0 where
  pub mode : (bearer_in config b).mode ≡ Um
  pub least : 1 ≤ (bearer_in config b).priority
  pub most : (bearer_in config b).priority ≤ 8
  pub channel : channel_of config out b ≡ Some i
  pub apart : AreApart config out i
  pub least_size : 3 ≤ pdu_octets config out b
  pub most_size : pdu_octets config out b ≤ 125

-- any world
abbrev pub Any : World → Type 0
Any w = Unit {0}

-- of these PDUs, from PDU k on, those that arrive
abbrev pub arriving : (ℕ → Bool) → ℕ → List (List ℕ) → List (List ℕ)
arriving arrives k [] = []
arriving arrives k (p ∷ ps) = if arrives k then (p ∷ arriving arrives (k + 1) ps) else arriving arrives (k + 1) ps

-- the PDUs of a sender, and which arrive
abbrev pub sent_by : Sends → (ℕ → Bool) → List Sent
sent_by s arrives = sent_from arrives 0 true (pdus (s.sending.pdu - 1) s.sending.mark_start (sizes s.accepted) s.cuts)

-- the lines on units that are handed up
abbrev pub got_lines : Dir → ℕ → List (List ℕ) → List Line
got_lines dir b [] = []
got_lines dir b (unit ∷ units) = Got dir b unit ∷ got_lines dir b units

-- all its PDUs
abbrev pub pdus_of : Sends → List Pdu
pdus_of s = pdus (s.sending.pdu - 1) s.sending.mark_start (sizes s.accepted) s.cuts

-- where all blocks came but these, which are on their way, all lines on the bearer are, in order, the accepted units
-- whose length indicator lies in the PDUs that came
pub record IsUmCarried (config : Config) (dir : Dir) (b i : ℕ) (from : Layer) (said : List Line)
    (running : List (List Bit)) : Type 0 where
  pub sends : Sends
  pub receiving : Receiving
  pub bearing : from.bearings b ≡ Unacknowledged sends receiving
  pub came : ℕ
  pub count : came + length (filter (is_mine config dir b i) running) ≡ length sends.cuts
  pub lines : lines_of b said ≡ got_lines dir b (marked_units (take came (pdus_of sends)) 0 sends.accepted)

-- of all PDUs of an unacknowledged sender, those that arrive have these texts
abbrev pub ArriveAs : Sends → (ℕ → Bool) → List (List ℕ) → Type 0
ArriveAs s arrives came = arriving arrives 0 (texts s.sending.pdu s.sending.mark_start s.accepted s.cuts) ≡ came

-- of an unacknowledged bearer, in one configuration or in two: the PDUs that came are a subsequence of all the
-- sender's; whichever these are, where fewer than 128 successive ones are lost, all lines on the bearer are the SDUs
-- that are known
pub record IsKnownHistory (config : Config) (out : Dir) (b i : ℕ) (given taken : List (List ℕ))
    (w : World) : Type 0 where
  pub near : IsUmSender config out b i given w.near (w.out i)
  pub came : List (List ℕ)
  pub all : came ≡ taken ++ pdus_in config out b i (w.out i).taken
  pub some : (arrives : ℕ → Bool) × ArriveAs near.sends arrives came
  pub lines : (arrives : ℕ → Bool) → ArriveAs near.sends arrives came → AreFewLost 0 (sent_by near.sends arrives)
      → lines_of b w.far.said ≡ unit_lines out b (known_units (sent_by near.sends arrives) 0 near.sends.accepted)
