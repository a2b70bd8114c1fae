-- What RLC keeps of a bearer at one end (TS 25.322): units that wait, the two sides of the unacknowledged mode, or
-- those of the acknowledged mode. And what it offers to send.
use Rattle.std.specs.Prelude.{◌+◌, ◌-◌, ◌/◌, ◌++◌, ℕ, List, [], ◌∷◌, Bool, true, false, Option, Some, None, if◌then◌else◌}
use Rattle.dch_bits.specs.declared.bit.Bit.{Bit}
use Rattle.dch_bits.specs.declared.offer.Offer.{Offer}
use Rattle.dch_bits.specs.declared.offer.Offer.TheVariants.{Accepted, Full, WrongSize}
use Rattle.dch_types.specs.declared.channel.Dir.{Dir}
use Rattle.dch_types.specs.declared.channel.Dir.TheVariants.{Up, Down}
use Rattle.dch_types.specs.declared.channel.Format.{Format}
use Rattle.dch_types.specs.declared.bearer.Mode.{Mode}
use Rattle.dch_types.specs.declared.bearer.Mode.TheVariants.{Tm, Um, Am}
use Rattle.dch_types.specs.declared.bearer.Bearer.{Bearer}
use Rattle.dch_types.specs.declared.config.Config.{Config}
use Rattle.dch_types.specs.Limits.{is_idle}
use Rattle.dch_types.specs.Parts.{channel_at, side_of, channel_number}
use Rattle.dch_tree.specs.Bearers.{bearer_at}
use Rattle.dch_config.specs.Bearers.{has_ct}
use Rattle.dch_mac.specs.Field.{field_bits}
use Rattle.dch_mac.specs.declared.head.Head.{Head}
use Rattle.dch_rlctm.specs.Waiting.{Waiting, front_of, answer_of as unit_answer, after_offer as after_unit}
use Rattle.dch_rlcum.specs.Sending.{Sending, no_units, builds, answer_of, after_offer as after_waiting}
use Rattle.dch_rlcum.specs.History.{accepted}
use Rattle.dch_rlcum.specs.Receiving.{Receiving, opened}
use Rattle.dch_am.specs.Building.{available}
use Rattle.dch_am.specs.Discards.{mrw_due, tick_sender}
use Rattle.dch_am.specs.Entities.{one_if}
use Rattle.dch_am.specs.Receiver.{Receiver, opened_receiver}
use Rattle.dch_am.specs.Rules.{Rules, rules_of}
use Rattle.dch_am.specs.Sender.{Sender, opened_sender, offered, after_offer}
use Rattle.dch_am.specs.Telling.{is_due, tick_receiver}
use Rattle.dch_indication.specs.Lines.{Line, Took, Full as NoRoom, Wrong}

-- the sending side of the unacknowledged mode. No call sees the units that were accepted, nor how many they were at
-- each build
pub record Sends : Type 0 where
  pub sending : Sending
  pub accepted : List (List ℕ)
  pub cuts : List ℕ

-- what RLC keeps of a bearer at one end, in its mode. Of the transparent mode too, the SDUs that were accepted are
-- history
pub data Bearing : Type 0 where
  Transparent : (waiting : Waiting) → (accepted : List (List Bit)) → Bearing
  Unacknowledged : (sends : Sends) → (receiving : Receiving) → Bearing
  Acknowledged : (sender : Sender) → (receiver : Receiver) → Bearing

-- bearer b of a configuration, its channel, and its rules
abbrev pub bearer_in : Config → ℕ → Bearer
bearer_in config b = bearer_at config.bearers b

abbrev pub channel_of : Config → Dir → ℕ → Option ℕ
channel_of config dir b = channel_number dir (bearer_in config b)

abbrev pub rules_in : Config → ℕ → Rules
rules_in config b = rules_of (bearer_in config b).buffer (bearer_in config b).rules

-- the C/T field that its blocks begin with on a channel
abbrev pub field_on : Config → Dir → ℕ → Option ℕ → Option ℕ
field_on config dir b None = None
field_on config dir b (Some i) = if has_ct config dir i then Some (bearer_in config b).logical else None

abbrev pub ct_of : Config → Dir → ℕ → Option ℕ
ct_of config dir b = field_on config dir b (channel_of config dir b)

-- the size of the blocks of a channel that has blocks of one size
abbrev pub size_in : List Format → ℕ
size_in [] = 0
size_in (format ∷ formats) = if is_idle format then size_in formats else format.size

abbrev pub size_on : Config → Dir → Option ℕ → ℕ
size_on config dir None = 0
size_on config dir (Some i) = size_in (channel_at (side_of config dir) i).formats

-- the bits of a block of a bearer, and the octets of the PDU in it
abbrev pub block_bits : Config → Dir → ℕ → ℕ
block_bits config dir b = size_on config dir (channel_of config dir b)

abbrev pub pdu_octets : Config → Dir → ℕ → ℕ
pdu_octets config dir b = (block_bits config dir b - field_bits (ct_of config dir b)) / 8

-- all sizes of the blocks of a channel
abbrev pub sizes_in : List Format → List ℕ
sizes_in [] = []
sizes_in (format ∷ formats) = if is_idle format then sizes_in formats else (format.size ∷ sizes_in formats)

abbrev pub sizes_on : Config → Dir → Option ℕ → List ℕ
sizes_on config dir None = []
sizes_on config dir (Some i) = sizes_in (channel_at (side_of config dir) i).formats

-- uplink senders mark where a unit starts
abbrev pub marks_start : Dir → Bool
marks_start Up = true
marks_start Down = false

-- at opening, where the end sends in a direction
abbrev pub opened_mode : Config → Dir → ℕ → Mode → Bearing
opened_mode config dir b Tm = Transparent (record { units = []; buffer = (bearer_in config b).buffer; most = 5000 }) []
opened_mode config dir b Um = Unacknowledged (record {
  sending = record {
    units = no_units;
    row = [];
    number = 0;
    pdu = pdu_octets config dir b;
    buffer = (bearer_in config b).buffer;
    mark_start = marks_start dir;
  };
  accepted = [];
  cuts = [];
}) opened
opened_mode config dir b Am = Acknowledged opened_sender (opened_receiver (rules_in config b))

-- what RLC keeps of a bearer at opening, where the end sends in a direction
abbrev pub opened_bearing : Config → Dir → ℕ → Bearing
opened_bearing config dir b = opened_mode config dir b (bearer_in config b).mode

-- what an offer is answered: a transparent unit has bits, another one octets
abbrev pub answers : Config → Dir → ℕ → List ℕ → List Bit → Bearing → Offer
answers config dir b octets bits (Transparent w us) = unit_answer (sizes_on config dir (channel_of config dir b)) bits w
answers config dir b octets bits (Unacknowledged s r) = answer_of octets s.sending
answers config dir b octets bits (Acknowledged s r) = offered (rules_in config b) s octets

abbrev pub line_of_answer : Dir → ℕ → Offer → Line
line_of_answer dir b Accepted = Took dir b
line_of_answer dir b Full = NoRoom dir b
line_of_answer dir b WrongSize = Wrong dir b

-- the transparent units that are accepted after an offer
abbrev pub with_unit : Offer → List Bit → List (List Bit) → List (List Bit)
with_unit Accepted unit units = units ++ unit ∷ []
with_unit Full unit units = units
with_unit WrongSize unit units = units

-- a bearer after an offer: one SDU more where it is accepted
abbrev pub after_answer : Offer → List ℕ → List Bit → Bearing → Bearing
after_answer o octets bits (Transparent w us) = Transparent (after_unit o bits w) (with_unit o bits us)
after_answer o octets bits (Unacknowledged s r) = Unacknowledged (record {
  sending = after_waiting o octets s.sending;
  accepted = accepted o octets s.accepted;
  cuts = s.cuts;
}) r
after_answer o octets bits (Acknowledged s r) = Acknowledged (after_offer o s octets) r

-- a bearer after one tick of its timers
abbrev pub ticked : Config → ℕ → Bearing → Bearing
ticked config b (Transparent w us) = Transparent w us
ticked config b (Unacknowledged s r) = Unacknowledged s r
ticked config b (Acknowledged s r) = Acknowledged (tick_sender (rules_in config b) s)
    (tick_receiver (rules_in config b) r)

-- what it offers to send: the size of its blocks, and how many there are. A due status and a due MRW are a block more
-- each
abbrev pub head_of : Config → Dir → ℕ → Bearing → Head
head_of config dir b (Transparent w us) = record { size = (front_of w.units).0; count = (front_of w.units).1 }
head_of config dir b (Unacknowledged s r) = record {
  size = block_bits config dir b;
  count = builds 64 s.sending.pdu s.sending.mark_start s.sending.units;
}
head_of config dir b (Acknowledged s r) = record {
  size = block_bits config dir b;
  count = one_if (is_due r) + one_if (mrw_due s.discard) + available (rules_in config b)
      (pdu_octets config dir b - 2) s;
}
