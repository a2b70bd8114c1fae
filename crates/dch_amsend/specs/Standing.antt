-- What a running sender of the acknowledged mode keeps (TS 25.322 9.4), and when it stands for a sender over numbers
-- without wrap.
use Rattle.std.specs.Prelude.{◌≡◌, ◌-◌, ℕ, Bool}
use Rattle.dch_types.specs.declared.bearer.AmRules.{AmRules}
use Rattle.dch_am.specs.Rules.{Rules, rules_of}
use Rattle.dch_am.specs.Sender.{Sender}
use Rattle.dch_amsend.specs.SduDiscard.{SduDiscard}
use Rattle.dch_amsend.specs.DiscardStanding.{DiscardStands}
use Rattle.dch_retx.specs.RetxBuffer.{is_due as mrw_due}
use Rattle.dch_amsend.specs.Outgoing.{IsOutgoing, Outgoing, can_build}

-- what was sent and waits, the units that are held, and the rules
pub record Sending : Type 0 where
  pub outgoing : Outgoing
  pub sdu_discard : SduDiscard
  pub rules : AmRules

-- how many octets a PDU has
abbrev pub pdu_octets : Sending → ℕ
pdu_octets v = v.outgoing.size

-- a PDU can be built
abbrev pub is_due : Sending → Bool
is_due v = can_build v.outgoing

-- an MRW can be written
abbrev pub is_control_due : Sending → Bool
is_control_due v = mrw_due v.outgoing.line.running

-- how many octets a PDU has behind its header
abbrev pub room_in : Sending → ℕ
room_in v = v.outgoing.size - 2

-- it stands for this sender
pub record Stands (rules : Rules) (v : Sending) (s : Sender) : Type 0 where
  pub rules_are : rules ≡ rules_of rules.buffer v.rules
  pub outgoing : IsOutgoing rules (v.outgoing.size - 2) v.outgoing s
  pub sdu_discard : DiscardStands rules v.sdu_discard s

-- the octets of a PDU stay
pub record IsSame (a b : Sending) : Type 0 where
  pub size : b.outgoing.size ≡ a.outgoing.size
  pub rules : b.rules ≡ a.rules
