-- What a running entity of the acknowledged mode keeps (TS 25.322 4.2.1.3, 9.4), and when it stands for an entity over
-- lists and numbers without wrap.
use Rattle.std.specs.Prelude.{◌≡◌, ◌+◌, ◌||◌, ℕ, List, Bool}
use Rattle.dch_am.specs.Entities.{Entity, one_if}
use Rattle.dch_am.specs.Rules.{Rules, rules_of}
use Rattle.dch_amrecv.specs.Holding.{Holding, is_due as is_told, is_settled as is_drained}
use Rattle.dch_amrecv.specs.Standing.{Stands as StandsFor}
use Rattle.dch_amsend.specs.Outgoing.{available_of}
use Rattle.dch_amsend.specs.Standing.{Sending, Stands, is_control_due, is_due as can_send, pdu_octets}

-- its two sides
pub record Running : Type 0 where
  pub sender : Sending
  pub receiver : Holding

-- the octets of the PDUs that it writes, and of those that come
abbrev pub size_of : Running → ℕ
size_of v = pdu_octets v.sender

abbrev pub size_in : Running → ℕ
size_in v = v.receiver.pdu

-- the units that ended and wait, and of each no more than 1,501 octets
abbrev pub waiting_in : Running → List (List ℕ)
waiting_in v = v.receiver.kept.units.waiting

-- none waits
abbrev pub is_settled : Running → Bool
is_settled v = is_drained v.receiver

-- how many PDUs it offers to send: a due status, a due MRW, and the data PDUs that could follow one another
abbrev pub available_in : Running → ℕ
available_in v = one_if (is_told v.receiver) + one_if (is_control_due v.sender) + available_of v.sender.outgoing

-- there is one
abbrev pub is_due : Running → Bool
is_due v = is_told v.receiver || is_control_due v.sender || can_send v.sender

-- it stands for this entity
pub record Represents (rules : Rules) (v : Running) (e : Entity) : Type 0 where
  pub rules_are : rules ≡ rules_of rules.buffer v.receiver.rules
  pub sender : Stands rules v.sender e.sender
  pub receiver : StandsFor v.receiver e.handed e.receiver

-- the sizes of PDUs stay
pub record AreSizes (a b : Running) : Type 0 where
  pub out : size_of b ≡ size_of a
  pub in_ : size_in b ≡ size_in a

-- and so do the units that wait
pub record IsSame (a b : Running) : Type 0 where
  pub sizes : AreSizes a b
  pub waiting : waiting_in b ≡ waiting_in a
