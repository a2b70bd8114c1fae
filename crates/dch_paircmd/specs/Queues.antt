-- The PDUs in flight to an end, as a queue keeps them.
use Rattle.std.specs.Prelude.{◌≡◌, ◌≤◌, ℕ, List, All, length, map, take}
use Rattle.circular_buffer.specs.Buffer.{Buffer}
use Rattle.dch_paircmd.specs.declared.queue.QueuedPdu.{QueuedPdu}

-- the octets of a PDU
abbrev pub octets_of : QueuedPdu → List ℕ
octets_of pdu = take pdu.size pdu.octets

abbrev pub queued : List QueuedPdu → List (List ℕ)
queued pdus = map octets_of pdus

-- there is room for 1,024 PDUs, and each has at most 126 octets
pub record IsQueue (b : Buffer QueuedPdu) : Type 0 where
  pub capacity : b.capacity ≡ 1024
  pub few : length b.items ≤ 1024
  pub sizes : All (λ pdu. pdu.size ≤ 126) b.items
