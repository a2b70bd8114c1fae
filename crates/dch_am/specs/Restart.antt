-- What a restart does to a sender (TS 25.322 9.7.7, 11.4): it drops each unit of which an octet was built, and begins
-- anew with the others.
use Rattle.std.specs.Prelude.{◌+◌, ◌-◌, ℕ, List, [], ◌∷◌, length, drop, false, ◌||◌, nat_lt, if◌then◌else◌, None}
use Rattle.dch_am.specs.Bodies.{Body, TxQueue, carried, is_empty}
use Rattle.dch_am.specs.Entities.{Entity}
use Rattle.dch_am.specs.Receiver.{opened_receiver}
use Rattle.dch_am.specs.Rules.{Rules}
use Rattle.dch_am.specs.Sender.{Sender, discarded}

-- the octets that PDUs carry
abbrev pub octets_in : List Body → ℕ
octets_in [] = 0
octets_in (b ∷ bs) = length (carried b) + octets_in bs

-- how many of these units begin below so many octets
abbrev pub begun_below : ℕ → List (List ℕ) → ℕ
begun_below n [] = 0
begun_below n (u ∷ us) = if nat_lt 0 n then 1 + begun_below (n - length u) us else 0

-- how many units have an octet in a PDU that was built
abbrev pub begun : Sender → ℕ
begun s = begun_below (octets_in s.bodies) s.accepted

-- the units of which nothing was built, as what is unsent has them: all, or all but the first where an octet of it is
-- in a PDU. The part is what a reader of all PDUs has of the unit in progress
abbrev pub whole_of : List ℕ → TxQueue → List (List ℕ)
whole_of part q = if q.owed || is_empty part then q.units else drop 1 q.units

-- a sender that holds these units, accepted at these ticks, has built nothing, and has discarded so many units before
abbrev pub fresh_sender : List (List ℕ) → List ℕ → ℕ → ℕ → Sender
fresh_sender units at ticks before = record {
  accepted = units;
  unsent = record { owed = false; units = units };
  bodies = [];
  cuts = [];
  acked = [];
  requested = [];
  builds = 0;
  poll_timer = 0;
  polled = None;
  owed = false;
  ticks = ticks;
  accepted_at = at;
  sendings = [];
  discard = None;
  dropped = 0;
  discarded_units = [];
  discarded_before = before;
}

-- a sender begins anew with the SDUs of which no octet was built. Their ages go on
abbrev pub restarted_sender : Sender → Sender
restarted_sender s = fresh_sender (drop (begun s) s.accepted) (drop (begun s) s.accepted_at) s.ticks (discarded s)

-- both sides of an entity begin anew
abbrev pub restarted_entity : Rules → Entity → Entity
restarted_entity rules e = record { sender = restarted_sender e.sender; receiver = opened_receiver rules; handed = 0 }
