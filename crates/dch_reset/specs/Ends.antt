-- Two ends of a bearer in acknowledged mode that can be reset (TS 25.322 11.4), and what is in flight between them, in
-- order.
use Rattle.std.specs.Prelude.{◌+◌, ◌-◌, ◌%◌, ℕ, List, [], ◌∷◌, ◌++◌, not, ◌==◌, Option, Some, None, Bool, true, false, if◌then◌else◌}
use Rattle.dch_bits.specs.declared.offer.Offer.{Offer as OfferAnswer}
use Rattle.dch_bits.specs.declared.offer.Offer.TheVariants.{Accepted, Full, WrongSize}
use Rattle.dch_am.specs.Entities.{Build as Builds, Offer as Offers, Tick as Ticks}
use Rattle.dch_am.specs.Restart.{restarted_entity}
use Rattle.dch_am.specs.Rules.{Rules}
use Rattle.dch_am.specs.Sender.{Sender, offered}
use Rattle.dch_amlaw.specs.Pair.{Block, End, built, gap_free, opened_end, stepped, takes}

-- what is in flight: a data PDU, an MRW or a status with the number of restarts of the end that built it, which no call
-- sees; a RESET and a RESET ACK, each with its RSN and its HFNI
pub data Sent : Type 0 where
  Data : (label : ℕ) → (block : Block) → Sent
  ResetPdu : (rsn : Bool) → (hfni : ℕ) → Sent
  ResetAckPdu : (rsn : Bool) → (hfni : ℕ) → Sent

-- an end that waits for the RESET ACK with its RSN
pub record Pending : Type 0 where
  pub rsn : Bool
  pub rst_timer : ℕ  -- the ticks until the RESET is built again, 0 where it is due

-- what came and what was handed up between two restarts of an end
pub record Stretch : Type 0 where
  pub labels : List ℕ  -- of the data PDUs, MRWs and statuses that it took
  pub spans : List (ℕ × ℕ)  -- as an end of a pair has them
  pub missing : ℕ  -- the lowest number that is still missing
  pub units : List (List ℕ)  -- handed up

pub record ResetEnd : Type 0 where
  pub sides : End  -- of the present stretch
  pub pending : Option Pending
  pub next_rsn : Bool  -- of the next procedure
  pub heard : Option Bool  -- the RSN of the last RESET that came
  pub owes : Bool  -- a RESET ACK is owed
  pub restarts : ℕ  -- since opening
  pub accepted : List (List ℕ)  -- all units accepted since opening. No call sees this and the next three
  pub labels : List ℕ  -- of what it took in the present stretch, the last one first
  pub senders : List Sender  -- its sender just before each restart, the last one first
  pub stretches : List Stretch  -- the finished ones, the last one first

-- the two ends as one of them sees it, and the two lines, the first to arrive in front
pub record ResetPair : Type 0 where
  pub near : ResetEnd
  pub far : ResetEnd
  pub out : List Sent
  pub back : List Sent

abbrev pub turned : ResetPair → ResetPair
turned p = record { near = p.far; far = p.near; out = p.back; back = p.out }

abbrev pub opened_reset_end : Rules → ℕ → ResetEnd
opened_reset_end rules octets =
    record {
      sides = opened_end rules octets;
      pending = None;
      next_rsn = false;
      heard = None;
      owes = false;
      restarts = 0;
      accepted = [];
      labels = [];
      senders = [];
      stretches = [];
    }

abbrev pub opened : Rules → ℕ → ℕ → ResetPair
opened rules first second = record {
  near = opened_reset_end rules first;
  far = opened_reset_end rules second;
  out = [];
  back = [];
}

-- two RSNs are the same
abbrev pub same_rsn : Bool → Bool → Bool
same_rsn true r = r
same_rsn false r = not r

-- the last RESET that came had this RSN
abbrev pub is_heard : Option Bool → Bool → Bool
is_heard None r = false
is_heard (Some h) r = same_rsn h r

-- the end is pending with this RSN
abbrev pub is_asked : Option Pending → Bool → Bool
is_asked None r = false
is_asked (Some p) r = same_rsn p.rsn r

-- the RSN of a RESET ACK
abbrev pub rsn_of : Option Bool → Bool
rsn_of None = false
rsn_of (Some h) = h

-- a number of restarts in 20 bits
abbrev pub hfni_of : ℕ → ℕ
hfni_of restarts = restarts % 1048576

abbrev pub restarted_sides : Rules → End → End
restarted_sides rules e = record {
  octets = e.octets;
  entity = restarted_entity rules e.entity;
  came = [];
  moved_to = 0;
  moved_past = 0;
  spans = [];
}

-- the present stretch, as it is when it ends
abbrev pub present : ResetEnd → Stretch
present e = record {
  labels = e.labels;
  spans = e.sides.spans;
  missing = gap_free e.sides;
  units = e.sides.entity.receiver.reading.units;
}

-- an end whose two sides begin anew
abbrev pub restarted : Rules → ResetEnd → ResetEnd
restarted rules e =
    record e {
      sides = restarted_sides rules e.sides;
      restarts = e.restarts + 1;
      labels = [];
      senders = e.sides.entity.sender ∷ e.senders;
      stretches = present e ∷ e.stretches;
    }

-- an offered unit, where it is accepted
abbrev pub taken_up : OfferAnswer → List ℕ → List (List ℕ)
taken_up Accepted unit = unit ∷ []
taken_up Full unit = []
taken_up WrongSize unit = []

abbrev pub offers : Rules → ResetEnd → List ℕ → ResetEnd
offers rules e unit = record e {
  sides = stepped rules e.sides (Offers unit);
  accepted = e.accepted
      ++ taken_up (offered rules e.sides.entity.sender unit) unit;
}

-- an end, and what it sent
pub record Built : Type 0 where
  pub after : ResetEnd
  pub sent : Option Sent

abbrev pub labelled : ℕ → Option Block → Option Sent
labelled label None = None
labelled label (Some block) = Some (Data label block)

-- the RESET is built at once, and again 30 ticks after each
abbrev pub builds_reset : ResetEnd → Pending → Built
builds_reset e p =
    if p.rst_timer == 0 then record {
      after = record e { pending = Some (record p { rst_timer = 30 }) };
      sent = Some (ResetPdu p.rsn (hfni_of e.restarts));
    }
    else record { after = e; sent = None }

-- an owed RESET ACK comes first. A pending end builds nothing else but its RESET, and another one what is due in its
-- stretch
abbrev pub builds_by : Rules → ResetEnd → Bool → Option Pending → Built
builds_by rules e true p = record {
  after = record e { owes = false };
  sent = Some (ResetAckPdu (rsn_of e.heard) (hfni_of e.restarts));
}
builds_by rules e false (Some p) = builds_reset e p
builds_by rules e false None = record {
  after = record e { sides = stepped rules e.sides Builds };
  sent = labelled e.restarts (built rules e.sides);
}

abbrev pub builds : Rules → ResetEnd → Built
builds rules e = builds_by rules e e.owes e.pending

-- a pending end ignores data PDUs, MRWs and statuses
abbrev pub hears_data : Rules → ResetEnd → Option Pending → ℕ → Block → ResetEnd
hears_data rules e (Some p) label block = e
hears_data rules e None label block = record e { sides = takes rules e.sides block; labels = label ∷ e.labels }

-- a RESET with a new RSN restarts an end, and a RESET ACK with the RSN for which it is pending; each RESET is answered
abbrev pub hears : Rules → ResetEnd → Sent → ResetEnd
hears rules e (Data label block) = hears_data rules e e.pending label block
hears rules e (ResetPdu rsn hfni) = if is_heard e.heard rsn then record e { owes = true }
    else record (restarted rules e) { heard = Some rsn; owes = true }
hears rules e (ResetAckPdu rsn hfni) = if is_asked e.pending rsn then record (restarted rules e) { pending = None }
    else e

-- an end that isn't pending becomes so, with the other RSN each time
abbrev pub resets_by : ResetEnd → Option Pending → ResetEnd
resets_by e None = record e { pending = Some (record { rsn = e.next_rsn; rst_timer = 0 }); next_rsn = not e.next_rsn }
resets_by e (Some p) = e

abbrev pub resets : ResetEnd → ResetEnd
resets e = resets_by e e.pending

-- one tick
abbrev pub ticked : Option Pending → Option Pending
ticked None = None
ticked (Some p) = Some (record p { rst_timer = p.rst_timer - 1 })

abbrev pub ticks : Rules → ResetEnd → ResetEnd
ticks rules e = record e { sides = stepped rules e.sides Ticks; pending = ticked e.pending }

-- events of the near end
pub data Event : Type 0 where
  Offer : (unit : List ℕ) → Event
  Build : Event
  Arrive : Event  -- the front of the line to this end arrives
  Lose : Event  -- it is lost
  Tick : Event
  Reset : Event

-- the near end is this, and it sent this
abbrev pub with_near : ResetPair → ResetEnd → ResetPair
with_near p e = record { near = e; far = p.far; out = p.out; back = p.back }

abbrev pub sent_on : List Sent → Option Sent → List Sent
sent_on line None = line
sent_on line (Some sent) = line ++ sent ∷ []

abbrev pub sends : ResetPair → Built → ResetPair
sends p b = record { near = b.after; far = p.far; out = sent_on p.out b.sent; back = p.back }

abbrev pub arrives : Rules → ResetPair → List Sent → ResetPair
arrives rules p [] = p
arrives rules p (s ∷ line) = record { near = hears rules p.near s; far = p.far; out = p.out; back = line }

abbrev pub loses : ResetPair → List Sent → ResetPair
loses p [] = p
loses p (s ∷ line) = record { near = p.near; far = p.far; out = p.out; back = line }

abbrev pub happens_near : Rules → ResetPair → Event → ResetPair
happens_near rules p (Offer unit) = with_near p (offers rules p.near unit)
happens_near rules p Build = sends p (builds rules p.near)
happens_near rules p Arrive = arrives rules p p.back
happens_near rules p Lose = loses p p.back
happens_near rules p Tick = with_near p (ticks rules p.near)
happens_near rules p Reset = with_near p (resets p.near)

-- which end an event is at
pub data At : Type 0 where
  Near : (event : Event) → At
  Far : (event : Event) → At

abbrev pub happens : Rules → ResetPair → At → ResetPair
happens rules p (Near e) = happens_near rules p e
happens rules p (Far e) = turned (happens_near rules (turned p) e)

-- two ends that can be reset after a whole history, with what is in flight between them
abbrev pub after : Rules → ResetPair → List At → ResetPair
after rules p [] = p
after rules p (e ∷ es) = after rules (happens rules p e) es
