-- Two ends of a bearer in acknowledged mode (TS 25.322 11.3), and the blocks that are in flight between them, in order.
use Rattle.std.specs.Prelude.{◌+◌, ◌-◌, ◌*◌, ℕ, ◌≡◌, ◌≤◌, ◌<◌, ◌⊎◌, List, [], ◌∷◌, ◌++◌, ◌&&◌, ◌||◌, length, nat_le, nat_lt, take, max, Option, Some, None, Bool, true, false, if◌then◌else◌}
use Rattle.dch_rlcpdu.specs.Fields.{mrw_fields}
use Rattle.dch_am.specs.Numbers.{has, below, run_of, top, wrapped}
use Rattle.dch_am.specs.Status.{Told, fields_of}
use Rattle.dch_am.specs.Bodies.{Body, ends}
use Rattle.dch_am.specs.Rules.{Rules}
use Rattle.dch_am.specs.Sender.{Discard, vt_s, vt_a}
use Rattle.dch_am.specs.Building.{Choice, Again, New, Last, NoPdu, body_of_choice, choice, polls_at}
use Rattle.dch_am.specs.Acknowledging.{status_answer}
use Rattle.dch_am.specs.Receiver.{vr_r, taken}
use Rattle.dch_am.specs.declared.answers.Taken.{Taken}
use Rattle.dch_am.specs.declared.answers.Taken.TheVariants.{Kept, Duplicate, Outside}
use Rattle.dch_am.specs.declared.answers.MrwTaken.{MrwTaken}
use Rattle.dch_am.specs.declared.answers.MrwTaken.TheVariants.{Nothing, Obeyed, Old, Outside as Beyond}
use Rattle.dch_am.specs.declared.answers.StatusTaken.{StatusTaken}
use Rattle.dch_am.specs.declared.answers.StatusTaken.TheVariants.{Taken as Inside, Outside as Unknown}
use Rattle.dch_am.specs.Moves.{obeyed_mrw}
use Rattle.dch_am.specs.Telling.{tells_now}
use Rattle.dch_am.specs.Entities.{Come, Entity, Event as EntityEvent, Build as Builds, Offer as Offers, Tick as Ticks, Pdu, DataPdu, StatusPdu, Turn, Tells, Moves, Sends, Rests, opened_entity, step, turn}

-- what a build puts in flight, with its number without wrap
pub data Block : Type 0 where
  Payload : (number : ℕ) → (poll : Bool) → (body : Body) → Block
  Mrw : (number : ℕ) → (n : ℕ) → (end_of_discard : ℕ) → Block
  Report : (told : Told) → Block

pub record End : Type 0 where
  pub octets : ℕ  -- of the PDUs that it builds
  pub entity : Entity
  pub came : List ℕ  -- the numbers of the PDUs that arrived here, without wrap. No call sees this and the next three
  pub moved_to : ℕ  -- the greatest number of the MRWs that arrived here
  pub moved_past : ℕ  -- the greatest count of units of these
  pub spans : List (ℕ × ℕ)  -- after each arrival, the lowest number that is still missing, and that count

-- the two ends as one of them sees it, and the two lines, the first to arrive in front
pub record Pair : Type 0 where
  pub near : End
  pub far : End
  pub out : List Block
  pub back : List Block

abbrev pub turned : Pair → Pair
turned p = record { near = p.far; far = p.near; out = p.back; back = p.out }

abbrev pub opened_end : Rules → ℕ → End
opened_end rules octets = record {
  octets = octets;
  entity = opened_entity rules;
  came = [];
  moved_to = 0;
  moved_past = 0;
  spans = [];
}

abbrev pub opened : Rules → ℕ → ℕ → Pair
opened rules first second = record { near = opened_end rules first; far = opened_end rules second; out = []; back = [] }

-- events of the near end
pub data Event : Type 0 where
  Offer : (unit : List ℕ) → Event
  Build : Event
  Arrive : Event  -- the front of the line to this end arrives
  Lose : Event  -- it is lost
  Tick : Event

-- an end whose entity is this, and the pair whose near end is this
abbrev pub with_entity : End → Entity → End
with_entity e entity = record {
  octets = e.octets;
  entity = entity;
  came = e.came;
  moved_to = e.moved_to;
  moved_past = e.moved_past;
  spans = e.spans;
}

abbrev pub with_near : Pair → End → Pair
with_near p e = record { near = e; far = p.far; out = p.out; back = p.back }

-- an end after an event of its entity
abbrev pub stepped : Rules → End → EntityEvent → End
stepped rules e event = with_entity e (step rules e.octets e.entity event)

-- what is told, the MRW of a discard, and a chosen PDU as blocks
abbrev pub report_of : Option Told → Option Block
report_of None = None
report_of (Some t) = Some (Report t)

abbrev pub mrw_of : Option Discard → Option Block
mrw_of None = None
mrw_of (Some d) = Some (Mrw d.k d.n d.end_of_discard)

abbrev pub payload_of : Choice → Rules → End → Option Block
payload_of (Again k) rules e = Some (Payload k (polls_at (Again k) rules (e.octets - 2) e.entity.sender)
    (body_of_choice (Again k) (e.octets - 2) e.entity.sender))
payload_of New rules e = Some (Payload (vt_s e.entity.sender) (polls_at New rules (e.octets - 2) e.entity.sender)
    (body_of_choice New (e.octets - 2) e.entity.sender))
payload_of (Last k) rules e = Some (Payload k (polls_at (Last k) rules (e.octets - 2) e.entity.sender)
    (body_of_choice (Last k) (e.octets - 2) e.entity.sender))
payload_of NoPdu rules e = None

-- the block that an end builds at its turn
abbrev pub block_of : Turn → Rules → End → Option Block
block_of Tells rules e = report_of (tells_now (8 * e.octets) e.entity.receiver)
block_of Moves rules e = mrw_of e.entity.sender.discard
block_of Sends rules e = payload_of (choice rules e.entity.sender) rules e
block_of Rests rules e = None

abbrev pub built : Rules → End → Option Block
built rules e = block_of (turn rules e.entity.sender e.entity.receiver) rules e

-- a line with a block more, where there is one
abbrev pub sent_on : List Block → Option Block → List Block
sent_on line None = line
sent_on line (Some block) = line ++ block ∷ []

abbrev pub builds_one : Rules → Pair → Pair
builds_one rules p = record {
  near = stepped rules p.near Builds;
  far = p.far;
  out = sent_on p.out (built rules p.near);
  back = p.back;
}

-- the lowest number that has not arrived and was not passed
abbrev pub run_over : List ℕ → ℕ → ℕ
run_over came to = run_of (below to ++ came) (top (below to ++ came))

-- a block as the PDU that the other end reads: it sees 12 bits of each number
abbrev pub pdu_in : Block → Pdu
pdu_in (Payload k poll body) = DataPdu (wrapped k) poll body None
pdu_in (Mrw k n end_of_discard) = StatusPdu (mrw_fields (wrapped k) n)
pdu_in (Report t) = StatusPdu (fields_of t)

-- an entity that has handed up all units
abbrev pub all_handed : Entity → Entity
all_handed e = record { sender = e.sender; receiver = e.receiver; handed = length e.receiver.reading.units }

-- an entity after a block came, and all units are handed up
abbrev pub taken_in : Rules → End → Block → Entity
taken_in rules e block = all_handed (step rules e.octets e.entity (Come (pdu_in block)))

abbrev pub takes : Rules → End → Block → End
takes rules e (Payload k poll body) = record {
  octets = e.octets;
  entity = taken_in rules e (Payload k poll body);
  came = k ∷ e.came;
  moved_to = e.moved_to;
  moved_past = e.moved_past;
  spans = (run_over (k ∷ e.came) e.moved_to, e.moved_past) ∷ e.spans;
}
takes rules e (Mrw k n end_of_discard) = record {
  octets = e.octets;
  entity = taken_in rules e (Mrw k n end_of_discard);
  came = e.came;
  moved_to = max e.moved_to k;
  moved_past = max e.moved_past end_of_discard;
  spans = (run_over e.came (max e.moved_to k), max e.moved_past end_of_discard) ∷ e.spans;
}
takes rules e (Report t) = with_entity e (taken_in rules e (Report t))

abbrev pub arrives : Rules → Pair → List Block → Pair
arrives rules p [] = p
arrives rules p (b ∷ line) = record { near = takes rules p.near b; far = p.far; out = p.out; back = line }

abbrev pub loses : Pair → List Block → Pair
loses p [] = p
loses p (b ∷ line) = record { near = p.near; far = p.far; out = p.out; back = line }

abbrev pub happens_near : Rules → Pair → Event → Pair
happens_near rules p (Offer unit) = with_near p (stepped rules p.near (Offers unit))
happens_near rules p Build = builds_one rules p
happens_near rules p Arrive = arrives rules p p.back
happens_near rules p Lose = loses p p.back
happens_near rules p Tick = with_near p (stepped rules p.near Ticks)

-- which end an event is at
pub data At : Type 0 where
  Near : (event : Event) → At
  Far : (event : Event) → At

abbrev pub happens : Rules → Pair → At → Pair
happens rules p (Near e) = happens_near rules p e
happens rules p (Far e) = turned (happens_near rules (turned p) e)

-- two ends after a whole history, with the blocks in flight between them
abbrev pub after : Rules → Pair → List At → Pair
after rules p [] = p
after rules p (e ∷ es) = after rules (happens rules p e) es

abbrev pub is_outside_answer : Taken → Bool
is_outside_answer Kept = false
is_outside_answer Duplicate = false
is_outside_answer Outside = true

abbrev pub is_beyond : MrwTaken → Bool
is_beyond Obeyed = false
is_beyond Old = false
is_beyond (Beyond i) = true
is_beyond Nothing = false

abbrev pub is_refused : StatusTaken → Bool
is_refused Inside = false
is_refused (Unknown i) = true

-- the answer to a block is Outside
abbrev pub answers_outside : Rules → End → Block → Bool
answers_outside rules e (Payload k poll body) = is_outside_answer (taken rules e.entity.receiver (wrapped k))
answers_outside rules e (Mrw k n end_of_discard) = is_beyond (obeyed_mrw rules e.entity.receiver (wrapped k))
answers_outside rules e (Report t) = is_refused (status_answer rules e.entity.sender (fields_of t))

-- the next block to arrive is answered Outside
abbrev pub front_outside : Rules → End → List Block → Bool
front_outside rules e [] = false
front_outside rules e (b ∷ line) = answers_outside rules e b

-- the numbers that have arrived at this end or were passed by an MRW that came, and the least that isn't among them
abbrev pub arrived_or_passed : End → List ℕ
arrived_or_passed e = below e.moved_to ++ e.came

abbrev pub gap_free : End → ℕ
gap_free e = run_over e.came e.moved_to

-- at some moment unit i had its length indicator below the missing number, and no MRW had passed it
abbrev pub in_span : List Body → List (ℕ × ℕ) → ℕ → Bool
in_span bodies [] i = false
in_span bodies (p ∷ ps) i = (nat_le p.1 i && nat_lt i (ends (take p.0 bodies))) || in_span bodies ps i

-- those units, in order. The first of these is unit i
abbrev pub picked : List Body → List (ℕ × ℕ) → ℕ → List (List ℕ) → List (List ℕ)
picked bodies spans i [] = []
picked bodies spans i (u ∷ us) = if in_span bodies spans i then (u ∷ picked bodies spans (i + 1) us)
    else picked bodies spans (i + 1) us

-- what holds of one direction: of its sender and of its receiver at the other end
pub record IsKept (rules : Rules) (from to : End) : Type 0 where
  pub acked_le_expected : vt_a from.entity.sender ≤ vr_r to.entity.receiver
  pub expected_le_next : vr_r to.entity.receiver ≤ vt_s from.entity.sender
  pub next_le_window : vt_s from.entity.sender ≤ vt_a from.entity.sender + rules.window
  pub acked_arrived : (k : ℕ) → has k from.entity.sender.acked ≡ true → has k (arrived_or_passed to) ≡ true
  pub expected_is : vr_r to.entity.receiver ≡ gap_free to
  pub none_lost : (i : ℕ) → i < ends (take (gap_free to) from.entity.sender.bodies)
      → (in_span from.entity.sender.bodies to.spans i ≡ true) ⊎ (has i from.entity.sender.discarded_units ≡ true)
  pub in_order : to.entity.receiver.reading.units
      ≡ picked from.entity.sender.bodies to.spans 0 from.entity.sender.accepted

-- what holds of two ends after every history, in both directions: SDUs are delivered in order, each once, and none that
-- came without a gap is lost but those discarded; the next PDU in flight is not outside the window
pub record IsSafe (rules : Rules) (p : Pair) : Type 0 where
  pub near_far : IsKept rules p.near p.far
  pub far_near : IsKept rules p.far p.near
  pub near_inside : front_outside rules p.near p.back ≡ false
  pub far_inside : front_outside rules p.far p.out ≡ false
