-- What a sender keeps of the PDUs that it has sent (TS 25.322 9.4): those in flight, the poll that is out and the
-- discard that runs.
use Rattle.std.specs.Prelude.{◌≡◌, ◌<◌, ◌≤◌, IfSome, ◌+◌, ◌-◌, ◌||◌, ◌==◌, true, ℕ, List, [], Bool, false, drop, length, min, nat_lt, Option, Some, None, if◌then◌else◌}
use Rattle.dch_retx.specs.declared.sent_pdu.SentPdu.{SentPdu}
use Rattle.dch_retx.specs.Flights.{acknowledged, request_cleared, changed_below, front_acked}
use Rattle.dch_am.specs.Rules.{Rules}
use Rattle.dch_am.specs.Numbers.{wrapped}
use Rattle.dch_am.specs.declared.answers.StatusTaken.{StatusTaken}
use Rattle.dch_am.specs.declared.answers.StatusTaken.TheVariants.{Taken, Outside}
use Rattle.dch_retx.specs.StatusItems.{StatusItem}
use Rattle.dch_retx.specs.declared.buffer.Running.{Running}
use Rattle.dch_retx.specs.StatusItem.{below_said, ending_of, first_outside, is_named, reports_some, with_names}

-- the PDUs in flight, how many there may be, the number of the next one in 12 bits, the poll timer, the place of the
-- polled PDU, and whether a poll is owed; and the discard that runs
pub record RetxBuffer : Type 0 where
  pub in_flight : List SentPdu
  pub window : ℕ
  pub next : ℕ
  pub poll_timer : ℕ
  pub polled : ℕ
  pub owed : Bool
  pub running : Option Running
  pub rules : Rules
  pub built : ℕ  -- the PDUs built since the last poll for their number
  pub ended : ℕ  -- the units ended since the last poll for their number

-- at opening
abbrev pub opened_line : Rules → RetxBuffer
opened_line rules = record {
  in_flight = [];
  window = rules.window;
  next = 0;
  poll_timer = 0;
  polled = 0;
  owed = false;
  running = None;
  rules = rules;
  built = 0;
  ended = 0;
}

-- the number of the PDU in flight at a place
abbrev pub number_at : ℕ → RetxBuffer → ℕ
number_at place l = wrapped (l.next + 4096 - (length l.in_flight - place))

abbrev pub first_number : RetxBuffer → ℕ
first_number l = number_at 0 l

-- a discard once so many PDUs have left: it ends where its own has
abbrev pub run_on : ℕ → Option Running → Option Running
run_on leaving None = None
run_on leaving (Some r) = if nat_lt r.at leaving then None else Some (record r { at = r.at - leaving })

-- the PDUs in front that are acknowledged leave. The poll is told where the polled one leaves, or was named
abbrev pub left_front : ℕ → Bool → List SentPdu → RetxBuffer → RetxBuffer
left_front leaving named in_flight l = record l {
  in_flight = drop leaving in_flight;
  poll_timer = if named || nat_lt l.polled leaving then 0 else l.poll_timer;
  owed = if named || nat_lt l.polled leaving then false else l.owed;
  polled = l.polled - leaving;
  running = run_on leaving l.running;
}

-- the PDUs below a place are acknowledged, but for those that are marked
abbrev pub acked_below : ℕ → List SentPdu → List SentPdu
acked_below below in_flight = changed_below acknowledged (min below (length in_flight)) in_flight

-- all PDUs below a place are acknowledged, and the discard has ended
abbrev pub freed : ℕ → RetxBuffer → RetxBuffer
freed below l = left_front (front_acked (acked_below below l.in_flight)) false (acked_below below l.in_flight)
    (record l { running = None })

-- below this place nothing is requested while a discard runs
abbrev pub floor_of : Option Running → ℕ
floor_of None = 0
floor_of (Some r) = r.at

-- what is said of numbers is heard, where the LSN stands at a place
abbrev pub named_line : ℕ → List StatusItem → RetxBuffer → List SentPdu
named_line below said l = with_names (first_number l) (floor_of l.running)
    (min below (length l.in_flight)) said l.in_flight

abbrev pub told_line : ℕ → List StatusItem → RetxBuffer → List SentPdu
told_line below said l = changed_below acknowledged (min below (length l.in_flight)) (named_line below said l)

abbrev pub listened : ℕ → List StatusItem → RetxBuffer → RetxBuffer
listened below said l = left_front (front_acked (told_line below said l)) (is_named (first_number l) l.polled said)
    (told_line below said l) l

-- where an MRW_ACK ends the running discard, and the line after it
abbrev pub ending : List StatusItem → RetxBuffer → Option Running → Option ℕ
ending said l running = ending_of (first_number l) (length l.in_flight) running said

abbrev pub after_ending : Option ℕ → RetxBuffer → RetxBuffer
after_ending None l = l
after_ending (Some below) l = freed below l

-- the line after the MRW_ACKs of a status
abbrev pub after_moves : List StatusItem → RetxBuffer → RetxBuffer
after_moves said l = after_ending (ending said l l.running) l

-- the place of the first PDU that stays open where it does so
abbrev pub base_after : Option ℕ → RetxBuffer → ℕ
base_after None l = 0
base_after (Some below) l = min below (length l.in_flight) +
    front_acked (drop (min below (length l.in_flight)) l.in_flight)

-- the first number that is outside, where the PDU at a place is the lowest open one
abbrev pub outside_from : ℕ → List StatusItem → RetxBuffer → Option ℕ
outside_from base said l = first_outside l.window (number_at base l) (length l.in_flight - base) said

-- what a status is answered, and the line after it
abbrev pub answered : Option ℕ → StatusTaken
answered None = Taken
answered (Some i) = Outside i

abbrev pub answer_of : List StatusItem → RetxBuffer → StatusTaken
answer_of said l = answered (outside_from (base_after (ending said l l.running) l) said l)

abbrev pub after_told : ℕ → List StatusItem → RetxBuffer → RetxBuffer
after_told below said l = if reports_some said then listened below said l else l

-- the place of the LSN behind the PDU at a place
abbrev pub below_from : ℕ → List StatusItem → RetxBuffer → ℕ
below_from base said l = below_said (number_at base l) said

abbrev pub after_answer : StatusTaken → List StatusItem → RetxBuffer → RetxBuffer
after_answer Taken said l = after_told (below_from (base_after (ending said l l.running) l) said l) said
    (after_moves said l)
after_answer (Outside i) said l = l

abbrev pub after_hearing : List StatusItem → RetxBuffer → RetxBuffer
after_hearing said l = after_answer (answer_of said l) said l

-- the ring has room for the window, numbers have 12 bits, and the PDU of a discard is in flight with a place of four
-- bits
pub record IsLine (in_flight : List SentPdu) (capacity window next : ℕ) (running : Option Running) : Type 0 where
  pub room : capacity ≡ window
  pub few : length in_flight ≤ window
  pub most : window ≤ 2048
  pub number : next < 4096
  pub discard : IfSome running (λ r. (r.at < length in_flight) × (r.n < 16))

-- a tick of the poll timer and of a discard's
abbrev pub run_timer : Option Running → Option Running
run_timer None = None
run_timer (Some r) = Some (record r { due = r.due || (r.mrw_timer == 1); mrw_timer = r.mrw_timer - 1 })

abbrev pub ticked : RetxBuffer → RetxBuffer
ticked l = record l {
  poll_timer = l.poll_timer - 1;
  owed = l.owed || (l.poll_timer == 1);
  running = run_timer l.running;
}

-- a discard begins with this PDU in flight and this indicator: those before aren't requested
abbrev pub discarding : ℕ → ℕ → RetxBuffer → RetxBuffer
discarding place n l = record l {
  in_flight = changed_below request_cleared place l.in_flight;
  running = Some (record { at = place; n = n; due = true; mrw_timer = 0 });
}

-- an MRW is due
abbrev pub is_due : Option Running → Bool
is_due None = false
is_due (Some r) = r.due

-- it is written, and due again after so many ticks
abbrev pub repeating : ℕ → Option Running → Option Running
repeating ticks None = None
repeating ticks (Some r) = Some (record r { due = false; mrw_timer = ticks })

abbrev pub moving : RetxBuffer → RetxBuffer
moving l = record l { running = repeating l.rules.discard_repeat l.running }

-- the number and the indicator of the discard
abbrev pub place_in : Option Running → ℕ
place_in None = 0
place_in (Some r) = r.at

abbrev pub n_length_in : Option Running → ℕ
n_length_in None = 0
n_length_in (Some r) = r.n
