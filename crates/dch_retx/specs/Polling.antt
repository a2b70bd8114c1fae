-- Which PDU is built next of those in flight, and whether it polls (TS 25.322 9.7.1, 11.3.2).
use Rattle.std.specs.Prelude.{◌+◌, ◌-◌, ◌*◌, ◌%◌, ◌++◌, ◌&&◌, ◌||◌, not, ℕ, List, [], ◌∷◌, Bool, false, length, nat_lt, nat_le, slice_set, if◌then◌else◌}
use Rattle.dch_retx.specs.declared.sent_pdu.SentPdu.{SentPdu}
use Rattle.dch_retx.specs.Flights.{at, built, ends_in, first_requested}
use Rattle.dch_am.specs.Numbers.{wrapped}
use Rattle.dch_am.specs.Rules.{Rules}
use Rattle.dch_retx.specs.declared.buffer.Pick.{Pick}
use Rattle.dch_retx.specs.declared.buffer.Pick.TheVariants.{Again, New, Last, NoPdu}
use Rattle.dch_retx.specs.RetxBuffer.{RetxBuffer}

-- the lowest one that is requested, else a new one where the window and unsent matter allow it, else the last one where
-- a poll is owed
abbrev pub picked : Bool → RetxBuffer → Pick
picked left l =
    if nat_lt (first_requested l.in_flight) (length l.in_flight) then Again (first_requested l.in_flight)
    else (if nat_lt (length l.in_flight) l.window && left then New
    else (if l.owed && nat_lt 0 (length l.in_flight) then Last (length l.in_flight - 1)
    else NoPdu))

-- a count since the last multiple of a rule comes to it with so many more, and the count then
abbrev pub crosses : ℕ → ℕ → ℕ → Bool
crosses rule count more = nat_lt 0 rule && nat_le rule (count + more)

abbrev pub counted : ℕ → ℕ → ℕ → ℕ
counted rule count more = if nat_lt 0 rule then (count + more) % rule else 0

-- so many PDUs in flight are as many hundredths of the window
abbrev pub is_far : Rules → ℕ → Bool
is_far rules count = nat_lt 0 rules.poll_window && nat_le (rules.poll_window * rules.window) (100 * count)

-- the poll bit of a PDU that is in flight, for a reason of its own or for those of every PDU
abbrev pub poll_of : Bool → RetxBuffer → Bool
poll_of reason l = reason || l.owed || crosses l.rules.poll_pdus l.built 1 || is_far l.rules (length l.in_flight)

-- the line after it: a poll pays the debt, and starts the timer where there is one
abbrev pub after_bit : Bool → RetxBuffer → RetxBuffer
after_bit poll l = record l {
  built = counted l.rules.poll_pdus l.built 1;
  owed = if poll then false else l.owed;
  poll_timer = if poll && nat_lt 0 l.rules.poll_timer then l.rules.poll_timer else l.poll_timer;
  polled = if poll && nat_lt 0 l.rules.poll_timer then length l.in_flight - 1 else l.polled;
}

abbrev pub sent_line : Bool → RetxBuffer → RetxBuffer
sent_line reason l = after_bit (poll_of reason l) l

-- a PDU is built once more
abbrev pub resent : ℕ → RetxBuffer → RetxBuffer
resent place l = record l { in_flight = slice_set l.in_flight place (built (at l.in_flight place)) }

-- a requested PDU polls where none is requested behind it
abbrev pub none_requested : List SentPdu → Bool
none_requested in_flight = nat_le (length in_flight) (first_requested in_flight)

abbrev pub again_poll : ℕ → RetxBuffer → Bool
again_poll place l = poll_of (none_requested (resent place l).in_flight) (resent place l)

abbrev pub again_line : ℕ → RetxBuffer → RetxBuffer
again_line place l = sent_line (none_requested (resent place l).in_flight) (resent place l)

abbrev pub last_poll : ℕ → RetxBuffer → Bool
last_poll place l = poll_of false (resent place l)

abbrev pub last_line : ℕ → RetxBuffer → RetxBuffer
last_line place l = sent_line false (resent place l)

-- a new PDU is in flight. It polls where nothing unsent is left behind it or so many units have ended
abbrev pub fresh : SentPdu → RetxBuffer → RetxBuffer
fresh f l = record l {
  in_flight = l.in_flight ++ f ∷ [];
  next = wrapped (l.next + 1);
  ended = counted l.rules.poll_units l.ended (ends_in f);
}

abbrev pub new_poll : SentPdu → Bool → RetxBuffer → Bool
new_poll f left l = poll_of (not left || crosses l.rules.poll_units l.ended (ends_in f)) (fresh f l)

abbrev pub new_line : SentPdu → Bool → RetxBuffer → RetxBuffer
new_line f left l = sent_line (not left || crosses l.rules.poll_units l.ended (ends_in f)) (fresh f l)
