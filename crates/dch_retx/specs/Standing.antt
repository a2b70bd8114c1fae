-- What is kept of the PDUs that were sent stands for a sender over numbers without wrap (TS 25.322 9.4).
use Rattle.std.specs.Prelude.{◌≡◌, ◌⊎◌, ◌+◌, ◌-◌, ◌%◌, ◌<◌, ◌≤◌, ◌||◌, ◌==◌, nat_lt, if◌then◌else◌, ℕ, List, Bool, true, false, length, min, Option, Some, None}
use Rattle.dch_retx.specs.declared.sent_pdu.SentPdu.{SentPdu}
use Rattle.dch_retx.specs.Flights.{at, ends_in}
use Rattle.dch_am.specs.Numbers.{has, wrapped}
use Rattle.dch_am.specs.Rules.{Rules}
use Rattle.dch_am.specs.Bodies.{ends}
use Rattle.dch_am.specs.Sender.{Sender, Discard, vt_s, vt_a}
use Rattle.dch_am.specs.Acknowledging.{floor}
use Rattle.dch_am.specs.Discards.{count}
use Rattle.dch_am.specs.Building.{Choice, Again as Requested, New as Fresh, Last as Latest, NoPdu as Nothing}
use Rattle.dch_retx.specs.declared.buffer.Pick.{Pick}
use Rattle.dch_retx.specs.declared.buffer.Pick.TheVariants.{Again, New, Last, NoPdu}
use Rattle.dch_retx.specs.declared.buffer.Running.{Running}
use Rattle.dch_retx.specs.RetxBuffer.{RetxBuffer}

-- the PDU in flight with a number
pub record IsInFlight (s : Sender) (k : ℕ) (f : SentPdu) : Type 0 where
  pub acked : f.acked ≡ has k s.acked
  pub requested : f.requested ≡ has k s.requested
  pub named : f.named ≡ false
  pub builds : f.builds ≡ min 255 (count k s.sendings)

-- a requested number is sent, open, and not below the running discard
pub record IsRequested (s : Sender) (k : ℕ) : Type 0 where
  pub from : vt_a s ≤ k
  pub sent : k < vt_s s
  pub is_open : has k s.acked ≡ false
  pub high : floor s.discard ≤ k

-- the polled PDU is in flight while the timer runs or a poll is owed
pub record IsPolled (s : Sender) (place flying : ℕ) : Type 0 where
  pub number : s.polled ≡ Some (vt_a s + place)
  pub inside : place < flying

-- the running discard
pub record IsSame (r : Running) (d : Discard) (low flying : ℕ) : Type 0 where
  pub k : low + r.at ≡ d.k
  pub n : r.n ≡ d.n
  pub due : r.due ≡ d.due
  pub mrw_timer : r.mrw_timer ≡ d.mrw_timer
  pub inside : r.at < flying

abbrev pub IsRunning : Option Running → Option Discard → ℕ → ℕ → Type 0
IsRunning None None low flying = Unit {0}
IsRunning None (Some d) low flying = ⊥
IsRunning (Some r) None low flying = ⊥
IsRunning (Some r) (Some d) low flying = IsSame r d low flying

-- how many there are since the last multiple of the rule
abbrev pub left_of : ℕ → ℕ → ℕ
left_of rule n = if nat_lt 0 rule then n % rule else 0

-- the line stands for this sender
pub record Stands (rules : Rules) (l : RetxBuffer) (s : Sender) : Type 0 where
  pub window : l.window ≡ rules.window
  pub rules_are : l.rules ≡ rules
  pub built : l.built ≡ left_of rules.poll_pdus s.builds
  pub ended : l.ended ≡ left_of rules.poll_units (ends s.bodies)
  pub most : rules.window ≤ 2048
  pub few : length l.in_flight ≤ rules.window
  pub flying : vt_a s + length l.in_flight ≡ vt_s s
  pub next : l.next ≡ wrapped (vt_s s)
  pub in_flight : (i : ℕ) → i < length l.in_flight → IsInFlight s (vt_a s + i) (at l.in_flight i)
  pub acked_sent : (k : ℕ) → has k s.acked ≡ true → k < vt_s s
  pub requested : (k : ℕ) → has k s.requested ≡ true → IsRequested s k
  pub unsent : (k : ℕ) → vt_s s ≤ k → count k s.sendings ≡ 0
  pub poll_timer : l.poll_timer ≡ s.poll_timer
  pub owed : l.owed ≡ s.owed
  pub polled : (0 < s.poll_timer) ⊎ (s.owed ≡ true) → IsPolled s l.polled (length l.in_flight)
  pub running : IsRunning l.running s.discard (vt_a s) (length l.in_flight)

-- the choice, by the lowest open number
abbrev pub chosen : ℕ → Pick → Choice
chosen low (Again place) = Requested (low + place)
chosen low New = Fresh
chosen low (Last place) = Latest (low + place)
chosen low NoPdu = Nothing

-- a PDU that was just built, as it is kept: so many units end in it
pub record IsNew (f : SentPdu) (ends : ℕ) : Type 0 where
  pub acked : f.acked ≡ false
  pub requested : f.requested ≡ false
  pub named : f.named ≡ false
  pub builds : f.builds ≡ 1
  pub ends_are : ends_in f ≡ ends

-- a PDU has this poll bit, and the line behind it stands for this sender
pub record Sends (rules : Rules) (bit : Bool) (l : RetxBuffer) (poll_bit : Bool) (s : Sender) : Type 0 where
  pub poll : bit ≡ poll_bit
  pub stands : Stands rules l s

-- a sender after a tick of its timers
abbrev pub timer_of : Option Discard → Option Discard
timer_of None = None
timer_of (Some d) = Some (record d { due = d.due || (d.mrw_timer == 1); mrw_timer = d.mrw_timer - 1 })

abbrev pub timed : Sender → Sender
timed s = record s {
  poll_timer = s.poll_timer - 1;
  owed = s.owed || (s.poll_timer == 1);
  ticks = s.ticks + 1;
  discard = timer_of s.discard;
}

-- two PDUs are sent alike
pub record IsAlike (f g : SentPdu) : Type 0 where
  pub extent : f.extent ≡ g.extent
  pub full : f.full ≡ g.full
  pub padded : f.padded ≡ g.padded

-- of the PDUs in flight a front has left, and the others are sent as before
pub record AreKept (old new : List SentPdu) : Type 0 where
  pub few : length new ≤ length old
  pub same : (i : ℕ) → i < length new → IsAlike (at new i) (at old (length old - length new + i))
