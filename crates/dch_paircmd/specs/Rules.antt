-- The rules of the command `pair`: the first line opens two ends of a bearer in acknowledged mode that can be reset,
-- and each later line is an event at one of them.
use Rattle.std.specs.Prelude.{◌≡◌, ◌⊎◌, ◌&&◌, ◌++◌, ◌==◌, ℕ, List, [], ◌∷◌, Bool, true, false, not, Option, Some, None, is_some, Result, Ok, Err, codes, drop, length, nat_lt}
use Rattle.dch_am.specs.Rules.{Rules}
use Rattle.dch_am.specs.Sender.{offered}
use Rattle.dch_pair.specs.Answers.{waiting}
use Rattle.dch_rlcpdu.specs.Am.{am_reading}
use Rattle.dch_reset.specs.Answers.{answer_read, came_read}
use Rattle.dch_reset.specs.History.{handed_up}
use Rattle.dch_reset.specs.State.{Build, Event, IsWritten, Offer, Reset, State, Tick, step, turn, writes}
use Rattle.dch_script.specs.ParsedLine.{◌>>=◌}
use Rattle.dch_script.specs.Pair.{ParsedPair, ends, offer, build, arrive, lose, tick, reset, begins_with_ends, pair_meaning}
use Rattle.dch_script.specs.Report.{line_text}
use Rattle.dch_script.specs.declared.event.LineError.{LineError}
use Rattle.dch_script.specs.declared.event.LineError.TheVariants.{When, Word}
use Rattle.dch_script.specs.declared.report.Line.TheVariants.{Open, EndLines}
use Rattle.dch_lines.specs.Semantics.{Semantics}
use Rattle.dch_lines.specs.Texts.{octets_of}
use Rattle.dch_paircmd.specs.Ends.{Ends, PairEnd, Sides, opened_ends, sides_at, with_sides}
use Rattle.dch_paircmd.specs.Texts.{got_text, octets_text, offer_text, units_text}

-- the two ends after an event, and its text
pub record Happened : Type 0 where
  pub sides : Sides
  pub text : List ℕ

-- another near end, another state of it, and other PDUs in flight to it
abbrev pub with_near : Sides → PairEnd → Sides
with_near s end = record s { near = end }

abbrev pub with_state : Sides → State → Sides
with_state s state = with_near s (record s.near { state = state })

abbrev pub with_coming : Sides → List (List ℕ) → Sides
with_coming s coming = with_near s (record s.near { coming = coming })

-- an event that the near end alone sees
abbrev pub steps_to : Rules → Sides → Event → Sides
steps_to rules s event = with_state s (step rules s.near.size s.near.state event)

-- a unit is offered
abbrev pub offers : Rules → ℕ → Sides → List ℕ → Happened
offers rules end s unit = record {
  sides = steps_to rules s (Offer unit);
  text = offer_text end (offered rules s.near.state.entity.sender unit);
}

-- a PDU may be built where one is due, and fewer than 1,024 are in flight
abbrev pub may_build : Rules → Sides → Bool
may_build rules s = writes (turn rules s.near.state) && nat_lt (length s.far.coming) 1024

-- these octets are built, and are in flight to the far end behind the others
abbrev pub builds : Rules → Sides → List ℕ → Sides
builds rules s out = record {
  near = (steps_to rules s Build).near;
  far = record s.far { coming = s.far.coming ++ out ∷ [] };
}

-- an end after a PDU arrived, and what it tells
pub record Told : Type 0 where
  pub side : PairEnd
  pub text : List ℕ

-- the state of an end after octets came
abbrev pub hears : Rules → PairEnd → List ℕ → State
hears rules end octets = came_read rules end.size end.state (am_reading octets)

-- octets arrive, behind which these are in flight: the answer is told, and then all units that wait are handed up
abbrev pub takes : Rules → ℕ → PairEnd → List ℕ → List (List ℕ) → Told
takes rules n end octets later = record {
  side = record end { state = handed_up (hears rules end octets); coming = later };
  text = got_text n (answer_read rules end.state (am_reading octets))
      ++ units_text n (waiting (hears rules end octets).entity);
}

abbrev pub arrives_from : Rules → ℕ → PairEnd → List (List ℕ) → Told
arrives_from rules n end [] = record { side = end; text = [] }
arrives_from rules n end (octets ∷ later) = takes rules n end octets later

-- the first PDU in flight to it arrives
abbrev pub arrives_at : Rules → ℕ → PairEnd → Told
arrives_at rules n end = arrives_from rules n end end.coming

abbrev pub told_near : Sides → Told → Happened
told_near s told = record { sides = with_near s told.side; text = told.text }

-- a line comes too early: nothing may be built, or nothing is in flight
abbrev pub is_early : Rules → Sides → ParsedPair → Bool
is_early rules s (ends first second buffer window) = false
is_early rules s (offer end hex) = false
is_early rules s (build end) = not (may_build rules s)
is_early rules s (arrive end) = length s.near.coming == 0
is_early rules s (lose end) = length s.near.coming == 0
is_early rules s (tick end) = false
is_early rules s (reset end) = false

-- the end at which a line is an event
abbrev pub end_in : ParsedPair → ℕ
end_in (ends first second buffer window) = 0
end_in (offer end hex) = end
end_in (build end) = end
end_in (arrive end) = end
end_in (lose end) = end
end_in (tick end) = end
end_in (reset end) = end

-- octets of the size of its PDUs are written at the turn of the near end, and are in flight then
pub record BuildsOut (rules : Rules) (end : ℕ) (s : Sides) (after : Happened) : Type 0 where
  pub out : List ℕ
  pub size : length out ≡ s.near.size
  pub is : IsWritten (turn rules s.near.state) rules s.near.size out s.near.state
  pub holds : after ≡ record { sides = builds rules s out; text = octets_text (codes "sent ") end out }

-- what the event of a line makes of the two ends
abbrev pub HappensAs : Rules → Sides → ParsedPair → Happened → Type 0
HappensAs rules s (ends first second buffer window) after = ⊥
HappensAs rules s (offer end hex) after = after ≡ offers rules end s (octets_of hex)
HappensAs rules s (build end) after = BuildsOut rules end s after
HappensAs rules s (arrive end) after = after ≡ told_near s (arrives_at rules end s.near)
HappensAs rules s (lose end) after = after ≡ record { sides = with_coming s (drop 1 s.near.coming); text = [] }
HappensAs rules s (tick end) after = after ≡ record { sides = steps_to rules s Tick; text = [] }
HappensAs rules s (reset end) after = after ≡ record { sides = steps_to rules s Reset; text = [] }

pub record Happens (old : Ends) (line : ParsedPair) (new : Ends) (text : List ℕ) : Type 0 where
  pub timely : is_early old.rules (sides_at (end_in line) old) line ≡ false
  pub after : Happened
  pub happens : HappensAs old.rules (sides_at (end_in line) old) line after
  pub new_is : new ≡ with_sides (end_in line) after.sides old
  pub text_is : text ≡ after.text

-- what a line does. The ends are open after the first one
abbrev pub Does : Option Ends → ParsedPair → Option Ends → List ℕ → Type 0
Does None (ends first second buffer window) new text = (new ≡ Some (opened_ends first second buffer window))
    × (text ≡ line_text Open)
Does None line new text = ⊥
Does (Some old) line None text = ⊥
Does (Some old) line (Some new) text = Happens old line new text

-- a line says what it says by itself, where it is in its place: `ends` opens the ends, so it stands first, and nowhere
-- else
abbrev pub in_place : Bool → Bool → Result ParsedPair LineError → Result ParsedPair LineError
in_place false true meaning = meaning
in_place true false meaning = meaning
in_place opened begins meaning = Err Word

unfoldable pub pair_meaning_at : Bool → List ℕ → Result ParsedPair LineError
pair_meaning_at opened line = do
  begins ← begins_with_ends line
  in_place opened begins (pair_meaning line)

pub record TakesLine (old : Option Ends) (line : List ℕ) (new : Option Ends) (text : List ℕ) : Type 0 where
  pub parsed : ParsedPair
  pub says : pair_meaning_at (is_some old) line ≡ Ok parsed
  pub does : Does old parsed new text

abbrev pub IsEarly : Option Ends → ParsedPair → Type 0
IsEarly None line = ⊥
IsEarly (Some old) line = is_early old.rules (sides_at (end_in line) old) line ≡ true

-- a line says what can't be done now
pub record IsUntimely (old : Option Ends) (line : List ℕ) (why : LineError) : Type 0 where
  pub parsed : ParsedPair
  pub says : pair_meaning_at (is_some old) line ≡ Ok parsed
  pub early : IsEarly old parsed
  pub cause : why ≡ When

-- a line is malformed for the reason that its words tell, or comes too early
abbrev pub RefusesLine : Option Ends → List ℕ → LineError → Type 0
RefusesLine old line why = (pair_meaning_at (is_some old) line ≡ Err why) ⊎ IsUntimely old line why

-- the first line alone wants memory, that of the two ends
pub record WantsMemory (old : Option Ends) (line : List ℕ) : Type 0 where
  pub closed : old ≡ None
  pub parsed : ParsedPair
  pub says : pair_meaning_at false line ≡ Ok parsed

abbrev pub pair_lines : Semantics (Option Ends)
pair_lines = record {
  handles = TakesLine;
  begins = λ old line new text. ⊥;
  refuses = RefusesLine;
  wants_memory = WantsMemory;
  closing = λ old count. line_text (EndLines count);
}
