-- Two ends that run and can be reset (TS 25.322 11.4): what is done at them, as the history of events that it is, and
-- what they have done then.
use Rattle.std.specs.Prelude.{◌≡◌, ◌+◌, ◌≤◌, ℕ, List, length, map, take, drop}
use Rattle.dch_amsend.specs.SduDiscard.{capped}
use Rattle.dch_pair.specs.Running.{rules_in}
use Rattle.dch_pair.specs.declared.setup.End.{End as Side}
use Rattle.dch_pair.specs.declared.setup.End.TheVariants.{First, Second}
use Rattle.dch_pair.specs.declared.setup.PairSetup.{PairSetup}
use Rattle.dch_reset.specs.Ends.{At, Event, Far, Near, Offer, Build, Arrive, Lose, Tick, Reset, ResetEnd, ResetPair, after, opened}
use Rattle.dch_reset.specs.Law.{IsDelivered, handed}
use Rattle.dch_reset.specs.declared.peer.Record.{Record}
use Rattle.dch_reset.specs.declared.setup.ResetEvent.{ResetEvent}
use Rattle.dch_reset.specs.declared.setup.ResetEvent.TheVariants.{Offer as Offers, Build as Builds, Arrive as Arrives, Lose as Loses, Tick as Ticks, Reset as Resets}

-- the octets of an offered unit lie in the octets
abbrev pub IsInside : List ℕ → ResetEvent → Type 0
IsInside octets (Offers end from len) = from + len ≤ length octets
IsInside octets (Builds end) = Unit {0}
IsInside octets (Arrives to) = Unit {0}
IsInside octets (Loses to) = Unit {0}
IsInside octets (Ticks end) = Unit {0}
IsInside octets (Resets end) = Unit {0}

-- the end at which it is done, and the event that it is there
abbrev pub end_of : ResetEvent → Side
end_of (Offers end from len) = end
end_of (Builds end) = end
end_of (Arrives to) = to
end_of (Loses to) = to
end_of (Ticks end) = end
end_of (Resets end) = end

abbrev pub event_of : List ℕ → ResetEvent → Event
event_of octets (Offers end from len) = Offer (take len (drop from octets))
event_of octets (Builds end) = Build
event_of octets (Arrives to) = Arrive
event_of octets (Loses to) = Lose
event_of octets (Ticks end) = Tick
event_of octets (Resets end) = Reset

-- an event at an end, as the first end sees it
abbrev pub at_end : Side → Event → At
at_end First event = Near event
at_end Second event = Far event

abbrev pub seen : List ℕ → ResetEvent → At
seen octets event = at_end (end_of event) (event_of octets event)

-- a whole history
abbrev pub history : List ℕ → List ResetEvent → List At
history octets events = map (seen octets) events

-- the pair after events
abbrev pub pair_after : PairSetup → List At → ResetPair
pair_after setup events = after (rules_in setup) (opened (rules_in setup) setup.first_pdu setup.second_pdu) events

-- what each end has done
pub record Outcome : Type 0 where
  pub first : Record
  pub second : Record

abbrev pub record_of : Side → Outcome → Record
record_of First o = o.first
record_of Second o = o.second

-- that is what an end has done
pub record IsRecord (r : Record) (e : ResetEnd) : Type 0 where
  pub accepted : r.accepted ≡ length e.accepted
  pub restarts : r.restarts ≡ capped e.restarts
  pub units : r.units ≡ handed e

-- what two ends that run and can be reset have done with SDUs, and how often each restarted, is what a pair of the
-- definitions has done
pub record IsOutcome (o : Outcome) (p : ResetPair) : Type 0 where
  pub first : IsRecord o.first p.near
  pub second : IsRecord o.second p.far

-- handed up at an end is, stretch by stretch, of the units of the other end, and in all, in order and each at most once
pub record IsHandedUp (from to : ResetEnd) (units : List (List ℕ)) : Type 0 where
  pub all : units ≡ handed to
  pub delivered : IsDelivered from to

pub record AreDelivered (o : Outcome) (p : ResetPair) : Type 0 where
  pub to_second : IsHandedUp p.near p.far o.second.units
  pub to_first : IsHandedUp p.far p.near o.first.units
