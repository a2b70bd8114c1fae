-- Two ends that run (TS 25.322 11.3): what is done at them, as the history of events that it is, and what they have
-- done with units then.
use Rattle.std.specs.Prelude.{◌≡◌, ◌+◌, ◌<◌, ◌≤◌, ◌⊎◌, ℕ, List, [], ◌∷◌, ◌++◌, Bool, true, false, length, map, take, drop}
use Rattle.dch_am.specs.Bodies.{ends}
use Rattle.dch_am.specs.Numbers.{has}
use Rattle.dch_am.specs.Sender.{discarded}
use Rattle.dch_amsend.specs.SduDiscard.{capped}
use Rattle.dch_pair.specs.declared.peer.Record.{Record}
use Rattle.dch_pair.specs.declared.setup.End.{End as Side}
use Rattle.dch_pair.specs.declared.setup.End.TheVariants.{First, Second}
use Rattle.dch_am.specs.Rules.{Rules, rules_of}
use Rattle.dch_pair.specs.declared.setup.PairSetup.{PairSetup}
use Rattle.dch_pair.specs.declared.setup.PairEvent.{PairEvent}
use Rattle.dch_pair.specs.declared.setup.PairEvent.TheVariants.{Offer as Offers, Build as Builds, Tick as Ticks}
use Rattle.dch_amlaw.specs.Pair.{Arrive, At, Build, End, Event, Far, Lose, Near, Offer, Pair, Tick, after, gap_free, in_span, opened, picked}

-- the octets of an offered unit lie in the octets
abbrev pub IsInside : List ℕ → PairEvent → Type 0
IsInside octets (Offers end from len) = from + len ≤ length octets
IsInside octets (Builds end arrives) = Unit {0}
IsInside octets (Ticks end) = Unit {0}

-- the end at which it is done
abbrev pub end_of : PairEvent → Side
end_of (Offers end from len) = end
end_of (Builds end arrives) = end
end_of (Ticks end) = end

-- a block arrives or is lost
abbrev pub fate : Bool → Event
fate true = Arrive
fate false = Lose

-- the events that it is as that end sees it: what is built there arrives at the other end, or is lost, at once
abbrev pub seen : List ℕ → PairEvent → List At
seen octets (Offers end from len) = Near (Offer (take len (drop from octets))) ∷ []
seen octets (Builds end arrives) = Near Build ∷ Far (fate arrives) ∷ []
seen octets (Ticks end) = Near Tick ∷ []

-- an event as the other end sees it
abbrev pub flipped : At → At
flipped (Near e) = Far e
flipped (Far e) = Near e

-- events that an end sees, as the first end does
abbrev pub by_first : Side → List At → List At
by_first First events = events
by_first Second events = map flipped events

-- a whole history, as the first end sees it
abbrev pub history : List ℕ → List PairEvent → List At
history octets [] = []
history octets (e ∷ es) = by_first (end_of e) (seen octets e) ++ history octets es

-- the rules of both ends
abbrev pub rules_in : PairSetup → Rules
rules_in setup = rules_of setup.buffer setup.rules

-- the pair after events
abbrev pub pair_after : PairSetup → List At → Pair
pair_after setup events = after (rules_in setup) (opened (rules_in setup) setup.first_pdu setup.second_pdu) events

-- what each end has done with units
pub record Outcome : Type 0 where
  pub first : Record
  pub second : Record

abbrev pub record_of : Side → Outcome → Record
record_of First o = o.first
record_of Second o = o.second

-- that is what an end has done
pub record IsRecord (r : Record) (e : End) : Type 0 where
  pub accepted : r.accepted ≡ length e.entity.sender.accepted
  pub discarded : r.discarded ≡ capped (discarded e.entity.sender)
  pub units : r.units ≡ e.entity.receiver.reading.units

-- what two ends that run have done with SDUs is what a pair of the definitions has done
pub record IsOutcome (o : Outcome) (p : Pair) : Type 0 where
  pub first : IsRecord o.first p.near
  pub second : IsRecord o.second p.far

-- handed up at an end are those accepted units of the other end that were picked, in order; and each unit whose length
-- indicator lies below the lowest number that is missing is among them or was discarded
pub record IsDelivered (from to : End) (units : List (List ℕ)) : Type 0 where
  pub in_order : units ≡ picked from.entity.sender.bodies to.spans 0 from.entity.sender.accepted
  pub none_lost : (i : ℕ) → i < ends (take (gap_free to) from.entity.sender.bodies)
      → (in_span from.entity.sender.bodies to.spans i ≡ true) ⊎ (has i from.entity.sender.discarded_units ≡ true)

pub record AreDelivered (o : Outcome) (p : Pair) : Type 0 where
  pub to_second : IsDelivered p.near p.far o.second.units
  pub to_first : IsDelivered p.far p.near o.first.units
