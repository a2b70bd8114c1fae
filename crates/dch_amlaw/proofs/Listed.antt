-- Every history of two ends leaves both senders listed, and what is in flight is of their lists.
use Rattle.std.proofs.Common.{◌-◌, ◌≤◌, ℕ, List, [], ◌∷◌, subst, sym}
use Rattle.dch_am.specs.Bodies.{joined}
use Rattle.dch_am.specs.Entities.{Build as Builds, Come, Event as EntityEvent, Offer as Offers, Tick as Ticks, step}
use Rattle.dch_am.specs.Listed.{IsBody, IsListed, listed_pdu}
use Rattle.dch_am.specs.Rules.{Rules}
use Rattle.dch_am.specs.Sender.{Sender}
use Rattle.dch_am.proofs.Histories.{listed_body, listed_entity}
use Rattle.dch_am.proofs.Listing.{listed_opens}
use Rattle.dch_amlaw.specs.Listed.{AreListed, IsListedPair}
use Rattle.dch_amlaw.specs.Pair.{Arrive, At, Block, Build, End, Event, Far, Lose, Mrw, Near, Offer, Pair, Payload, Report, Tick, after, arrives, happens, happens_near, loses, opened, pdu_in, takes, turned}
use Rattle.dch_amlaw.proofs.Direction.{LineIs}
use Rattle.dch_amlaw.proofs.History.{Both, both_after, opened_both}

-- an end whose PDUs have an octet behind the header, and whose sender is listed
record IsListedEnd (e : End) : Type 0 where
  octets : 3 ≤ e.octets
  built : IsListed (e.octets - 2) e.entity.sender

abbrev BothListed : Pair → Type 0
BothListed p = IsListedEnd p.near × IsListedEnd p.far

-- each event keeps that of both ends
end_steps : (rules : Rules) (e : End) (event : EntityEvent) → IsListedEnd e → IsListed (e.octets - 2) (step rules e.octets e.entity event).sender
end_steps rules e event is = listed_entity rules e.octets e.entity event is.octets is.built

end_takes : (rules : Rules) (e : End) (b : Block) → IsListedEnd e → IsListedEnd (takes rules e b)
end_takes rules e (Payload k poll body) is = record { octets = is.octets; built = end_steps rules e (Come (pdu_in (Payload k poll body))) is }
end_takes rules e (Mrw k n end_of_discard) is = record { octets = is.octets; built = end_steps rules e (Come (pdu_in (Mrw k n end_of_discard))) is }
end_takes rules e (Report t) is = record { octets = is.octets; built = end_steps rules e (Come (pdu_in (Report t))) is }

pair_arrives : (rules : Rules) (p : Pair) (line : List Block) → BothListed p → BothListed (arrives rules p line)
pair_arrives rules p [] is = is
pair_arrives rules p (b ∷ line) is = (end_takes rules p.near b is.0, is.1)

pair_loses : (p : Pair) (line : List Block) → BothListed p → BothListed (loses p line)
pair_loses p [] is = is
pair_loses p (b ∷ line) is = is

pair_near : (rules : Rules) (p : Pair) (e : Event) → BothListed p → BothListed (happens_near rules p e)
pair_near rules p (Offer unit) is = (record { octets = is.0.octets; built = end_steps rules p.near (Offers unit) is.0 }, is.1)
pair_near rules p Build is = (record { octets = is.0.octets; built = end_steps rules p.near Builds is.0 }, is.1)
pair_near rules p Arrive is = pair_arrives rules p p.back is
pair_near rules p Lose is = pair_loses p p.back is
pair_near rules p Tick is = (record { octets = is.0.octets; built = end_steps rules p.near Ticks is.0 }, is.1)

pair_happens : (rules : Rules) (p : Pair) (e : At) → BothListed p → BothListed (happens rules p e)
pair_happens rules p (Near e) is = pair_near rules p e is
pair_happens rules p (Far e) is = let now = pair_near rules (turned p) e (is.1, is.0) in (now.1, now.0)

pair_after : (rules : Rules) (p : Pair) (events : List At) → BothListed p → BothListed (after rules p events)
pair_after rules p [] is = is
pair_after rules p (e ∷ events) is = pair_after rules (happens rules p e) events (pair_happens rules p e is)

-- what is in flight has the body of its number
line_listed : (d : ℕ) (s : Sender) (line : List Block) → IsListed d s → LineIs s.bodies line → AreListed d s line
line_listed d s [] is has = tt
line_listed d s (Payload k poll body ∷ line) is has = (has.0, subst (IsBody d (joined s.accepted) (listed_pdu d s k)) (sym has.1) (listed_body d s k is has.0), line_listed d s line is has.2)
line_listed d s (Mrw k n end_of_discard ∷ line) is has = line_listed d s line is has.1
line_listed d s (Report t ∷ line) is has = line_listed d s line is has

pub always_listed : (rules : Rules) (first second : ℕ) (events : List At) → rules.window ≤ 2048 → 3 ≤ first → 3 ≤ second → IsListedPair (after rules (opened rules first second) events)
always_listed rules first second events small a b =
    let p : Pair = after rules (opened rules first second) events in
    let both : Both rules p = both_after rules events (opened rules first second) small (opened_both rules first second) in
    let is : BothListed p = pair_after rules (opened rules first second) events (record { octets = a; built = listed_opens (first - 2) }, record { octets = b; built = listed_opens (second - 2) }) in
    record {
      near_far = record { built = is.0.built; in_flight = line_listed (p.near.octets - 2) p.near.entity.sender p.out is.0.built both.out.line_is };
      far_near = record { built = is.1.built; in_flight = line_listed (p.far.octets - 2) p.far.entity.sender p.back is.1.built both.back.line_is };
    }
