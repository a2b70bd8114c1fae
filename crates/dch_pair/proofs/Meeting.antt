-- Two entities after what is done at one of them.
use Rattle.std.proofs.Common.{◌≡◌, ◌+◌, ◌-◌, ◌<◌, ℕ, zero, suc, List, [], ◌∷◌, ◌++◌, Bool, true, false, Option, Some, None, length, get_or, map, take, append_assoc, arith, refl, sym, ap, ◌∙◌, subst}
use Rattle.std.proofs.lemmas.List.{append-nil}
use Rattle.dch_am.specs.Entities.{Build as Builds, Come, Entity, IsWritten, Offer as Offers, Tick as Ticks, step, turn, writes}
use Rattle.dch_am.specs.Rules.{Rules}
use Rattle.dch_rlcpdu.specs.Am.{am_reading}
use Rattle.dch_amlaw.specs.Pair.{At, Block, Far, Mrw, Near, Offer, Pair, Payload, Report, Tick, after, all_handed, arrives, built, builds_one, happens, happens_near, loses, opened, pdu_in, sent_on, stepped, turned}
use Rattle.dch_pair.specs.Running.{by_first, end_of, fate, flipped, history, pair_after, rules_in, seen}
use Rattle.dch_pair.specs.declared.setup.PairSetup.{PairSetup}
use Rattle.dch_pair.specs.declared.setup.PairEvent.{PairEvent}
use Rattle.dch_pair.specs.Standing.{AreRunning, AreSame, IsAt, IsPeer, Peer, hears, nothing_earlier, size_of}
use Rattle.dch_pair.proofs.Lines.{IsSent, none_sent, wire_does, written_sent}

-- the sizes stay
at_after : (rules : Rules) (v now : Peer) (e x : Entity) (out into : ℕ) → IsAt rules v e out into → AreSame v now → IsPeer rules now nothing_earlier x → IsAt rules now x out into
at_after rules v now e x out into at same is = record { peer = is; size = same.out ∙ at.size; comes = same.in_ ∙ at.comes; least = at.least; most = at.most }

-- a block that was built arrives or is lost
abbrev pub landed : Rules → Bool → Pair → Pair
landed rules is_kept q = turned (happens_near rules (turned q) (fate is_kept))

-- nothing is in flight
still : (rules : Rules) (first second : Peer) (q : Pair) (is_kept : Bool) → AreRunning rules first second q → AreRunning rules first second (landed rules is_kept q)
still rules first second q true is = subst (λ line. AreRunning rules first second (turned (arrives rules (turned q) line))) (sym is.out) is
still rules first second q false is = subst (λ line. AreRunning rules first second (turned (loses (turned q) line))) (sym is.out) is

-- the only block is lost
lost : (rules : Rules) (first second : Peer) (q : Pair) (b : Block) → q.out ≡ b ∷ [] → q.back ≡ [] → IsAt rules first q.near.entity q.near.octets q.far.octets → IsAt rules second q.far.entity q.far.octets q.near.octets → AreRunning rules first second (landed rules false q)
lost rules first second q b line none near far = subst (λ l. AreRunning rules first second (turned (loses (turned q) l))) (sym line) (record { near = near; far = far; out = refl; back = none })

-- the only block arrives
arrived : (rules : Rules) (first second : Peer) (q : Pair) (b : Block) → q.out ≡ b ∷ [] → q.back ≡ [] → IsAt rules first q.near.entity q.near.octets q.far.octets → IsAt rules second (all_handed (step rules q.far.octets q.far.entity (Come (pdu_in b)))) q.far.octets q.near.octets → AreRunning rules first second (landed rules true q)
arrived rules first second q b line none near far = subst (λ l. AreRunning rules first second (turned (arrives rules (turned q) l))) (sym line) (comes b far)
  where
    comes : (c : Block) → IsAt rules second (all_handed (step rules q.far.octets q.far.entity (Come (pdu_in c)))) q.far.octets q.near.octets → AreRunning rules first second (turned (arrives rules (turned q) (c ∷ [])))
    comes (Payload k poll body) is = record { near = near; far = is; out = refl; back = none }
    comes (Mrw k n end_of_discard) is = record { near = near; far = is; out = refl; back = none }
    comes (Report t) is = record { near = near; far = is; out = refl; back = none }

-- a pair whose near end has built, and sends this
abbrev pub sending : Rules → Pair → Option Block → Pair
sending rules p b = record { near = stepped rules p.near Builds; far = p.far; out = sent_on p.out b; back = p.back }

built_at : (rules : Rules) (first now : Peer) (p : Pair) → IsAt rules first p.near.entity p.near.octets p.far.octets → AreSame first now → IsPeer rules now nothing_earlier (step rules (size_of first) p.near.entity Builds) → IsAt rules now (step rules p.near.octets p.near.entity Builds) p.near.octets p.far.octets
built_at rules first now p at same is = at_after rules first now p.near.entity (step rules p.near.octets p.near.entity Builds) p.near.octets p.far.octets at same (subst (λ n. IsPeer rules now nothing_earlier (step rules n p.near.entity Builds)) at.size is)

-- after a build of which nothing arrives
pub meets_none : (rules : Rules) (first now second : Peer) (p : Pair) (is_kept result : Bool) → AreRunning rules first second p → AreSame first now → result ≡ writes (turn rules p.near.entity.sender p.near.entity.receiver) → IsPeer rules now nothing_earlier (step rules (size_of first) p.near.entity Builds) → ((result ≡ true) → is_kept ≡ false) → AreRunning rules now second (landed rules is_kept (builds_one rules p))
meets_none rules first now second p is_kept result is same wrote peer unmet = go (built rules p.near) result refl refl
  where
    at : IsAt rules now (step rules p.near.octets p.near.entity Builds) p.near.octets p.far.octets
    at = built_at rules first now p is.near same peer

    go : (b : Option Block) (w : Bool) → built rules p.near ≡ b → result ≡ w → AreRunning rules now second (landed rules is_kept (sending rules p b))
    go None w e f = still rules now second (sending rules p None) is_kept (record { near = at; far = is.far; out = is.out; back = is.back })
    go (Some b) true e f = subst (λ x. AreRunning rules now second (landed rules x (sending rules p (Some b)))) (sym (unmet f)) (lost rules now second (sending rules p (Some b)) b (ap (λ l. l ++ b ∷ []) is.out) is.back at is.far)
    go (Some b) false e f =
        let none : built rules p.near ≡ None = none_sent (turn rules p.near.entity.sender p.near.entity.receiver) rules p.near (sym f ∙ wrote) in
        absurd (cc)

-- after one that arrives
pub meets_block : (rules : Rules) (first now second then_ : Peer) (p : Pair) (out : List ℕ) → AreRunning rules first second p → AreSame first now → AreSame second then_ → true ≡ writes (turn rules p.near.entity.sender p.near.entity.receiver) → IsWritten (turn rules p.near.entity.sender p.near.entity.receiver) rules (size_of first) out p.near.entity.sender p.near.entity.receiver → IsPeer rules now nothing_earlier (step rules (size_of first) p.near.entity Builds) → IsPeer rules then_ nothing_earlier (hears rules (size_of second) (am_reading out) p.far.entity) → AreRunning rules now then_ (landed rules true (builds_one rules p))
meets_block rules first now second then_ p out is same same_far wrote written peer heard =
    go (built rules p.near) (written_sent (turn rules p.near.entity.sender p.near.entity.receiver) rules p.near out is.near.most refl wrote (subst (λ n. IsWritten (turn rules p.near.entity.sender p.near.entity.receiver) rules n out p.near.entity.sender p.near.entity.receiver) is.near.size written))
  where
    at : IsAt rules now (step rules p.near.octets p.near.entity Builds) p.near.octets p.far.octets
    at = built_at rules first now p is.near same peer

    far : (x : Entity) → hears rules (size_of second) (am_reading out) p.far.entity ≡ x → IsAt rules then_ x p.far.octets p.near.octets
    far x e = at_after rules second then_ p.far.entity x p.far.octets p.near.octets is.far same_far (subst (IsPeer rules then_ nothing_earlier) e heard)

    go : (b : Option Block) → IsSent (p.near.octets - 2) out b → AreRunning rules now then_ (landed rules true (sending rules p b))
    go None sent = absurd sent
    go (Some b) sent = arrived rules now then_ (sending rules p (Some b)) b (ap (λ l. l ++ b ∷ []) is.out) is.back at (far (all_handed (step rules p.far.octets p.far.entity (Come (pdu_in b)))) (wire_does rules (p.near.octets - 2) (size_of second) out p.far.entity b sent))

-- after an offer, and after a tick
pub meets_offer : (rules : Rules) (first now second : Peer) (p : Pair) (unit given : List ℕ) → unit ≡ given → AreRunning rules first second p → AreSame first now → IsPeer rules now nothing_earlier (step rules (size_of first) p.near.entity (Offers unit)) → AreRunning rules now second (happens_near rules p (Offer given))
meets_offer rules first now second p unit given e is same peer = record {
  near = at_after rules first now p.near.entity (step rules p.near.octets p.near.entity (Offers given)) p.near.octets p.far.octets is.near same (subst (λ u. IsPeer rules now nothing_earlier (step rules p.near.octets p.near.entity (Offers u))) e peer);
  far = is.far;
  out = is.out;
  back = is.back;
}

pub meets_tick : (rules : Rules) (first now second : Peer) (p : Pair) → AreRunning rules first second p → AreSame first now → IsPeer rules now nothing_earlier (step rules (size_of first) p.near.entity Ticks) → AreRunning rules now second (happens_near rules p Tick)
meets_tick rules first now second p is same peer = record {
  near = at_after rules first now p.near.entity (step rules p.near.octets p.near.entity Ticks) p.near.octets p.far.octets is.near same peer;
  far = is.far;
  out = is.out;
  back = is.back;
}

-- what an end sees, the other one sees flipped
pub after-flipped : (rules : Rules) (p : Pair) (events : List At) → after rules p (map flipped events) ≡ turned (after rules (turned p) events)
after-flipped rules p [] = refl
after-flipped rules p (Near e ∷ events) = after-flipped rules (happens rules p (Far e)) events
after-flipped rules p (Far e ∷ events) = after-flipped rules (happens rules p (Near e)) events

pub running_turned : (rules : Rules) (first second : Peer) (p : Pair) → AreRunning rules first second p → AreRunning rules second first (turned p)
running_turned rules first second p is = record { near = is.far; far = is.near; out = is.back; back = is.out }

pub after-append : (rules : Rules) (p : Pair) (xs ys : List At) → after rules p (xs ++ ys) ≡ after rules (after rules p xs) ys
after-append rules p [] ys = refl
after-append rules p (x ∷ xs) ys = after-append rules (happens rules p x) xs ys

-- a history goes on by one event
pub history-next : (octets : List ℕ) (events : List PairEvent) (i : ℕ) (d : PairEvent) → i < length events → history octets (take (i + 1) events) ≡ history octets (take i events) ++ by_first (end_of (get_or events i d)) (seen octets (get_or events i d))
history-next octets [] i d l = absurd (omega arith)
history-next octets (x ∷ events) zero d l = append-nil (by_first (end_of x) (seen octets x))
history-next octets (x ∷ events) (suc i) d l =
    let n : suc i + 1 ≡ suc (i + 1) = omega arith in
    rw n (ap (λ es. by_first (end_of x) (seen octets x) ++ es) (history-next octets events i d (omega arith))
    ∙ sym (append_assoc (by_first (end_of x) (seen octets x)) (history octets (take i events)) (by_first (end_of (get_or events i d)) (seen octets (get_or events i d)))))

-- what is done next goes on with what the two stand for
pub runs_on : (setup : PairSetup) (octets : List ℕ) (events : List PairEvent) (i : ℕ) (d : PairEvent) (first second : Peer) → i < length events → AreRunning (rules_in setup) first second (after (rules_in setup) (pair_after setup (history octets (take i events))) (by_first (end_of (get_or events i d)) (seen octets (get_or events i d)))) → AreRunning (rules_in setup) first second (pair_after setup (history octets (take (i + 1) events)))
runs_on setup octets events i d first second l is =
    subst (λ es. AreRunning (rules_in setup) first second (pair_after setup es)) (sym (history-next octets events i d l))
    (subst (AreRunning (rules_in setup) first second) (sym (after-append (rules_in setup) (opened (rules_in setup) setup.first_pdu setup.second_pdu) (history octets (take i events)) (by_first (end_of (get_or events i d)) (seen octets (get_or events i d))))) is)
