-- An end with its counts, after what happens to it.
use Rattle.std.proofs.Common.{◌≡◌, ◌+◌, ◌≤◌, ◌⊎◌, ⊎_elim, ℕ, List, [], ◌∷◌, ◌++◌, Bool, true, false, cond, length, drop, append_assoc, Option, Some, None, arith, refl, sym, ap, ap₂, ◌∙◌, subst, length-append}
use Rattle.std.specs.Prelude.{◌==◌}
use Rattle.std.proofs.lemmas.List.{append-nil}
use Rattle.std.proofs.Math.Seq.{drop-append_seam}
use Rattle.dch_bits.specs.declared.offer.Offer.{Offer}
use Rattle.dch_bits.specs.declared.offer.Offer.TheVariants.{Accepted, Full, WrongSize}
use Rattle.dch_am.specs.Entities.{Entity, receiver_by, turn as entity_turn}
use Rattle.dch_am.specs.Receiver.{Receiver}
use Rattle.dch_am.specs.Bodies.{Reading}
use Rattle.dch_am.specs.Rules.{Rules}
use Rattle.dch_amlaw.specs.Pair.{Block, Payload, Mrw, Report, End, pdu_in, takes}
use Rattle.dch_pair.specs.Standing.{whole}
use Rattle.dch_pair.proofs.Peers.{read_same, rests}
use Rattle.dch_pair.proofs.Units.{Grown, grown_by_pdu, whole-append, whole-map}
use Rattle.dch_reset.specs.History.{IsAllHanded, handed_up, pdu_sent, state_of}
use Rattle.dch_reset.specs.Standing.{Represents, Running, waiting_in}
use Rattle.dch_reset.specs.State.{Asks, Come, State, Waits, after_turn, restarted, step, taken_by, turn_by, writes}
use Rattle.dch_reset.proofs.Calls.{came_block, hears_is}
use Rattle.dch_reset.specs.Ends.{Built, Pending, ResetEnd, Sent, Data, ResetPdu, ResetAckPdu, builds_by, hears, hears_data, hfni_of, is_asked, is_heard, offers, resets_by, restarted as history_restarted, taken_up, ticks}
use Rattle.dch_reset.specs.Law.{handed, handed_in}
use Rattle.dch_reset.proofs.Short.{hears_same}
use Rattle.dch_reset.specs.RunStanding.{IsPeer, Peer, size_of}

-- an accepted unit is counted
pub offer_count : (o : Offer) (accepted : List (List ℕ)) (unit : List ℕ) (n : ℕ) → Accepted ≡ o → n ≡ length accepted → n + 1 ≡ length (accepted ++ taken_up o unit)
offer_count Accepted accepted unit n e is = omega (arith, is, length-append accepted (unit ∷ []))
offer_count Full accepted unit n e is = absurd (cc)
offer_count WrongSize accepted unit n e is = absurd (cc)

pub refused_count : (o : Offer) (accepted : List (List ℕ)) (unit : List ℕ) (n : ℕ) → (o ≡ Full) ⊎ (o ≡ WrongSize) → n ≡ length accepted → n ≡ length (accepted ++ taken_up o unit)
refused_count Accepted accepted unit n e is = absurd (⊎_elim (λ (f : Accepted ≡ Full). let r : ⊥ = cc in r) (λ (f : Accepted ≡ WrongSize). let r : ⊥ = cc in r) e)
refused_count Full accepted unit n e is = is ∙ ap length (sym (append-nil accepted))
refused_count WrongSize accepted unit n e is = is ∙ ap length (sym (append-nil accepted))

-- an end after an offer, which hands up nothing
pub peer_offers : (rules : Rules) (v : Peer) (now : Running) (e : ResetEnd) (unit : List ℕ) (count : ℕ) → IsPeer rules v e → Represents rules now (state_of (offers rules e unit)) → size_of (record v { end = now }) ≡ size_of v → count ≡ length (offers rules e unit).accepted → IsPeer rules (record { end = now; accepted = count; units = v.units }) (offers rules e unit)
peer_offers rules v now e unit count is end size counted = record { end = end; size = size ∙ is.size; least = is.least; most = is.most; all_handed = is.all_handed; accepted = counted; units = is.units }

-- what changes neither the accepted units nor those that are handed up
pub record Keeps (e now : ResetEnd) : Type 0 where
  pub octets : now.sides.octets ≡ e.sides.octets
  pub accepted : now.accepted ≡ e.accepted
  pub handed_is : handed now ≡ handed e
  pub all_handed : IsAllHanded (state_of e) → IsAllHanded (state_of now)

-- an end with the same counts
pub peer_keeps : (rules : Rules) (v now : Peer) (e next : ResetEnd) → IsPeer rules v e → Keeps e next → Represents rules now.end (state_of next) → size_of now ≡ size_of v → now.accepted ≡ v.accepted → now.units ≡ v.units → IsPeer rules now next
peer_keeps rules v now e next is keeps end size accepted units = record {
  end = end;
  size = size ∙ is.size ∙ sym keeps.octets;
  least = subst (λ n. 6 ≤ n) (sym keeps.octets) is.least;
  most = subst (λ n. n ≤ 126) (sym keeps.octets) is.most;
  all_handed = keeps.all_handed is.all_handed;
  accepted = accepted ∙ is.accepted ∙ ap length (sym keeps.accepted);
  units = units ∙ is.units ∙ ap whole (sym keeps.handed_is);
}

-- by a build
built_data : (rules : Rules) (e : ResetEnd) (r : Receiver) → r.reading ≡ e.sides.entity.receiver.reading → handed_in e.stretches ++ r.reading.units ≡ handed e
built_data rules e r same = ap (λ (x : Reading). handed_in e.stretches ++ x.units) same

pub built_keeps : (rules : Rules) (e : ResetEnd) (owes : Bool) (q : Option Pending) → Keeps e (builds_by rules e owes q).after
built_keeps rules e true q = record { octets = refl; accepted = refl; handed_is = refl; all_handed = λ h. h }
built_keeps rules e false (Some p) = go (p.rst_timer == 0)
  where
    go : (t : Bool) → Keeps e (cond {A = Built} t (record { after = record e { pending = Some (record p { rst_timer = 30 }) }; sent = Some (ResetPdu p.rsn (hfni_of e.restarts)) }) (record { after = e; sent = None })).after
    go true = record { octets = refl; accepted = refl; handed_is = refl; all_handed = λ h. h }
    go false = record { octets = refl; accepted = refl; handed_is = refl; all_handed = λ h. h }
built_keeps rules e false None =
    let same = read_same (entity_turn rules e.sides.entity.sender e.sides.entity.receiver) rules e.sides.entity.receiver in
    record { octets = refl; accepted = refl; handed_is = ap (λ (x : Reading). handed_in e.stretches ++ x.units) same; all_handed = λ h. h ∙ ap (λ (x : Reading). length x.units) (sym same) }

-- where nothing is built nothing changes
pub rests_by : (rules : Rules) (size : ℕ) (e : State) (owes : Bool) (q : Option Pending) → false ≡ writes (turn_by rules e.entity owes q) → after_turn (turn_by rules e.entity owes q) rules size e ≡ e
rests_by rules size e true q none = absurd (cc)
rests_by rules size e false (Some p) none = go (p.rst_timer == 0) none
  where
    go : (t : Bool) → false ≡ writes (cond t Asks Waits) → after_turn (cond t Asks Waits) rules size e ≡ e
    go true w = absurd (cc)
    go false w = refl
rests_by rules size e false None none = ap (λ (x : Entity). record e { entity = x }) (rests (entity_turn rules e.entity.sender e.entity.receiver) rules size e.entity none)

-- by a reset and by a tick
pub resets_keeps : (e : ResetEnd) (q : Option Pending) → Keeps e (resets_by e q)
resets_keeps e None = record { octets = refl; accepted = refl; handed_is = refl; all_handed = λ h. h }
resets_keeps e (Some p) = record { octets = refl; accepted = refl; handed_is = refl; all_handed = λ h. h }

pub ticks_keeps : (rules : Rules) (e : ResetEnd) → Keeps e (ticks rules e)
ticks_keeps rules e = record { octets = refl; accepted = refl; handed_is = refl; all_handed = λ h. h }

-- What comes: the units that then wait are those that are handed up next.
drop_all : (units : List (List ℕ)) (n : ℕ) → n ≡ length units → drop n units ≡ []
drop_all units n e = ap (λ k. drop k units) e ∙ ap (λ us. drop (length units) us) (sym (append-nil units)) ∙ drop-append_seam units []

none_new : (e : ResetEnd) (n : ℕ) → n ≡ length e.sides.entity.receiver.reading.units → handed e ≡ handed e ++ drop n e.sides.entity.receiver.reading.units
none_new e n is = sym (append-nil (handed e)) ∙ ap (λ us. handed e ++ us) (sym (drop_all e.sides.entity.receiver.reading.units n is))

taken_units : (rules : Rules) (e : End) (b : Block) → (takes rules e b).entity.receiver.reading.units ≡ (receiver_by rules (pdu_in b) e.entity.receiver).reading.units
taken_units rules e (Payload k poll body) = refl
taken_units rules e (Mrw k n end_of_discard) = refl
taken_units rules e (Report t) = refl

data_new : (rules : Rules) (e : ResetEnd) (label : ℕ) (b : Block) (q : Option Pending) → IsAllHanded (state_of e) → handed (hears_data rules e q label b) ≡ handed e ++ drop (taken_by rules e.sides.octets (state_of e) q (pdu_in b)).entity.handed (taken_by rules e.sides.octets (state_of e) q (pdu_in b)).entity.receiver.reading.units
data_new rules e label b (Some p) is = none_new e e.sides.entity.handed is
data_new rules e label b None is =
    let units = e.sides.entity.receiver.reading.units in
    let grown : Grown units (receiver_by rules (pdu_in b) e.sides.entity.receiver).reading.units = grown_by_pdu rules (pdu_in b) e.sides.entity.receiver in
    ap (λ us. handed_in e.stretches ++ us) (taken_units rules e.sides b ∙ grown.is)
    ∙ (sym (append_assoc (handed_in e.stretches) units grown.more)
    ∙ ap (λ us. handed e ++ us) (sym (ap₂ (λ n us. drop n us) is grown.is ∙ drop-append_seam units grown.more)))

abbrev pub NewUnits : ResetEnd → ResetEnd → State → Type 0
NewUnits e next s = handed next ≡ handed e ++ drop s.entity.handed s.entity.receiver.reading.units

reset_new : (rules : Rules) (e : ResetEnd) (rsn t : Bool) → IsAllHanded (state_of e) → NewUnits e (cond t (record e { owes = true }) (record (history_restarted rules e) { heard = Some rsn; owes = true })) (cond t (record (state_of e) { owes = true }) (record (restarted rules (state_of e)) { heard = Some rsn; owes = true }))
reset_new rules e rsn true is = none_new e e.sides.entity.handed is
reset_new rules e rsn false is = refl

reset_ack_new : (rules : Rules) (e : ResetEnd) (t : Bool) → IsAllHanded (state_of e) → NewUnits e (cond t (record (history_restarted rules e) { pending = None }) e) (cond t (record (restarted rules (state_of e)) { pending = None }) (state_of e))
reset_ack_new rules e true is = refl
reset_ack_new rules e false is = none_new e e.sides.entity.handed is

new_units : (rules : Rules) (e : ResetEnd) (s : Sent) → IsAllHanded (state_of e) → NewUnits e (hears rules e s) (step rules e.sides.octets (state_of e) (Come (pdu_sent s)))
new_units rules e (Data label b) is = subst (NewUnits e (hears_data rules e e.pending label b)) (sym (came_block rules e.sides.octets (state_of e) b)) (data_new rules e label b e.pending is)
new_units rules e (ResetPdu rsn hfni) is = reset_new rules e rsn (is_heard e.heard rsn) is
new_units rules e (ResetAckPdu rsn hfni) is = reset_ack_new rules e (is_asked e.pending rsn) is

-- PDUs keep their size
takes_octets : (rules : Rules) (e : End) (b : Block) → (takes rules e b).octets ≡ e.octets
takes_octets rules e (Payload k poll body) = refl
takes_octets rules e (Mrw k n end_of_discard) = refl
takes_octets rules e (Report t) = refl

data_octets : (rules : Rules) (e : ResetEnd) (label : ℕ) (b : Block) (q : Option Pending) → (hears_data rules e q label b).sides.octets ≡ e.sides.octets
data_octets rules e label b (Some p) = refl
data_octets rules e label b None = takes_octets rules e.sides b

either_octets : (t : Bool) (a b : ResetEnd) (n : ℕ) → a.sides.octets ≡ n → b.sides.octets ≡ n → (cond t a b).sides.octets ≡ n
either_octets true a b n x y = x
either_octets false a b n x y = y

hears_octets : (rules : Rules) (e : ResetEnd) (s : Sent) → (hears rules e s).sides.octets ≡ e.sides.octets
hears_octets rules e (Data label b) = data_octets rules e label b e.pending
hears_octets rules e (ResetPdu rsn hfni) = either_octets (is_heard e.heard rsn) (record e { owes = true }) (record (history_restarted rules e) { heard = Some rsn; owes = true }) e.sides.octets refl refl
hears_octets rules e (ResetAckPdu rsn hfni) = either_octets (is_asked e.pending rsn) (record (history_restarted rules e) { pending = None }) e e.sides.octets refl refl

-- after a PDU came and its units are handed up
pub peer_hears : (rules : Rules) (v : Peer) (came_ now : Running) (units : List (List ℕ)) (e : ResetEnd) (s : Sent) → IsPeer rules v e → Represents rules came_ (step rules e.sides.octets (state_of e) (Come (pdu_sent s))) → size_of (record { end = now; accepted = v.accepted; units = units }) ≡ size_of v → units ≡ v.units ++ whole (waiting_in came_) → Represents rules now (handed_up (step rules e.sides.octets (state_of e) (Come (pdu_sent s)))) → IsPeer rules (record { end = now; accepted = v.accepted; units = units }) (hears rules e s)
peer_hears rules v came_ now units e s is heard size more end = record {
  end = subst (Represents rules now) (sym same) end;
  size = size ∙ is.size ∙ sym (hears_octets rules e s);
  least = subst (λ n. 6 ≤ n) (sym (hears_octets rules e s)) is.least;
  most = subst (λ n. n ≤ 126) (sym (hears_octets rules e s)) is.most;
  all_handed = subst IsAllHanded (sym same) refl;
  accepted = is.accepted ∙ ap length (sym (hears_same rules e s));
  units = more ∙ (ap₂ (λ us vs. us ++ vs) is.units waits ∙ (sym (whole-append (handed e) (drop next.entity.handed next.entity.receiver.reading.units)) ∙ ap whole (sym (new_units rules e s is.all_handed))));
}
  where
    next : State
    next = step rules e.sides.octets (state_of e) (Come (pdu_sent s))

    same : state_of (hears rules e s) ≡ handed_up (step rules e.sides.octets (state_of e) (Come (pdu_sent s)))
    same = hears_is rules e s is.all_handed

    waits : whole (waiting_in came_) ≡ whole (drop (step rules e.sides.octets (state_of e) (Come (pdu_sent s))).entity.handed (step rules e.sides.octets (state_of e) (Come (pdu_sent s))).entity.receiver.reading.units)
    waits = ap whole heard.entity.receiver.units.waiting ∙ whole-map (drop (step rules e.sides.octets (state_of e) (Come (pdu_sent s))).entity.handed (step rules e.sides.octets (state_of e) (Come (pdu_sent s))).entity.receiver.reading.units)
