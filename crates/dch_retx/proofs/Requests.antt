-- The places of the PDUs that are requested, as a set has them.
use Rattle.std.proofs.Common.{◌≡◌, ◌≢◌, ◌+◌, ◌-◌, ◌<◌, ◌≤◌, ℕ, zero, suc, List, [], ◌∷◌, ◌++◌, Bool, true, false, cond, not, length, set, drop, arith, refl, sym, ap, ◌∙◌, subst, ⊎_elim, get_or-set_other, get_or-set_same, length-append, length-drop, length-set}
use Rattle.std.specs.Prelude.{nat_le, nat_lt}
use Rattle.std.proofs.lemmas.Bool.{cases_eq, cases_lt, false_from_ne_true}
use Rattle.std.proofs.lemmas.Bool.Decides.{nat_tests}
use Rattle.std.proofs.lemmas.List.{get_or-drop}
use Rattle.circular_buffer.specs.Buffer.{Buffer, buffer}
use Rattle.dch_retx.specs.declared.sent_pdu.SentPdu.{SentPdu}
use Rattle.dch_retx.specs.RequestSet.{RequestSet, is_in}
use Rattle.dch_retx.specs.Flights.{at, blank, changed_below, first_requested, front_acked, request_cleared, requested_in, AreLinked, AreRequests, IsFirstRequested, IsFlight}
use Rattle.dch_retx.proofs.Changes.{changed_behind, changed_more, inside, requested_some}
use Rattle.dch_retx.proofs.Fronts.{front_le}
use Rattle.dch_retx.proofs.Skips.{requested_high}

-- one place is changed, in the set and among the PDUs
pub requests_set : (old new : RequestSet) (in_flight : List SentPdu) (i : ℕ) (f : SentPdu) → i < length in_flight → is_in new i ≡ f.requested → ((j : ℕ) → j < 4096 → j ≢ i → is_in new j ≡ is_in old j) → AreRequests old in_flight → AreRequests new (set in_flight i f)
requests_set old new in_flight i f l here others is j small = ⊎_elim
    (λ (q : j ≡ i). subst (λ k. is_in new k ≡ (at (set in_flight i f) k).requested) (sym q) (here ∙ sym (ap (λ (x : SentPdu). x.requested) (get_or-set_same in_flight i f blank l))))
    (λ (q : j ≢ i). others j small q ∙ (is j small ∙ sym (ap (λ (x : SentPdu). x.requested) (get_or-set_other in_flight i j f blank q))))
    (cases_eq j i)

-- one PDU is changed, and is requested or not as it was
pub requests_same : (requests : RequestSet) (in_flight : List SentPdu) (i : ℕ) (f : SentPdu) → i < length in_flight → i < 4096 → f.requested ≡ (at in_flight i).requested → AreRequests requests in_flight → AreRequests requests (set in_flight i f)
requests_same requests in_flight i f l small e is = requests_set requests requests in_flight i f l (is i small ∙ sym e) (λ j m apart. refl) is

-- one that isn't requested comes behind
requested_push : (in_flight : List SentPdu) (f : SentPdu) (i : ℕ) → f.requested ≡ false → (at (in_flight ++ f ∷ []) i).requested ≡ (at in_flight i).requested
requested_push [] f zero e = e
requested_push [] f (suc i) e = refl
requested_push (x ∷ in_flight) f zero e = refl
requested_push (x ∷ in_flight) f (suc i) e = requested_push in_flight f i e

counted_push : (in_flight : List SentPdu) (f : SentPdu) → f.requested ≡ false → requested_in (in_flight ++ f ∷ []) ≡ requested_in in_flight
counted_push [] f e = ap (λ b. cond {A = ℕ} b 1 0) e
counted_push (x ∷ in_flight) f e = ap (λ n. cond x.requested (suc n) n) (counted_push in_flight f e)

-- none is requested behind the last
requested_behind : (in_flight : List SentPdu) (i : ℕ) → length in_flight ≤ i → (at in_flight i).requested ≡ false
requested_behind in_flight i l = false_from_ne_true (at in_flight i).requested (λ e. omega (arith, inside in_flight i e))

-- a front leaves of which none is requested
pub requests_left : (old new : RequestSet) (n : ℕ) (in_flight : List SentPdu) (skips : List ℕ) → n ≤ front_acked in_flight → length in_flight ≤ 2048 → ((i : ℕ) → n + i < 4096 → is_in new i ≡ is_in old (n + i)) → ((i : ℕ) → i < n → is_in new (4096 - n + i) ≡ is_in old i) → AreLinked in_flight skips → AreRequests old in_flight → AreRequests new (drop n in_flight)
requests_left old new n in_flight skips l few nearer behind linked is i small = ⊎_elim
    (λ (m : n + i < 4096). nearer i m ∙ (is (n + i) m ∙ ap (λ (x : SentPdu). x.requested) (sym (get_or-drop n in_flight i blank))))
    (λ (m : 4096 ≤ n + i). subst (λ k. is_in new k ≡ false) (place m) (behind (n + i - 4096) (before m) ∙ (is (n + i - 4096) (omega (arith, size)) ∙ front m)) ∙ sym (last m))
    (cases_lt (n + i) 4096)
  where
    size : front_acked in_flight ≤ length in_flight
    size = front_le in_flight

    before : 4096 ≤ n + i → n + i - 4096 < n
    before m = omega arith

    place : 4096 ≤ n + i → 4096 - n + (n + i - 4096) ≡ i
    place m = omega (arith, size)

    front : 4096 ≤ n + i → (at in_flight (n + i - 4096)).requested ≡ false
    front m = false_from_ne_true (at in_flight (n + i - 4096)).requested (λ e. omega (arith, requested_high in_flight skips (n + i - 4096) linked e, before m))

    last : 4096 ≤ n + i → (at (drop n in_flight) i).requested ≡ false
    last m = requested_behind (drop n in_flight) i (omega (arith, length-drop n in_flight))

-- the next place in the set is that of the first that is requested from a place on
pub next_first : (requests : RequestSet) (in_flight : List SentPdu) (place next : ℕ) → length in_flight ≤ 2048 → place ≤ next → next ≤ length in_flight → ((i : ℕ) → place ≤ i → i < next → is_in requests i ≡ false) → (next < length in_flight → is_in requests next ≡ true) → AreRequests requests in_flight → IsFirstRequested (drop place in_flight) (next - place)
next_first requests in_flight place next few from within before here is = record {
  before = λ i l. ap (λ (x : SentPdu). x.requested) (get_or-drop place in_flight i blank) ∙ (sym (is (place + i) (omega arith)) ∙ before (place + i) (omega arith) (omega arith));
  here = λ l.
      let there : next < length in_flight = omega (arith, length-drop place in_flight) in
      let same : next ≡ place + (next - place) = omega arith in
      ap (λ (x : SentPdu). x.requested) (get_or-drop place in_flight (next - place) blank) ∙ subst (λ k. (at in_flight k).requested ≡ true) same (sym (is next (omega arith)) ∙ here there);
  within = omega (arith, length-drop place in_flight);
}

-- none is requested where so many are
pub none_first : (in_flight : List SentPdu) → requested_in in_flight ≡ 0 → IsFirstRequested in_flight (length in_flight)
none_first in_flight none = record {
  before = λ i less. false_from_ne_true (at in_flight i).requested (λ e. omega (arith, none, requested_some in_flight i e));
  here = λ within. absurd (omega (arith, within));
  within = omega arith;
}

-- some are requested where a first one is
pub none_requested : (in_flight : List SentPdu) → not (nat_lt 0 (requested_in in_flight)) ≡ nat_le (length in_flight) (first_requested in_flight)
none_requested [] = refl
none_requested (f ∷ in_flight) = go f.requested (none_requested in_flight)
  where
    go : (b : Bool) → not (nat_lt 0 (requested_in in_flight)) ≡ nat_le (length in_flight) (first_requested in_flight) → not (nat_lt 0 (cond b (suc (requested_in in_flight)) (requested_in in_flight))) ≡ nat_le (suc (length in_flight)) (cond b 0 (suc (first_requested in_flight)))
    go true e = some (requested_in in_flight) (length in_flight)
      where
        some : (m n : ℕ) → not (nat_lt 0 (suc m)) ≡ nat_le (suc n) 0
        some m n = grind (arith, nat_tests)
    go false e = e ∙ later (length in_flight) (first_requested in_flight)
      where
        later : (m n : ℕ) → nat_le m n ≡ nat_le (suc m) (suc n)
        later m n = grind (arith, nat_tests)

-- those that aren't requested stay as they are where requests are cleared
cleared_same : (f : SentPdu) → f.requested ≡ false → request_cleared f ≡ f
cleared_same f e = ap (λ b. record f { requested = b }) (sym e)

pub cleared_to : (requests : RequestSet) (k next : ℕ) (in_flight : List SentPdu) → k ≤ next → next ≤ length in_flight → length in_flight ≤ 2048 → ((i : ℕ) → k ≤ i → i < next → is_in requests i ≡ false) → AreRequests requests (changed_below request_cleared k in_flight) → changed_below request_cleared k in_flight ≡ changed_below request_cleared next in_flight
cleared_to requests k next in_flight from within few before is = sym (changed_more request_cleared k next in_flight from (λ i a b c. cleared_same (at in_flight i) (sym (ap (λ (x : SentPdu). x.requested) (changed_behind request_cleared k in_flight i a)) ∙ (sym (is i (omega arith)) ∙ before i a b))))

-- one PDU of the flight is changed
pub flight_set : (flight now : Buffer SentPdu) (skips : Buffer ℕ) (old new : RequestSet) (count many i : ℕ) (f : SentPdu) → now ≡ buffer (set flight.items i f) flight.capacity → many ≡ requested_in (set flight.items i f) → AreRequests new (set flight.items i f) → AreLinked (set flight.items i f) skips.items → IsFlight flight skips old count → IsFlight now skips new many
flight_set flight now skips old new count many i f e counted requests linked is = subst (λ b. IsFlight b skips new many) (sym e) (record { count_is = counted; requests = requests; few = omega (arith, is.few, length-set flight.items i f); small = is.small; linked = linked; room = is.room })

-- one more that isn't requested
pub flight_push : (flight : Buffer SentPdu) (skips : Buffer ℕ) (requests : RequestSet) (count : ℕ) (f : SentPdu) → length flight.items < flight.capacity → f.requested ≡ false → AreLinked (flight.items ++ f ∷ []) (skips.items ++ 0 ∷ []) → IsFlight flight skips requests count → IsFlight (buffer (flight.items ++ f ∷ []) flight.capacity) (buffer (skips.items ++ 0 ∷ []) skips.capacity) requests count
flight_push flight skips requests count f room e linked is = record {
  count_is = is.count_is ∙ sym (counted_push flight.items f e);
  requests = λ i small. is.requests i small ∙ sym (requested_push flight.items f i e);
  few = omega (arith, room, length-append flight.items (f ∷ []));
  small = is.small;
  linked = linked;
  room = is.room;
}

-- a ring with no more PDUs, of which the requested are counted anew
pub flight_less : (flight now : Buffer SentPdu) (skips links : Buffer ℕ) (old new : RequestSet) (count many : ℕ) → now.capacity ≡ flight.capacity → links.capacity ≡ skips.capacity → length now.items ≤ length flight.items → many ≡ requested_in now.items → AreRequests new now.items → AreLinked now.items links.items → IsFlight flight skips old count → IsFlight now links new many
flight_less flight now skips links old new count many room links_room fewer counted requests linked is = record { count_is = counted; requests = requests; few = omega (arith, is.few, room, fewer); small = omega (arith, is.small, room); linked = linked; room = links_room ∙ (is.room ∙ sym room) }
