-- PDUs in flight, place by place.
use Rattle.std.proofs.Common.{◌≡◌, ◌+◌, ◌<◌, ◌≤◌, ℕ, zero, suc, List, [], ◌∷◌, Bool, true, false, cond, not, ◌&&◌, ◌||◌, length, set, arith, refl, sym, ap, ap₂, ◌∙◌}
use Rattle.std.specs.Prelude.{nat_lt, nat_le}
use Rattle.std.proofs.lemmas.Bool.{both_ways, or_left}
use Rattle.dch_retx.specs.declared.sent_pdu.SentPdu.{SentPdu}
use Rattle.dch_retx.specs.Flights.{at, acknowledged, named_from, changed_below, first_requested, requested_in, IsFirstRequested}

-- one place more is changed
pub changed_next : (change : SentPdu → SentPdu) (i : ℕ) (in_flight : List SentPdu) → i < length in_flight → set (changed_below change i in_flight) i (change (at (changed_below change i in_flight) i)) ≡ changed_below change (i + 1) in_flight
changed_next change i [] l = absurd (omega arith)
changed_next change zero (f ∷ in_flight) l = refl
changed_next change (suc i) (f ∷ in_flight) l = let e : suc i + 1 ≡ suc (i + 1) = omega arith in ap (λ xs. change f ∷ xs) (changed_next change i in_flight (omega arith)) ∙ ap (λ k. changed_below change k (f ∷ in_flight)) (sym e)

pub length-changed : (change : SentPdu → SentPdu) (i : ℕ) (in_flight : List SentPdu) → length (changed_below change i in_flight) ≡ length in_flight
length-changed change zero in_flight = refl
length-changed change (suc i) [] = refl
length-changed change (suc i) (f ∷ in_flight) = ap suc (length-changed change i in_flight)

-- more places are changed where the change does nothing
pub changed_more : (change : SentPdu → SentPdu) (k to : ℕ) (in_flight : List SentPdu) → k ≤ to → ((j : ℕ) → k ≤ j → j < to → j < length in_flight → change (at in_flight j) ≡ at in_flight j) → changed_below change to in_flight ≡ changed_below change k in_flight
changed_more change zero zero in_flight l h = refl
changed_more change zero (suc to) [] l h = refl
changed_more change zero (suc to) (f ∷ in_flight) l h = ap₂ (λ g gs. g ∷ gs) (h 0 (omega arith) (omega arith) (omega arith)) (changed_more change zero to in_flight (omega arith) (λ j a b c. h (suc j) (omega arith) (omega arith) (omega arith)))
changed_more change (suc k) zero in_flight l h = absurd (omega arith)
changed_more change (suc k) (suc to) [] l h = refl
changed_more change (suc k) (suc to) (f ∷ in_flight) l h = ap (λ gs. change f ∷ gs) (changed_more change k to in_flight (omega arith) (λ j a b c. h (suc j) (omega arith) (omega arith) (omega arith)))

-- those behind are as they were
pub changed_behind : (change : SentPdu → SentPdu) (k : ℕ) (in_flight : List SentPdu) (j : ℕ) → k ≤ j → at (changed_below change k in_flight) j ≡ at in_flight j
changed_behind change zero in_flight j l = refl
changed_behind change (suc k) [] j l = refl
changed_behind change (suc k) (f ∷ in_flight) zero l = absurd (omega arith)
changed_behind change (suc k) (f ∷ in_flight) (suc j) l = changed_behind change k in_flight j (omega arith)

-- an acknowledgement requests nothing, and a name clears no request
pub acknowledged_less : (f : SentPdu) → (acknowledged f).requested ≡ true → f.requested ≡ true
acknowledged_less f e = either f.named e
  where
    either : (b : Bool) → (cond b (record f { named = false }) (record f { acked = true; requested = false })).requested ≡ true → f.requested ≡ true
    either true e = e
    either false e = absurd (cc)

pub named_more : (from to i : ℕ) (f : SentPdu) → f.requested ≡ true → (named_from from to i f).requested ≡ true
named_more from to i f e = either f.acked
  where
    either : (b : Bool) → (cond b f (record f { named = f.named || nat_lt i to; requested = f.requested || nat_le from i })).requested ≡ true
    either true = e
    either false = or_left _ _ e

-- the first that is requested
pub first_is : (in_flight : List SentPdu) (k : ℕ) → IsFirstRequested in_flight k → k ≡ first_requested in_flight
first_is [] k is = omega (arith, is.within)
first_is (f ∷ in_flight) k is = go f.requested refl k is (λ j h. first_is in_flight j h)
  where
    go : (b : Bool) → f.requested ≡ b → (k : ℕ) → IsFirstRequested (f ∷ in_flight) k → ((j : ℕ) → IsFirstRequested in_flight j → j ≡ first_requested in_flight) → k ≡ cond b 0 (suc (first_requested in_flight))
    go true e zero is rest = refl
    go true e (suc k) is rest = absurd (both_ways f.requested (is.before 0 (omega arith)) e)
    go false e zero is rest = absurd (both_ways f.requested e (is.here (omega arith)))
    go false e (suc k) is rest = ap suc (rest k (record { before = λ i l. is.before (suc i) (omega arith); here = λ l. is.here (omega arith); within = omega (arith, is.within) }))

-- a place where one is requested is that of a PDU
pub inside : (xs : List SentPdu) (j : ℕ) → (at xs j).requested ≡ true → j < length xs
inside [] j e = absurd (cc)
inside (x ∷ xs) zero e = omega arith
inside (x ∷ xs) (suc j) e = omega (arith, inside xs j e)

-- where one is requested some are
pub requested_some : (in_flight : List SentPdu) (k : ℕ) → (at in_flight k).requested ≡ true → 0 < requested_in in_flight
requested_some [] k e = absurd (cc)
requested_some (f ∷ in_flight) zero e = rw e (omega arith)
requested_some (f ∷ in_flight) (suc k) e = go f.requested (requested_some in_flight k e)
  where
    go : (b : Bool) → 0 < requested_in in_flight → 0 < cond b (suc (requested_in in_flight)) (requested_in in_flight)
    go true l = omega arith
    go false l = l

-- no more are requested than there are
pub requested_few : (in_flight : List SentPdu) → requested_in in_flight ≤ length in_flight
requested_few [] = omega arith
requested_few (f ∷ in_flight) = go f.requested (requested_few in_flight)
  where
    go : (b : Bool) → requested_in in_flight ≤ length in_flight → cond b (suc (requested_in in_flight)) (requested_in in_flight) ≤ suc (length in_flight)
    go true l = omega arith
    go false l = omega arith

-- where one place is changed, what was requested there is what is requested there now
pub counted_set : (in_flight : List SentPdu) (i : ℕ) (f : SentPdu) → i < length in_flight → cond (at in_flight i).requested 1 0 + requested_in (set in_flight i f) ≡ cond f.requested 1 0 + requested_in in_flight
counted_set [] i f l = absurd (omega arith)
counted_set (x ∷ in_flight) zero f l = go x.requested f.requested
  where
    go : (a b : Bool) → cond a 1 0 + cond b (suc (requested_in in_flight)) (requested_in in_flight) ≡ cond b 1 0 + cond a (suc (requested_in in_flight)) (requested_in in_flight)
    go true true = omega arith
    go true false = omega arith
    go false true = omega arith
    go false false = omega arith
counted_set (x ∷ in_flight) (suc i) f l = go x.requested (counted_set in_flight i f (omega arith))
  where
    go : (a : Bool) → cond (at in_flight i).requested 1 0 + requested_in (set in_flight i f) ≡ cond f.requested 1 0 + requested_in in_flight → cond (at in_flight i).requested 1 0 + cond a (suc (requested_in (set in_flight i f))) (requested_in (set in_flight i f)) ≡ cond f.requested 1 0 + cond a (suc (requested_in in_flight)) (requested_in in_flight)
    go true e = omega (arith, e)
    go false e = omega (arith, e)

-- what leaves the count where one isn't requested any more
pub acknowledged_count : (in_flight : List SentPdu) (i : ℕ) (f : SentPdu) → i < length in_flight → (f.requested ≡ true → (at in_flight i).requested ≡ true) → cond ((at in_flight i).requested && not f.requested) 1 0 + requested_in (set in_flight i f) ≡ requested_in in_flight
acknowledged_count in_flight i f l less = go (at in_flight i).requested f.requested less (counted_set in_flight i f l)
  where
    go : (a b : Bool) → (b ≡ true → a ≡ true) → cond a 1 0 + requested_in (set in_flight i f) ≡ cond b 1 0 + requested_in in_flight → cond (a && not b) 1 0 + requested_in (set in_flight i f) ≡ requested_in in_flight
    go true true h e = omega (arith, e)
    go true false h e = omega (arith, e)
    go false true h e = absurd (both_ways false refl (h refl))
    go false false h e = omega (arith, e)
