-- Behind each open PDU its number tells how many acknowledged ones follow.
use Rattle.std.proofs.Common.{◌≡◌, ◌≢◌, ◌+◌, ◌-◌, ◌<◌, ◌≤◌, ℕ, zero, suc, List, [], ◌∷◌, ◌++◌, Bool, true, false, cond, ◌||◌, length, set, drop, get_or, arith, refl, sym, ap, ap₂, ◌∙◌, subst, Option, Some, None, ⊎_elim, get_or-set_other, get_or-set_same, length-drop, length-set}
use Rattle.std.specs.Prelude.{IfSome, min, nat_le, nat_lt}
use Rattle.std.proofs.lemmas.Bool.{both_ways, cases_lt}
use Rattle.std.proofs.lemmas.List.{get_or-drop}
use Rattle.dch_retx.specs.declared.sent_pdu.SentPdu.{SentPdu}
use Rattle.dch_retx.proofs.Changes.{changed_behind, changed_more, changed_next, length-changed}
use Rattle.dch_retx.proofs.Fronts.{front_in, front_le, front_out}
use Rattle.dch_retx.specs.Flights.{AreLinked, IsBefore, IsLinked, IsSettled, IsWalk, acknowledged, at, before_next, blank, built, changed_below, front_acked, joined, named_from, request_cleared, requested_in}

-- one place is changed
front_same : (in_flight : List SentPdu) (i : ℕ) (g : SentPdu) → g.acked ≡ (at in_flight i).acked → front_acked (set in_flight i g) ≡ front_acked in_flight
front_same [] i g e = refl
front_same (f ∷ in_flight) zero g e = ap (λ b. cond b (suc (front_acked in_flight)) 0) e
front_same (f ∷ in_flight) (suc i) g e = ap (λ n. cond f.acked (suc n) 0) (front_same in_flight i g e)

-- behind an open one
front_before : (in_flight : List SentPdu) (o i : ℕ) (g : SentPdu) → o < i → (at in_flight o).acked ≡ false → o < length in_flight → front_acked (set in_flight i g) ≡ front_acked in_flight
front_before [] o i g l e w = refl
front_before (f ∷ in_flight) zero zero g l e w = absurd (omega arith)
front_before (f ∷ in_flight) zero (suc i) g l e w = ap (λ b. cond b (suc (front_acked (set in_flight i g))) 0) e ∙ sym (ap (λ b. cond b (suc (front_acked in_flight)) 0) e)
front_before (f ∷ in_flight) (suc o) zero g l e w = absurd (omega arith)
front_before (f ∷ in_flight) (suc o) (suc i) g l e w = ap (λ n. cond f.acked (suc n) 0) (front_before in_flight o i g (omega arith) e (omega arith))

-- the first open one is acknowledged
front_filled : (in_flight : List SentPdu) (i : ℕ) (g : SentPdu) → i ≡ front_acked in_flight → i < length in_flight → g.acked ≡ true → front_acked (set in_flight i g) ≡ i + 1 + front_acked (drop (i + 1) in_flight)
front_filled [] i g q l e = absurd (omega arith)
front_filled (f ∷ in_flight) i g q l e = go f.acked refl i q l (λ j m k. front_filled in_flight j g m k e)
  where
    go : (b : Bool) → f.acked ≡ b → (i : ℕ) → i ≡ cond b (suc (front_acked in_flight)) 0 → i < suc (length in_flight) → ((j : ℕ) → j ≡ front_acked in_flight → j < length in_flight → front_acked (set in_flight j g) ≡ j + 1 + front_acked (drop (j + 1) in_flight)) → front_acked (set (f ∷ in_flight) i g) ≡ i + 1 + front_acked (drop (i + 1) (f ∷ in_flight))
    go true a zero q l rest = absurd (omega arith)
    go true a (suc j) q l rest =
        let n : suc j + 1 ≡ suc (j + 1) = omega arith in
        let less : front_acked (set in_flight j g) ≡ j + 1 + front_acked (drop (j + 1) in_flight) = rest j (omega arith) (omega arith) in
        ap (λ b. cond b (suc (front_acked (set in_flight j g))) 0) a ∙ (omega (arith, less) ∙ ap (λ k. suc j + 1 + front_acked (drop k (f ∷ in_flight))) (sym n))
    go false a zero q l rest = ap (λ b. cond b (suc (front_acked in_flight)) 0) e ∙ omega arith
    go false a (suc j) q l rest = absurd (omega arith)

-- as many numbers as PDUs
pub linked_size : (in_flight : List SentPdu) (skips : List ℕ) → AreLinked in_flight skips → length skips ≡ length in_flight
linked_size [] [] is = refl
linked_size [] (s ∷ skips) is = absurd is
linked_size (f ∷ in_flight) [] is = absurd is
linked_size (f ∷ in_flight) (s ∷ skips) is = ap suc (linked_size in_flight skips is.1)

linked_at : (in_flight : List SentPdu) (skips : List ℕ) (i : ℕ) → i < length in_flight → AreLinked in_flight skips → IsLinked (at in_flight i) (get_or skips i 0) (drop (i + 1) in_flight)
linked_at [] skips i l is = absurd (omega arith)
linked_at (f ∷ in_flight) [] i l is = absurd is
linked_at (f ∷ in_flight) (s ∷ skips) zero l is = is.0
linked_at (f ∷ in_flight) (s ∷ skips) (suc i) l is =
    let n : suc i + 1 ≡ suc (i + 1) = omega arith in
    subst (λ k. IsLinked (at in_flight i) (get_or skips i 0) (drop k (f ∷ in_flight))) (sym n) (linked_at in_flight skips i (omega arith) is.1)

-- an acknowledged one is acknowledged again
pub settled_same : (f : SentPdu) → f.acked ≡ true → IsSettled f → acknowledged f ≡ f
settled_same f e is =
    let both = is e in
    ap (λ b. cond b (record f { named = false }) (record f { acked = true; requested = false })) both.1
    ∙ ap₂ (λ a r. record f { acked = a; requested = r }) (sym e) (sym both.0)

-- one PDU is changed, and is acknowledged as before
linked_set : (in_flight : List SentPdu) (skips : List ℕ) (i : ℕ) (g : SentPdu) → g.acked ≡ (at in_flight i).acked → IsSettled g → AreLinked in_flight skips → AreLinked (set in_flight i g) skips
linked_set [] skips i g e s is = is
linked_set (f ∷ in_flight) [] i g e s is = absurd is
linked_set (f ∷ in_flight) (k ∷ skips) zero g e s is = (record { skip_is = λ o. is.0.skip_is (sym e ∙ o); settled = s }, is.1)
linked_set (f ∷ in_flight) (k ∷ skips) (suc i) g e s is = (record { skip_is = λ o. is.0.skip_is o ∙ sym (front_same in_flight i g e); settled = is.0.settled }, linked_set in_flight skips i g e s is.1)

-- one that is open comes behind
front_push : (in_flight : List SentPdu) (g : SentPdu) → g.acked ≡ false → front_acked (in_flight ++ g ∷ []) ≡ front_acked in_flight
front_push [] g e = ap (λ b. cond {A = ℕ} b 1 0) e
front_push (f ∷ in_flight) g e = ap (λ n. cond f.acked (suc n) 0) (front_push in_flight g e)

pub linked_push : (in_flight : List SentPdu) (skips : List ℕ) (g : SentPdu) → g.acked ≡ false → AreLinked in_flight skips → AreLinked (in_flight ++ g ∷ []) (skips ++ 0 ∷ [])
linked_push [] [] g e is = (record { skip_is = λ _. refl; settled = λ a. absurd (both_ways g.acked e a) }, tt)
linked_push [] (s ∷ skips) g e is = absurd is
linked_push (f ∷ in_flight) [] g e is = absurd is
linked_push (f ∷ in_flight) (s ∷ skips) g e is = (record { skip_is = λ o. is.0.skip_is o ∙ sym (front_push in_flight g e); settled = is.0.settled }, linked_push in_flight skips g e is.1)

-- a front leaves
pub linked_drop : (n : ℕ) (in_flight : List SentPdu) (skips : List ℕ) → AreLinked in_flight skips → AreLinked (drop n in_flight) (drop n skips)
linked_drop zero in_flight skips is = is
linked_drop (suc n) [] [] is = tt
linked_drop (suc n) [] (s ∷ skips) is = absurd is
linked_drop (suc n) (f ∷ in_flight) [] is = absurd is
linked_drop (suc n) (f ∷ in_flight) (s ∷ skips) is = linked_drop n in_flight skips is.1

-- those that leave are acknowledged, so that none of them is requested
pub requested_drop : (n : ℕ) (in_flight : List SentPdu) (skips : List ℕ) → n ≤ front_acked in_flight → AreLinked in_flight skips → requested_in (drop n in_flight) ≡ requested_in in_flight
requested_drop zero in_flight skips l is = refl
requested_drop (suc n) [] skips l is = refl
requested_drop (suc n) (f ∷ in_flight) [] l is = absurd is
requested_drop (suc n) (f ∷ in_flight) (s ∷ skips) l is = go f.acked refl l (λ m. requested_drop n in_flight skips m is.1)
  where
    go : (b : Bool) → f.acked ≡ b → suc n ≤ cond b (suc (front_acked in_flight)) 0 → (n ≤ front_acked in_flight → requested_in (drop n in_flight) ≡ requested_in in_flight) → requested_in (drop n in_flight) ≡ requested_in (f ∷ in_flight)
    go true a m rest = rest (omega arith) ∙ sym (ap (λ b. cond b (suc (requested_in in_flight)) (requested_in in_flight)) (is.0.settled a).0)
    go false a m rest = absurd (omega arith)

pub requested_high : (in_flight : List SentPdu) (skips : List ℕ) (i : ℕ) → AreLinked in_flight skips → (at in_flight i).requested ≡ true → front_acked in_flight ≤ i
requested_high in_flight skips i is e = ⊎_elim
    (λ (m : i < front_acked in_flight). absurd (both_ways (at in_flight i).requested ((linked_at in_flight skips i (omega (arith, front_le in_flight)) is).settled (front_in in_flight i m)).0 e))
    (λ (m : front_acked in_flight ≤ i). m)
    (cases_lt i (front_acked in_flight))

-- those before a place aren't requested
front_cleared : (n : ℕ) (in_flight : List SentPdu) → front_acked (changed_below request_cleared n in_flight) ≡ front_acked in_flight
front_cleared zero in_flight = refl
front_cleared (suc n) [] = refl
front_cleared (suc n) (f ∷ in_flight) = ap (λ k. cond f.acked (suc k) 0) (front_cleared n in_flight)

pub linked_cleared : (n : ℕ) (in_flight : List SentPdu) (skips : List ℕ) → AreLinked in_flight skips → AreLinked (changed_below request_cleared n in_flight) skips
linked_cleared zero in_flight skips is = is
linked_cleared (suc n) [] skips is = is
linked_cleared (suc n) (f ∷ in_flight) [] is = absurd is
linked_cleared (suc n) (f ∷ in_flight) (s ∷ skips) is = (record { skip_is = λ o. is.0.skip_is o ∙ sym (front_cleared n in_flight); settled = λ a. (refl, (is.0.settled a).1) }, linked_cleared n in_flight skips is.1)

-- the first open one is acknowledged
linked_first : (in_flight : List SentPdu) (skips : List ℕ) (i : ℕ) (g : SentPdu) → i ≤ front_acked in_flight → g.acked ≡ true → IsSettled g → AreLinked in_flight skips → AreLinked (set in_flight i g) skips
linked_first [] skips i g l e s is = is
linked_first (f ∷ in_flight) [] i g l e s is = absurd is
linked_first (f ∷ in_flight) (k ∷ skips) zero g l e s is = (record { skip_is = λ o. absurd (both_ways g.acked o e); settled = s }, is.1)
linked_first (f ∷ in_flight) (k ∷ skips) (suc i) g l e s is = go f.acked refl l (λ m. linked_first in_flight skips i g m e s is.1)
  where
    go : (b : Bool) → f.acked ≡ b → suc i ≤ cond b (suc (front_acked in_flight)) 0 → (i ≤ front_acked in_flight → AreLinked (set in_flight i g) skips) → AreLinked (set (f ∷ in_flight) (suc i) g) (k ∷ skips)
    go true a m rest = (record { skip_is = λ o. absurd (both_ways f.acked o a); settled = is.0.settled }, rest (omega arith))
    go false a m rest = absurd (omega arith)

-- the one behind an open one is acknowledged: both numbers are joined
linked_join : (in_flight : List SentPdu) (skips : List ℕ) (o i : ℕ) (g : SentPdu) → o + 1 + get_or skips o 0 ≡ i → i < length in_flight → (at in_flight o).acked ≡ false → (at in_flight i).acked ≡ false → g.acked ≡ true → IsSettled g → AreLinked in_flight skips → AreLinked (set in_flight i g) (set skips o (i - o + get_or skips i 0))
linked_join [] skips o i g q l eo ei e s is = absurd (omega arith)
linked_join (f ∷ in_flight) [] o i g q l eo ei e s is = absurd is
linked_join (f ∷ in_flight) (k ∷ skips) zero zero g q l eo ei e s is = absurd (omega arith)
linked_join (f ∷ in_flight) (k ∷ skips) zero (suc i) g q l eo ei e s is =
    let first : i ≡ front_acked in_flight = omega (arith, is.0.skip_is eo) in
    let here : get_or skips i 0 ≡ front_acked (drop (i + 1) in_flight) = (linked_at in_flight skips i (omega arith) is.1).skip_is ei in
    (record { skip_is = λ _. omega (arith, here, front_filled in_flight i g first (omega arith) e); settled = is.0.settled }, linked_first in_flight skips i g (omega arith) e s is.1)
linked_join (f ∷ in_flight) (k ∷ skips) (suc o) zero g q l eo ei e s is = absurd (omega arith)
linked_join (f ∷ in_flight) (k ∷ skips) (suc o) (suc i) g q l eo ei e s is =
    let same : suc i - suc o + get_or skips i 0 ≡ i - o + get_or skips i 0 = omega arith in
    let rest : AreLinked (set in_flight i g) (set skips o (i - o + get_or skips i 0)) = linked_join in_flight skips o i g (omega arith) (omega arith) eo ei e s is.1 in
    (record { skip_is = λ a. is.0.skip_is a ∙ sym (front_before in_flight o i g (omega arith) eo (omega arith)); settled = is.0.settled }, subst (λ n. AreLinked (set in_flight i g) (set skips o n)) (sym same) rest)

-- the walk begins
pub walk_begins : (in_flight : List SentPdu) (skips : List ℕ) → AreLinked in_flight skips → IsWalk in_flight skips (front_acked in_flight) None
walk_begins in_flight skips is = record { linked = is; within = front_le in_flight; here = λ l. front_out in_flight l; before_is = omega arith }

pub front_settled : (to : ℕ) (in_flight : List SentPdu) (skips : List ℕ) → AreLinked in_flight skips → changed_below acknowledged (min (front_acked in_flight) to) in_flight ≡ in_flight
front_settled to in_flight skips is = changed_more acknowledged 0 (min (front_acked in_flight) to) in_flight (omega arith) (λ j a b c. let e : (at in_flight j).acked ≡ true = front_in in_flight j (omega arith) in settled_same (at in_flight j) e (linked_at in_flight skips j c is).settled)

-- the next open one
next_within : (in_flight : List SentPdu) (skips : List ℕ) (i : ℕ) → i < length in_flight → (at in_flight i).acked ≡ false → AreLinked in_flight skips → i + 1 + get_or skips i 0 ≤ length in_flight
next_within in_flight skips i l e is = omega (arith, (linked_at in_flight skips i l is).skip_is e, front_le (drop (i + 1) in_flight), length-drop (i + 1) in_flight)

next_open : (in_flight : List SentPdu) (skips : List ℕ) (i : ℕ) → i < length in_flight → (at in_flight i).acked ≡ false → AreLinked in_flight skips → i + 1 + get_or skips i 0 < length in_flight → (at in_flight (i + 1 + get_or skips i 0)).acked ≡ false
next_open in_flight skips i l e is w =
    let skip : get_or skips i 0 ≡ front_acked (drop (i + 1) in_flight) = (linked_at in_flight skips i l is).skip_is e in
    let there : front_acked (drop (i + 1) in_flight) < length (drop (i + 1) in_flight) = omega (arith, length-drop (i + 1) in_flight) in
    subst (λ k. (at in_flight (i + 1 + k)).acked ≡ false) (sym skip) (ap (λ (f : SentPdu). f.acked) (sym (get_or-drop (i + 1) in_flight (front_acked (drop (i + 1) in_flight)) blank)) ∙ front_out (drop (i + 1) in_flight) there)

-- those between are acknowledged
next_acked : (in_flight : List SentPdu) (skips : List ℕ) (i j : ℕ) → i < length in_flight → (at in_flight i).acked ≡ false → AreLinked in_flight skips → i < j → j < i + 1 + get_or skips i 0 → (at in_flight j).acked ≡ true
next_acked in_flight skips i j l e is a b =
    let skip : get_or skips i 0 ≡ front_acked (drop (i + 1) in_flight) = (linked_at in_flight skips i l is).skip_is e in
    let place : i + 1 + (j - (i + 1)) ≡ j = omega arith in
    subst (λ k. (at in_flight k).acked ≡ true) place (ap (λ (f : SentPdu). f.acked) (sym (get_or-drop (i + 1) in_flight (j - (i + 1)) blank)) ∙ front_in (drop (i + 1) in_flight) (j - (i + 1)) (omega arith))

next_settled : (in_flight : List SentPdu) (skips : List ℕ) (i j : ℕ) → i < length in_flight → (at in_flight i).acked ≡ false → AreLinked in_flight skips → i < j → j < i + 1 + get_or skips i 0 → acknowledged (at in_flight j) ≡ at in_flight j
next_settled in_flight skips i j l e is a b =
    let c : j < length in_flight = omega (arith, next_within in_flight skips i l e is) in
    settled_same (at in_flight j) (next_acked in_flight skips i j l e is a b) (linked_at in_flight skips j c is).settled

-- one that has none before it is the first
first_of : (in_flight : List SentPdu) (i : ℕ) → i ≤ front_acked in_flight → (at in_flight i).acked ≡ false → i ≡ front_acked in_flight
first_of in_flight i l e = ⊎_elim (λ (m : i < front_acked in_flight). absurd (both_ways (at in_flight i).acked e (front_in in_flight i m))) (λ (m : front_acked in_flight ≤ i). omega arith) (cases_lt i (front_acked in_flight))

-- one step of the walk
pub walk_step : (in_flight : List SentPdu) (skips : List ℕ) (i : ℕ) (before : Option ℕ) → i < length in_flight → IsWalk in_flight skips i before → IsWalk (set in_flight i (acknowledged (at in_flight i))) (joined (acknowledged (at in_flight i)).acked before (i + 1 + get_or skips i 0) skips) (i + 1 + get_or skips i 0) (before_next (acknowledged (at in_flight i)).acked before i)
walk_step in_flight skips i before l w = go (at in_flight i).named refl
  where
    is_open : (at in_flight i).acked ≡ false
    is_open = w.here l

    within : (g : SentPdu) → i + 1 + get_or skips i 0 ≤ length (set in_flight i g)
    within g = omega (arith, next_within in_flight skips i l is_open w.linked, length-set in_flight i g)

    opens : (g : SentPdu) → i + 1 + get_or skips i 0 < length (set in_flight i g) → (at (set in_flight i g) (i + 1 + get_or skips i 0)).acked ≡ false
    opens g m =
        let apart : i + 1 + get_or skips i 0 ≢ i = λ (q : i + 1 + get_or skips i 0 ≡ i). omega arith in
        ap (λ (x : SentPdu). x.acked) (get_or-set_other in_flight i (i + 1 + get_or skips i 0) g blank apart) ∙ next_open in_flight skips i l is_open w.linked (omega (arith, length-set in_flight i g))

    marked : (g : SentPdu) → g.acked ≡ false → IsWalk (set in_flight i g) skips (i + 1 + get_or skips i 0) (Some i)
    marked g e = record {
      linked = linked_set in_flight skips i g (e ∙ sym is_open) (λ a. absurd (both_ways g.acked e a)) w.linked;
      within = within g;
      here = opens g;
      before_is = record { next = refl; is_open = ap (λ (x : SentPdu). x.acked) (get_or-set_same in_flight i g blank l) ∙ e };
    }

    taken : (g : SentPdu) → g.acked ≡ true → IsSettled g → (o : Option ℕ) → IsBefore in_flight skips i o → IsWalk (set in_flight i g) (joined true o (i + 1 + get_or skips i 0) skips) (i + 1 + get_or skips i 0) o
    taken g e s None b = record {
      linked = linked_first in_flight skips i g b e s w.linked;
      within = within g;
      here = opens g;
      before_is = omega (arith, filled);
    }
      where
        first : i ≡ front_acked in_flight
        first = first_of in_flight i b is_open

        filled : front_acked (set in_flight i g) ≡ i + 1 + get_or skips i 0
        filled = front_filled in_flight i g first l e ∙ ap (λ k. i + 1 + k) (sym ((linked_at in_flight skips i l w.linked).skip_is is_open))
    taken g e s (Some o) b =
        let less : o < i = omega (arith, b.next) in
        let small : o < length skips = omega (arith, linked_size in_flight skips w.linked) in
        let apart : o ≢ i = λ (q : o ≡ i). omega arith in
        let skip : (i + 1 + get_or skips i 0) - o - 1 ≡ i - o + get_or skips i 0 = omega arith in
        record {
          linked = subst (λ n. AreLinked (set in_flight i g) (set skips o n)) (sym skip) (linked_join in_flight skips o i g b.next l b.is_open is_open e s w.linked);
          within = within g;
          here = opens g;
          before_is = record {
            next = omega (arith, get_or-set_same skips o ((i + 1 + get_or skips i 0) - o - 1) 0 small);
            is_open = ap (λ (x : SentPdu). x.acked) (get_or-set_other in_flight i o g blank apart) ∙ b.is_open;
          };
        }

    go : (b : Bool) → (at in_flight i).named ≡ b → IsWalk (set in_flight i (acknowledged (at in_flight i))) (joined (acknowledged (at in_flight i)).acked before (i + 1 + get_or skips i 0) skips) (i + 1 + get_or skips i 0) (before_next (acknowledged (at in_flight i)).acked before i)
    go true n =
        let same : acknowledged (at in_flight i) ≡ record (at in_flight i) { named = false } = ap (λ b. cond b (record (at in_flight i) { named = false }) (record (at in_flight i) { acked = true; requested = false })) n in
        let kept : (acknowledged (at in_flight i)).acked ≡ false = ap (λ (x : SentPdu). x.acked) same ∙ is_open in
        subst (λ b. IsWalk (set in_flight i (acknowledged (at in_flight i))) (joined b before (i + 1 + get_or skips i 0) skips) (i + 1 + get_or skips i 0) (before_next b before i)) (sym kept) (marked (acknowledged (at in_flight i)) kept)
    go false n =
        let same : acknowledged (at in_flight i) ≡ record (at in_flight i) { acked = true; requested = false } = ap (λ b. cond b (record (at in_flight i) { named = false }) (record (at in_flight i) { acked = true; requested = false })) n in
        let now : (acknowledged (at in_flight i)).acked ≡ true = ap (λ (x : SentPdu). x.acked) same in
        let settled : IsSettled (acknowledged (at in_flight i)) = λ _. (ap (λ (x : SentPdu). x.requested) same, ap (λ (x : SentPdu). x.named) same ∙ n) in
        subst (λ b. IsWalk (set in_flight i (acknowledged (at in_flight i))) (joined b before (i + 1 + get_or skips i 0) skips) (i + 1 + get_or skips i 0) (before_next b before i)) (sym now) (taken (acknowledged (at in_flight i)) now settled before w.before_is)

-- a name leaves it acknowledged or open
named_acked : (from to i : ℕ) (f : SentPdu) → (named_from from to i f).acked ≡ f.acked
named_acked from to i f = go f.acked
  where
    go : (b : Bool) → (cond b f (record f { named = f.named || nat_lt i to; requested = f.requested || nat_le from i })).acked ≡ f.acked
    go true = refl
    go false = refl

named_settled : (from to i : ℕ) (f : SentPdu) → IsSettled f → IsSettled (named_from from to i f)
named_settled from to i f s = go f.acked refl
  where
    go : (b : Bool) → f.acked ≡ b → IsSettled (cond b f (record f { named = f.named || nat_lt i to; requested = f.requested || nat_le from i }))
    go true e = s
    go false e = λ a. absurd (both_ways f.acked e a)

pub linked_named : (from to i : ℕ) (in_flight : List SentPdu) (skips : List ℕ) → i < length in_flight → AreLinked in_flight skips → AreLinked (set in_flight i (named_from from to i (at in_flight i))) skips
linked_named from to i in_flight skips l is = linked_set in_flight skips i (named_from from to i (at in_flight i)) (named_acked from to i (at in_flight i)) (named_settled from to i (at in_flight i) (linked_at in_flight skips i l is).settled) is

-- what the walk has changed, up to a place: those behind it up to the next open one are changed by nothing
pub walk_changed : (in_flight : List SentPdu) (now : List SentPdu) (skips : List ℕ) (i n to : ℕ) (before : Option ℕ) → i < to → to ≤ length in_flight → n ≡ get_or skips i 0 → now ≡ changed_below acknowledged (min i to) in_flight → IsWalk now skips i before → set now i (acknowledged (at now i)) ≡ changed_below acknowledged (min (i + 1 + n) to) in_flight
walk_changed in_flight now skips i n to before l within q e w =
    ap (λ xs. set xs i (acknowledged (at xs i))) (e ∙ ap (λ k. changed_below acknowledged k in_flight) here)
    ∙ (changed_next acknowledged i in_flight (omega arith)
    ∙ (sym (changed_more acknowledged (i + 1) (min (i + 1 + get_or skips i 0) to) in_flight (omega arith) (λ j a b c. same j a b))
    ∙ ap (λ k. changed_below acknowledged (min (i + 1 + k) to) in_flight) (sym q)))
  where
    here : min i to ≡ i
    here = omega arith

    size : length now ≡ length in_flight
    size = ap (λ (xs : List SentPdu). length xs) e ∙ length-changed acknowledged (min i to) in_flight

    inside : i < length now
    inside = omega (arith, size)

    same : (j : ℕ) → i + 1 ≤ j → j < min (i + 1 + get_or skips i 0) to → acknowledged (at in_flight j) ≡ at in_flight j
    same j a b =
        let place : at now j ≡ at in_flight j = ap (λ (xs : List SentPdu). at xs j) (e ∙ ap (λ k. changed_below acknowledged k in_flight) here) ∙ changed_behind acknowledged i in_flight j (omega arith) in
        subst (λ (f : SentPdu). acknowledged f ≡ f) place (next_settled now skips i j inside (w.here inside) w.linked (omega arith) (omega arith))

-- nor is one that is built again
pub linked_built : (in_flight : List SentPdu) (skips : List ℕ) (i : ℕ) → i < length in_flight → AreLinked in_flight skips → AreLinked (set in_flight i (built (at in_flight i))) skips
linked_built in_flight skips i l is = linked_set in_flight skips i (built (at in_flight i)) refl (λ a. (refl, ((linked_at in_flight skips i l is).settled a).1)) is

-- a step as the code takes it
pub walk_joins : (in_flight now : List SentPdu) (skips links : List ℕ) (i n : ℕ) (before next : Option ℕ) → i < length in_flight → now ≡ set in_flight i (acknowledged (at in_flight i)) → n ≡ get_or skips i 0 → next ≡ before_next (at now i).acked before i → links ≡ joined (at now i).acked before (i + 1 + n) skips → IsWalk in_flight skips i before → IsWalk now links (i + 1 + n) next
walk_joins in_flight now skips links i n before next l e q en el w =
    let same : (at now i).acked ≡ (acknowledged (at in_flight i)).acked = ap (λ (xs : List SentPdu). (at xs i).acked) e ∙ ap (λ (f : SentPdu). f.acked) (get_or-set_same in_flight i (acknowledged (at in_flight i)) blank l) in
    subst (λ xs. IsWalk xs links (i + 1 + n) next) (sym e)
    (subst (λ ls. IsWalk (set in_flight i (acknowledged (at in_flight i))) ls (i + 1 + n) next) (sym (el ∙ ap (λ b. joined b before (i + 1 + n) skips) same))
    (subst (λ o. IsWalk (set in_flight i (acknowledged (at in_flight i))) (joined (acknowledged (at in_flight i)).acked before (i + 1 + n) skips) (i + 1 + n) o) (sym (en ∙ ap (λ b. before_next b before i) same))
    (subst (λ k. IsWalk (set in_flight i (acknowledged (at in_flight i))) (joined (acknowledged (at in_flight i)).acked before (i + 1 + k) skips) (i + 1 + k) (before_next (acknowledged (at in_flight i)).acked before i)) (sym q)
    (walk_step in_flight skips i before l w))))

pub walk_before : (in_flight : List SentPdu) (skips : List ℕ) (i n : ℕ) (before : Option ℕ) → i < length in_flight → IsWalk in_flight skips i before → IfSome before (λ o. (o < i + 1 + n) × (o < length skips))
walk_before in_flight skips i n None l w = tt
walk_before in_flight skips i n (Some o) l w = (omega (arith, w.before_is.next), omega (arith, w.before_is.next, linked_size in_flight skips w.linked))

pub walk_next : (in_flight : List SentPdu) (skips : List ℕ) (i n : ℕ) (before : Option ℕ) → i < length in_flight → n ≡ get_or skips i 0 → IsWalk in_flight skips i before → i + 1 + n ≤ length in_flight
walk_next in_flight skips i n before l q w = omega (arith, next_within in_flight skips i l (w.here l) w.linked)
