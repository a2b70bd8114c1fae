-- What a status leaves of the PDUs in flight is sent as before.
use Rattle.std.proofs.Common.{◌≡◌, ◌+◌, ◌-◌, ◌<◌, ◌≤◌, ℕ, List, Bool, true, false, ◌||◌, length, drop, Option, Some, None, arith, refl, sym, ap, ◌∙◌, subst, length-drop, set, length-set}
use Rattle.std.specs.Prelude.{nat_lt, nat_le, min, ◌==◌}
use Rattle.std.proofs.lemmas.Bool.{cond_both, eqb-true, eqb-false}
use Rattle.std.proofs.lemmas.List.{get_or-drop, get_or-set_same, get_or-set_other}
use Rattle.dch_am.specs.declared.answers.StatusTaken.{StatusTaken}
use Rattle.dch_am.specs.declared.answers.StatusTaken.TheVariants.{Taken, Outside}
use Rattle.dch_retx.specs.declared.sent_pdu.SentPdu.{SentPdu}
use Rattle.dch_retx.specs.Flights.{at, acknowledged, blank, changed_below, front_acked, named_as, built, request_cleared}
use Rattle.dch_retx.proofs.Changes.{length-changed}
use Rattle.dch_retx.specs.StatusItems.{StatusItem}
use Rattle.dch_retx.specs.StatusItem.{is_named, reports_some}
use Rattle.dch_retx.specs.RetxBuffer.{RetxBuffer, acked_below, after_answer, after_ending, after_hearing, after_moves, after_told, answer_of, base_after, below_from, discarding, ending, first_number, floor_of, freed, listened, told_line}
use Rattle.dch_retx.specs.Polling.{resent}
use Rattle.dch_retx.specs.Standing.{AreKept, IsAlike}
use Rattle.dch_retx.proofs.Fronts.{front_le}
use Rattle.dch_retx.proofs.Lengths.{length-acked, length-told}
use Rattle.dch_retx.proofs.Naming.{at-changed_below, at-told, heard_one}

alike_itself : (f : SentPdu) → IsAlike f f
alike_itself f = record { extent = refl; full = refl; padded = refl }

alike_twice : (f g h : SentPdu) → IsAlike f g → IsAlike g h → IsAlike f h
alike_twice f g h a b = record { extent = a.extent ∙ b.extent; full = a.full ∙ b.full; padded = a.padded ∙ b.padded }

alike_acknowledged : (f : SentPdu) → IsAlike (acknowledged f) f
alike_acknowledged f = cond_both {A = SentPdu} f.named (record f { named = false }) (record f { acked = true; requested = false }) (λ g. IsAlike g f) (λ _. record { extent = refl; full = refl; padded = refl }) (λ _. record { extent = refl; full = refl; padded = refl })

alike_named : (high under : Bool) (f : SentPdu) → IsAlike (named_as high under f) f
alike_named high under f = cond_both {A = SentPdu} f.acked f (record f { named = f.named || under; requested = f.requested || high }) (λ g. IsAlike g f) (λ _. alike_itself f) (λ _. record { extent = refl; full = refl; padded = refl })

alike_one : (high named under : Bool) (f : SentPdu) → IsAlike (heard_one high named under f) f
alike_one high true true f = alike_twice (acknowledged (named_as high true f)) (named_as high true f) f (alike_acknowledged (named_as high true f)) (alike_named high true f)
alike_one high true false f = alike_named high false f
alike_one high false true f = alike_acknowledged f
alike_one high false false f = alike_itself f

kept_itself : (xs : List SentPdu) → AreKept xs xs
kept_itself xs = record { few = omega arith; same = λ i less. let e : i ≡ length xs - length xs + i = omega arith in subst (λ k. IsAlike (at xs i) (at xs k)) e (alike_itself (at xs i)) }

kept_twice : (xs ys zs : List SentPdu) → AreKept xs ys → AreKept ys zs → AreKept xs zs
kept_twice xs ys zs a b = record {
  few = omega (arith, a.few, b.few);
  same = λ i less.
      let e : length xs - length ys + (length ys - length zs + i) ≡ length xs - length zs + i = omega (arith, a.few, b.few) in
      subst (λ k. IsAlike (at zs i) (at xs k)) e (alike_twice (at zs i) (at ys (length ys - length zs + i)) (at xs (length xs - length ys + (length ys - length zs + i))) (b.same i less) (a.same (length ys - length zs + i) (omega (arith, b.few))));
}

-- a front leaves of a list that is sent alike
kept_front : (xs ys : List SentPdu) (leaving : ℕ) → length ys ≡ length xs → leaving ≤ length xs → ((i : ℕ) → i < length xs → IsAlike (at ys i) (at xs i)) → AreKept xs (drop leaving ys)
kept_front xs ys leaving size le all = record {
  few = omega (arith, left);
  same = λ i less.
      let place : at (drop leaving ys) i ≡ at ys (leaving + i) = get_or-drop leaving ys i blank in
      let e : leaving + i ≡ length xs - length (drop leaving ys) + i = omega (arith, left) in
      subst (λ k. IsAlike (at (drop leaving ys) i) (at xs k)) e (subst (λ f. IsAlike f (at xs (leaving + i))) (sym place) (all (leaving + i) (omega (arith, left))));
}
  where
    left : length (drop leaving ys) ≡ length xs - leaving
    left = length-drop leaving ys ∙ ap (λ n. n - leaving) size

freed_kept : (below : ℕ) (l : RetxBuffer) → AreKept l.in_flight (freed below l).in_flight
freed_kept below l = kept_front l.in_flight (acked_below below l.in_flight) (front_acked (acked_below below l.in_flight)) (length-acked below l.in_flight) (omega (arith, front_le (acked_below below l.in_flight), length-acked below l.in_flight))
    (λ i less. subst (λ f. IsAlike f (at l.in_flight i)) (sym (at-changed_below acknowledged (min below (length l.in_flight)) l.in_flight i less)) (cond_both {A = SentPdu} (nat_lt i (min below (length l.in_flight))) (acknowledged (at l.in_flight i)) (at l.in_flight i) (λ f. IsAlike f (at l.in_flight i)) (λ _. alike_acknowledged (at l.in_flight i)) (λ _. alike_itself (at l.in_flight i))))

listened_kept : (below : ℕ) (said : List StatusItem) (l : RetxBuffer) → AreKept l.in_flight (listened below said l).in_flight
listened_kept below said l = kept_front l.in_flight (told_line below said l) (front_acked (told_line below said l)) (length-told below said l) (omega (arith, front_le (told_line below said l), length-told below said l))
    (λ i less. subst (λ f. IsAlike f (at l.in_flight i)) (sym (at-told below said l i less)) (alike_one (nat_le (floor_of l.running) i) (is_named (first_number l) i said) (nat_lt i (min below (length l.in_flight))) (at l.in_flight i)))

ending_kept : (o : Option ℕ) (l : RetxBuffer) → AreKept l.in_flight (after_ending o l).in_flight
ending_kept None l = kept_itself l.in_flight
ending_kept (Some below) l = freed_kept below l

told_kept : (below : ℕ) (said : List StatusItem) (l : RetxBuffer) → AreKept l.in_flight (after_told below said l).in_flight
told_kept below said l = cond_both {A = RetxBuffer} (reports_some said) (listened below said l) l (λ m. AreKept l.in_flight m.in_flight) (λ _. listened_kept below said l) (λ _. kept_itself l.in_flight)

answer_kept : (t : StatusTaken) (said : List StatusItem) (l : RetxBuffer) → AreKept l.in_flight (after_answer t said l).in_flight
answer_kept Taken said l =
    let below = below_from (base_after (ending said l l.running) l) said l in
    kept_twice l.in_flight (after_moves said l).in_flight (after_told below said (after_moves said l)).in_flight (ending_kept (ending said l l.running) l) (told_kept below said (after_moves said l))
answer_kept (Outside i) said l = kept_itself l.in_flight

pub hearing_kept : (said : List StatusItem) (l : RetxBuffer) → AreKept l.in_flight (after_hearing said l).in_flight
hearing_kept said l = answer_kept (answer_of said l) said l

-- a PDU that is built again, and those that aren't requested any more, are sent as before
pub resent_kept : (place : ℕ) (l : RetxBuffer) → AreKept l.in_flight (resent place l).in_flight
resent_kept place l = kept_front l.in_flight (resent place l).in_flight 0 (length-set l.in_flight place (built (at l.in_flight place))) (omega arith) each
  where
    each : (i : ℕ) → i < length l.in_flight → IsAlike (at (set l.in_flight place (built (at l.in_flight place))) i) (at l.in_flight i)
    each i less = go (i == place) refl
      where
        go : (b : Bool) → (i == place) ≡ b → IsAlike (at (set l.in_flight place (built (at l.in_flight place))) i) (at l.in_flight i)
        go true e = let q : i ≡ place = eqb-true i place e in subst (λ k. IsAlike (at (set l.in_flight k (built (at l.in_flight k))) i) (at l.in_flight i)) q (subst (λ f. IsAlike f (at l.in_flight i)) (sym (get_or-set_same l.in_flight i (built (at l.in_flight i)) blank less)) (record { extent = refl; full = refl; padded = refl }))
        go false e = subst (λ f. IsAlike f (at l.in_flight i)) (sym (get_or-set_other l.in_flight place i (built (at l.in_flight place)) blank (eqb-false i place e))) (alike_itself (at l.in_flight i))

pub discarding_kept : (place n : ℕ) (l : RetxBuffer) → AreKept l.in_flight (discarding place n l).in_flight
discarding_kept place n l = kept_front l.in_flight (changed_below request_cleared place l.in_flight) 0 (length-changed request_cleared place l.in_flight) (omega arith)
    (λ i less. subst (λ f. IsAlike f (at l.in_flight i)) (sym (at-changed_below request_cleared place l.in_flight i less)) (cond_both {A = SentPdu} (nat_lt i place) (request_cleared (at l.in_flight i)) (at l.in_flight i) (λ f. IsAlike f (at l.in_flight i)) (λ _. record { extent = refl; full = refl; padded = refl }) (λ _. alike_itself (at l.in_flight i))))
