-- Hearing a status leaves the number of PDUs in flight.
use Rattle.std.proofs.Common.{◌≡◌, ◌<◌, ℕ, List, [], ◌∷◌, length, set, arith, refl, sym, subst, ◌∙◌, Option, Some, None, length-set}
use Rattle.std.specs.Prelude.{nat_lt, min, IfSome}
use Rattle.std.proofs.lemmas.Bool.{cond_both}
use Rattle.circular_buffer.specs.Buffer.{Buffer}
use Rattle.dch_retx.specs.declared.sent_pdu.SentPdu.{SentPdu}
use Rattle.dch_retx.specs.Flights.{at, acknowledged, named_from}
use Rattle.dch_retx.proofs.Changes.{length-changed}
use Rattle.dch_retx.specs.StatusItems.{StatusItem}
use Rattle.dch_retx.specs.StatusItems.{Missing, Unset, Set, Below, Obeyed}
use Rattle.dch_retx.specs.declared.buffer.Running.{Running}
use Rattle.dch_retx.specs.StatusItem.{changed_at, place_of, with_name, with_names}
use Rattle.dch_retx.specs.RetxBuffer.{IsLine, RetxBuffer, acked_below, first_number, floor_of, named_line, told_line}

length-changed_at : (change : SentPdu → SentPdu) (i : ℕ) (in_flight : List SentPdu) → length (changed_at change i in_flight) ≡ length in_flight
length-changed_at change i in_flight = cond_both (nat_lt i (length in_flight)) (set in_flight i (change (at in_flight i))) in_flight (λ (xs : List SentPdu). length xs ≡ length in_flight) (λ _. length-set in_flight i (change (at in_flight i))) (λ _. refl)

pub length-with_name : (first from to : ℕ) (said : StatusItem) (in_flight : List SentPdu) → length (with_name first from to said in_flight) ≡ length in_flight
length-with_name first from to (Missing x) in_flight = length-changed_at (named_from from to (place_of first x)) (place_of first x) in_flight
length-with_name first from to (Unset x) in_flight = length-changed_at (named_from from to (place_of first x)) (place_of first x) in_flight
length-with_name first from to (Set x) in_flight = refl
length-with_name first from to (Below x) in_flight = refl
length-with_name first from to (Obeyed n sn) in_flight = refl

pub length-with_names : (first from to : ℕ) (said : List StatusItem) (in_flight : List SentPdu) → length (with_names first from to said in_flight) ≡ length in_flight
length-with_names first from to [] in_flight = refl
length-with_names first from to (s ∷ said) in_flight = length-with_names first from to said (with_name first from to s in_flight) ∙ length-with_name first from to s in_flight

-- hearing one leaves the number
pub length-told : (below : ℕ) (said : List StatusItem) (l : RetxBuffer) → length (told_line below said l) ≡ length l.in_flight
length-told below said l = length-changed acknowledged (min below (length l.in_flight)) (named_line below said l) ∙ length-with_names (first_number l) (floor_of l.running) (min below (length l.in_flight)) said l.in_flight

pub length-acked : (below : ℕ) (in_flight : List SentPdu) → length (acked_below below in_flight) ≡ length in_flight
length-acked below in_flight = length-changed acknowledged (min below (length in_flight)) in_flight

-- as many PDUs in as much room
pub same_line : (in_flight now : Buffer SentPdu) (window next : ℕ) (running : Option Running) → length now.items ≡ length in_flight.items → now.capacity ≡ in_flight.capacity → IsLine in_flight.items in_flight.capacity window next running → IsLine now.items now.capacity window next running
same_line in_flight now window next running size room is = record {
  room = room ∙ is.room;
  few = omega (arith, is.few);
  most = is.most;
  number = is.number;
  discard = subst (λ n. IfSome running (λ r. (r.at < n) × (r.n < 16))) (sym size) is.discard;
}

pub ended_line : (in_flight now : Buffer SentPdu) (window next : ℕ) (running : Option Running) → length now.items ≡ length in_flight.items → now.capacity ≡ in_flight.capacity → IsLine in_flight.items in_flight.capacity window next running → IsLine now.items now.capacity window next None
ended_line in_flight now window next running size room is = record { room = room ∙ is.room; few = omega (arith, is.few); most = is.most; number = is.number; discard = tt }

pub begun_line : (in_flight now : Buffer SentPdu) (window next : ℕ) (running : Option Running) (r : Running) → length now.items ≡ length in_flight.items → now.capacity ≡ in_flight.capacity → r.at < length in_flight.items → r.n < 16 → IsLine in_flight.items in_flight.capacity window next running → IsLine now.items now.capacity window next (Some r)
begun_line in_flight now window next running r size room inside small is = record { room = room ∙ is.room; few = omega (arith, is.few); most = is.most; number = is.number; discard = (omega arith, small) }
