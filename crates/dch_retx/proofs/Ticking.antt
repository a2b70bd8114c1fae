-- Timers, and the beginning of a discard.
use Rattle.std.proofs.Common.{◌≡◌, ◌⊎◌, ◌+◌, ◌-◌, ◌<◌, ◌≤◌, ℕ, Bool, true, false, cond, not, ◌&&◌, ◌||◌, length, Option, Some, None, arith, refl, sym, ap, ap₂, ◌∙◌, subst, inl, inr, ⊎_elim}
use Rattle.std.specs.Prelude.{nat_lt, ◌==◌}
use Rattle.std.proofs.lemmas.Bool.{and_parts, cases_lt, eqb-true, le-ltb, lt-ltb, ltb-false, not-true, or_cases}
use Rattle.dch_retx.specs.declared.sent_pdu.SentPdu.{SentPdu}
use Rattle.dch_retx.specs.Flights.{at, changed_below, request_cleared}
use Rattle.dch_retx.proofs.Changes.{length-changed}
use Rattle.dch_am.specs.Numbers.{has, less, below, wrapped}
use Rattle.dch_am.specs.Rules.{Rules}
use Rattle.dch_am.specs.Sender.{Sender, Discard, vt_a}
use Rattle.dch_am.specs.Acknowledging.{floor}
use Rattle.dch_am.specs.Discards.{after_mrw, discards_at, mrw_due}
use Rattle.dch_am.proofs.Lists.{has-less, has-below}
use Rattle.dch_retx.specs.declared.buffer.Running.{Running}
use Rattle.dch_retx.specs.RetxBuffer.{RetxBuffer, discarding, is_due, n_length_in, moving, number_at, place_in, repeating, run_timer, ticked}
use Rattle.dch_retx.specs.Standing.{IsInFlight, IsPolled, IsRunning, IsRequested, Stands, timed, timer_of}
use Rattle.dch_retx.proofs.Naming.{at-changed_below}

floor_timer : (d : Option Discard) → floor (timer_of d) ≡ floor d
floor_timer None = refl
floor_timer (Some d) = refl

run_ticks : (r : Option Running) (d : Option Discard) (low n : ℕ) → IsRunning r d low n → IsRunning (run_timer r) (timer_of d) low n
run_ticks None None low n is = tt
run_ticks None (Some d) low n is = absurd is
run_ticks (Some r) None low n is = absurd is
run_ticks (Some r) (Some d) low n is = record { k = is.k; n = is.n; due = ap₂ (λ b t. b || (t == 1)) is.due is.mrw_timer; mrw_timer = ap (λ t. t - 1) is.mrw_timer; inside = is.inside }

pub ticks_stand : (rules : Rules) (l : RetxBuffer) (s : Sender) → Stands rules l s → Stands rules (ticked l) (timed s)
ticks_stand rules l s is = record {
  window = is.window;
  rules_are = is.rules_are;
  built = is.built;
  ended = is.ended;
  most = is.most;
  few = is.few;
  flying = is.flying;
  next = is.next;
  in_flight = λ i less. let f : IsInFlight s (vt_a s + i) (at l.in_flight i) = is.in_flight i less in record { acked = f.acked; requested = f.requested; named = f.named; builds = f.builds };
  acked_sent = is.acked_sent;
  requested = λ k e. let w : IsRequested s k = is.requested k e in record { from = w.from; sent = w.sent; is_open = w.is_open; high = omega (arith, w.high, floor_timer s.discard) };
  unsent = is.unsent;
  poll_timer = ap (λ t. t - 1) is.poll_timer;
  owed = ap₂ (λ b t. b || (t == 1)) is.owed is.poll_timer;
  polled = λ out. let p : IsPolled s l.polled (length l.in_flight) = is.polled (before out) in record { number = p.number; inside = p.inside };
  running = run_ticks l.running s.discard (vt_a s) (length l.in_flight) is.running;
}
  where
    before : (0 < s.poll_timer - 1) ⊎ ((s.owed || (s.poll_timer == 1)) ≡ true) → (0 < s.poll_timer) ⊎ (s.owed ≡ true)
    before out = ⊎_elim
        (λ (m : 0 < s.poll_timer - 1). inl (omega arith))
        (λ (m : (s.owed || (s.poll_timer == 1)) ≡ true). ⊎_elim (λ (q : s.owed ≡ true). inr q) (λ (q : (s.poll_timer == 1) ≡ true). let e : s.poll_timer ≡ 1 = eqb-true s.poll_timer 1 q in inl (omega arith)) (or_cases _ _ m))
        out

pub discards_stand : (rules : Rules) (l : RetxBuffer) (s : Sender) (place n i : ℕ) → place < length l.in_flight → Stands rules l s → Stands rules (discarding place n l) (discards_at s i (Some (vt_a s + place, n)))
discards_stand rules l s place n i inside is = record {
  window = is.window;
  rules_are = is.rules_are;
  built = is.built;
  ended = is.ended;
  most = is.most;
  few = omega (arith, is.few, size);
  flying = omega (arith, is.flying, size);
  next = is.next;
  in_flight = λ j within. in_flight_is j (omega (arith, size));
  acked_sent = is.acked_sent;
  requested = λ k e.
      let parts = and_parts _ _ (sym (requested k) ∙ e) in
      let w : IsRequested s k = is.requested k parts.0 in
      record { from = w.from; sent = w.sent; is_open = w.is_open; high = ltb-false k (vt_a s + place) (not-true _ parts.1) };
  unsent = is.unsent;
  poll_timer = is.poll_timer;
  owed = is.owed;
  polled = λ out. let p : IsPolled s l.polled (length l.in_flight) = is.polled out in record { number = p.number; inside = omega (arith, p.inside, size) };
  running = record { k = refl; n = refl; due = refl; mrw_timer = refl; inside = omega (arith, size) };
}
  where
    size : length (changed_below request_cleared place l.in_flight) ≡ length l.in_flight
    size = length-changed request_cleared place l.in_flight

    requested : (k : ℕ) → has k (less s.requested (below (vt_a s + place))) ≡ (has k s.requested && not (nat_lt k (vt_a s + place)))
    requested k = has-less k s.requested (below (vt_a s + place)) ∙ ap (λ b. has k s.requested && not b) (has-below k (vt_a s + place))

    in_flight_is : (j : ℕ) → j < length l.in_flight → IsInFlight (discards_at s i (Some (vt_a s + place, n))) (vt_a s + j) (at (changed_below request_cleared place l.in_flight) j)
    in_flight_is j within = ⊎_elim
        (λ (m : j < place).
        let here : at (changed_below request_cleared place l.in_flight) j ≡ request_cleared (at l.in_flight j) = at-changed_below request_cleared place l.in_flight j within ∙ ap (λ b. cond b (request_cleared (at l.in_flight j)) (at l.in_flight j)) (lt-ltb j place m) in
        let f : IsInFlight s (vt_a s + j) (at l.in_flight j) = is.in_flight j within in
        record {
          acked = ap (λ (g : SentPdu). g.acked) here ∙ f.acked;
          requested = ap (λ (g : SentPdu). g.requested) here ∙ sym (requested (vt_a s + j) ∙ (ap (λ b. has (vt_a s + j) s.requested && not b) (lt-ltb (vt_a s + j) (vt_a s + place) (omega arith)) ∙ none (has (vt_a s + j) s.requested)));
          named = ap (λ (g : SentPdu). g.named) here ∙ f.named;
          builds = ap (λ (g : SentPdu). g.builds) here ∙ f.builds;
        })
        (λ (m : place ≤ j).
        let here : at (changed_below request_cleared place l.in_flight) j ≡ at l.in_flight j = at-changed_below request_cleared place l.in_flight j within ∙ ap (λ b. cond b (request_cleared (at l.in_flight j)) (at l.in_flight j)) (le-ltb j place m) in
        let f : IsInFlight s (vt_a s + j) (at l.in_flight j) = is.in_flight j within in
        record {
          acked = ap (λ (g : SentPdu). g.acked) here ∙ f.acked;
          requested = ap (λ (g : SentPdu). g.requested) here ∙ (f.requested ∙ sym (requested (vt_a s + j) ∙ (ap (λ b. has (vt_a s + j) s.requested && not b) (le-ltb (vt_a s + j) (vt_a s + place) (omega arith)) ∙ all (has (vt_a s + j) s.requested))));
          named = ap (λ (g : SentPdu). g.named) here ∙ f.named;
          builds = ap (λ (g : SentPdu). g.builds) here ∙ f.builds;
        })
        (cases_lt j place)
      where
        none : (b : Bool) → (b && false) ≡ false
        none true = refl
        none false = refl

        all : (b : Bool) → (b && true) ≡ b
        all true = refl
        all false = refl

due_by : (r : Option Running) (d : Option Discard) (low n : ℕ) → IsRunning r d low n → is_due r ≡ mrw_due d
due_by None None low n is = refl
due_by None (Some d) low n is = absurd is
due_by (Some r) None low n is = absurd is
due_by (Some r) (Some d) low n is = is.due

pub due_is : (rules : Rules) (l : RetxBuffer) (s : Sender) → Stands rules l s → is_due l.running ≡ mrw_due s.discard
due_is rules l s is = due_by l.running s.discard (vt_a s) (length l.in_flight) is.running

run_repeats : (ticks : ℕ) (r : Option Running) (d : Discard) (low n : ℕ) → IsRunning r (Some d) low n → IsRunning (repeating ticks r) (Some (record d { due = false; mrw_timer = ticks })) low n
run_repeats ticks None d low n is = absurd is
run_repeats ticks (Some r) d low n is = record { k = is.k; n = is.n; due = refl; mrw_timer = refl; inside = is.inside }

pub moves_stand : (rules : Rules) (l : RetxBuffer) (s : Sender) (d : Discard) → Stands rules l s → s.discard ≡ Some d → Stands rules (moving l) (after_mrw rules s d)
moves_stand rules l s d is e = record {
  window = is.window;
  rules_are = is.rules_are;
  built = is.built;
  ended = is.ended;
  most = is.most;
  few = is.few;
  flying = is.flying;
  next = is.next;
  in_flight = λ i less. let f : IsInFlight s (vt_a s + i) (at l.in_flight i) = is.in_flight i less in record { acked = f.acked; requested = f.requested; named = f.named; builds = f.builds };
  acked_sent = is.acked_sent;
  requested = λ k q. let w : IsRequested s k = is.requested k q in record { from = w.from; sent = w.sent; is_open = w.is_open; high = omega (arith, w.high, ap floor e) };
  unsent = is.unsent;
  poll_timer = is.poll_timer;
  owed = is.owed;
  polled = λ out. let p : IsPolled s l.polled (length l.in_flight) = is.polled out in record { number = p.number; inside = p.inside };
  running = subst (λ ticks. IsRunning (repeating ticks l.running) (Some (record d { due = false; mrw_timer = rules.discard_repeat })) (vt_a s) (length l.in_flight)) (sym (ap (λ (r : Rules). r.discard_repeat) is.rules_are)) (run_repeats rules.discard_repeat l.running d (vt_a s) (length l.in_flight) (subst (λ x. IsRunning l.running x (vt_a s) (length l.in_flight)) e is.running));
}

-- numbers of PDUs in flight
pub number_is : (rules : Rules) (l : RetxBuffer) (s : Sender) (place : ℕ) → place ≤ length l.in_flight → Stands rules l s → number_at place l ≡ wrapped (vt_a s + place)
number_is rules l s place le is = omega (arith, is.flying, is.next, is.few, is.most)

mrw_by : (rules : Rules) (l : RetxBuffer) (s : Sender) (r : Option Running) (d : Discard) → IsRunning r (Some d) (vt_a s) (length l.in_flight) → Stands rules l s → (number_at (place_in r) l ≡ wrapped d.k) × (n_length_in r ≡ d.n)
mrw_by rules l s None d is stands = absurd is
mrw_by rules l s (Some r) d is stands = (number_is rules l s r.at (omega (arith, is.inside)) stands ∙ ap wrapped is.k, is.n)

pub mrw_is : (rules : Rules) (l : RetxBuffer) (s : Sender) (d : Discard) → Stands rules l s → s.discard ≡ Some d → (number_at (place_in l.running) l ≡ wrapped d.k) × (n_length_in l.running ≡ d.n)
mrw_is rules l s d is e = mrw_by rules l s l.running d (subst (λ x. IsRunning l.running x (vt_a s) (length l.in_flight)) e is.running) is
