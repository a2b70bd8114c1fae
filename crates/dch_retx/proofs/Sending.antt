-- A PDU is built: one in flight again, or a new one.
use Rattle.std.proofs.Common.{◌≡◌, ◌⊎◌, ◌+◌, ◌-◌, ◌<◌, ◌≤◌, ℕ, suc, List, [], ◌∷◌, ◌++◌, Bool, true, false, cond, not, ◌&&◌, ◌||◌, length, set, Option, Some, None, arith, refl, sym, ap, ap₂, ◌∙◌, subst, inl, inr, ⊎_elim, length-append, length-set}
use Rattle.std.specs.Prelude.{nat_lt, min, ◌==◌}
use Rattle.std.proofs.lemmas.Bool.{and_parts, both_ways, cases_lt, eqb-true, eqb-false, eq-eqb, le-leb, lt-leb, or_left, false_from_ne_true}
use Rattle.std.proofs.lemmas.Bool.Decides.{nat_tests}
use Rattle.std.proofs.lemmas.List.{get_or-set_same, get_or-set_other, get_or_append_left}
use Rattle.std.proofs.Math.Seq.{get_or-append_seam}
use Rattle.dch_retx.specs.declared.sent_pdu.SentPdu.{SentPdu}
use Rattle.dch_retx.specs.Flights.{at, blank, built, ends_in, first_requested}
use Rattle.dch_am.specs.Numbers.{has, less, grown, run_of, wrapped}
use Rattle.dch_am.specs.Rules.{Rules}
use Rattle.dch_am.specs.Bodies.{Body, ends, ends_of, is_empty, is_left, next_body, after_body}
use Rattle.dch_am.specs.Sender.{Sender, Discard, vt_s, vt_a}
use Rattle.dch_am.specs.Building.{after_choice, after_poll, again, again_polls, anew, anew_polls, once_more, once_more_polls, passes, polls}
use Rattle.dch_am.specs.Building.{Again as Requested, New as Fresh, Last as Latest}
use Rattle.dch_am.specs.Discards.{count}
use Rattle.dch_am.proofs.Lists.{has-less}
use Rattle.dch_am.proofs.Reading.{ends-append}
use Rattle.dch_retx.specs.declared.buffer.Running.{Running}
use Rattle.dch_retx.specs.RetxBuffer.{RetxBuffer}
use Rattle.dch_retx.specs.Polling.{after_bit, counted, crosses, fresh, is_far, poll_of, resent, sent_line, none_requested, again_poll, again_line, last_poll, last_line, new_poll, new_line}
use Rattle.dch_retx.specs.Standing.{IsInFlight, IsNew, IsPolled, IsRunning, IsRequested, Sends, Stands, left_of}
use Rattle.dch_retx.proofs.Counting.{counted_is, crosses_is}
use Rattle.dch_retx.proofs.Picking.{first_all, first_low}

-- the line with a PDU in flight that was just built, apart from its poll bit and the count of PDUs built
pub record IsOut (rules : Rules) (l : RetxBuffer) (s : Sender) : Type 0 where
  pub window : l.window ≡ rules.window
  pub rules_are : l.rules ≡ rules
  pub built : l.built ≡ left_of rules.poll_pdus (s.builds - 1)
  pub some : 0 < s.builds
  pub ended : l.ended ≡ left_of rules.poll_units (ends s.bodies)
  pub most : rules.window ≤ 2048
  pub few : length l.in_flight ≤ rules.window
  pub flying : vt_a s + length l.in_flight ≡ vt_s s
  pub one : 0 < length l.in_flight
  pub next : l.next ≡ wrapped (vt_s s)
  pub in_flight : (i : ℕ) → i < length l.in_flight → IsInFlight s (vt_a s + i) (at l.in_flight i)
  pub acked_sent : (k : ℕ) → has k s.acked ≡ true → k < vt_s s
  pub requested : (k : ℕ) → has k s.requested ≡ true → IsRequested s k
  pub unsent : (k : ℕ) → vt_s s ≤ k → count k s.sendings ≡ 0
  pub poll_timer : l.poll_timer ≡ s.poll_timer
  pub owed : l.owed ≡ s.owed
  pub polled : (0 < s.poll_timer) ⊎ (s.owed ≡ true) → IsPolled s l.polled (length l.in_flight)
  pub running : IsRunning l.running s.discard (vt_a s) (length l.in_flight)

pub poll_is : (rules : Rules) (l : RetxBuffer) (s : Sender) (reason : Bool) → IsOut rules l s → poll_of reason l ≡ polls rules s reason
poll_is rules l s reason o =
    ap (λ b. reason || b || crosses l.rules.poll_pdus l.built 1 || is_far l.rules (length l.in_flight)) o.owed
    ∙ ap₂ (λ a b. reason || s.owed || a || b)
    (ap₂ (λ r c. crosses r c 1) (ap (λ (r : Rules). r.poll_pdus) o.rules_are) o.built ∙ (crosses_is rules.poll_pdus (s.builds - 1) 1 ∙ ap (passes rules.poll_pdus (s.builds - 1)) number))
    (ap₂ is_far o.rules_are flying)
  where
    number : s.builds - 1 + 1 ≡ s.builds
    number = omega (arith, o.some)

    flying : length l.in_flight ≡ vt_s s - vt_a s
    flying = omega (arith, o.flying)

pub out_stands : (rules : Rules) (l : RetxBuffer) (s : Sender) (poll : Bool) → IsOut rules l s → Stands rules (after_bit poll l) (after_poll rules s poll)
out_stands rules l s poll o = record {
  window = o.window;
  rules_are = o.rules_are;
  built = ap₂ (λ r c. counted r c 1) (ap (λ (r : Rules). r.poll_pdus) o.rules_are) o.built ∙ (counted_is rules.poll_pdus (s.builds - 1) 1 ∙ ap (left_of rules.poll_pdus) number);
  ended = o.ended;
  most = o.most;
  few = o.few;
  flying = o.flying;
  next = o.next;
  in_flight = λ i less. let f : IsInFlight s (vt_a s + i) (at l.in_flight i) = o.in_flight i less in record { acked = f.acked; requested = f.requested; named = f.named; builds = f.builds };
  acked_sent = o.acked_sent;
  requested = λ k e. let w : IsRequested s k = o.requested k e in record { from = w.from; sent = w.sent; is_open = w.is_open; high = w.high };
  unsent = o.unsent;
  poll_timer = ap₂ (λ (r : Rules) t. cond (poll && nat_lt 0 r.poll_timer) r.poll_timer t) o.rules_are o.poll_timer;
  owed = ap (λ b. cond poll false b) o.owed;
  polled = λ out. polled_is out;
  running = o.running;
}
  where
    number : s.builds - 1 + 1 ≡ s.builds
    number = omega (arith, o.some)

    starts : (r : Rules) → Bool
    starts r = poll && nat_lt 0 r.poll_timer

    last : vt_a s + (length l.in_flight - 1) ≡ vt_s s - 1
    last = omega (arith, o.flying, o.one)

    polled_is : (0 < cond (poll && nat_lt 0 rules.poll_timer) rules.poll_timer s.poll_timer) ⊎ (cond poll false s.owed ≡ true) → IsPolled (after_poll rules s poll) (cond (poll && nat_lt 0 l.rules.poll_timer) (length l.in_flight - 1) l.polled) (length l.in_flight)
    polled_is out = subst (λ (r : Rules). IsPolled (after_poll rules s poll) (cond (poll && nat_lt 0 r.poll_timer) (length l.in_flight - 1) l.polled) (length l.in_flight)) (sym o.rules_are) (record { number = number_is.0; inside = number_is.1 })
      where
        still : (p t : Bool) → (poll && nat_lt 0 rules.poll_timer) ≡ false → (0 < cond (poll && nat_lt 0 rules.poll_timer) rules.poll_timer s.poll_timer) ⊎ (cond poll false s.owed ≡ true) → (0 < s.poll_timer) ⊎ (s.owed ≡ true)
        still p t e x = ⊎_elim (λ (m : 0 < cond (poll && nat_lt 0 rules.poll_timer) rules.poll_timer s.poll_timer). inl (subst (λ b. 0 < cond b rules.poll_timer s.poll_timer) e m)) (λ (m : cond poll false s.owed ≡ true). inr (owed poll m)) x
          where
            owed : (c : Bool) → cond c false s.owed ≡ true → s.owed ≡ true
            owed true m = absurd (both_ways false refl m)
            owed false m = m

        number_is : (cond (poll && nat_lt 0 rules.poll_timer) (Some (vt_s s - 1)) s.polled ≡ Some (vt_a s + cond (poll && nat_lt 0 rules.poll_timer) (length l.in_flight - 1) l.polled)) × (cond (poll && nat_lt 0 rules.poll_timer) (length l.in_flight - 1) l.polled < length l.in_flight)
        number_is = go (poll && nat_lt 0 rules.poll_timer) refl
          where
            go : (b : Bool) → (poll && nat_lt 0 rules.poll_timer) ≡ b → (cond b (Some (vt_s s - 1)) s.polled ≡ Some (vt_a s + cond b (length l.in_flight - 1) l.polled)) × (cond b (length l.in_flight - 1) l.polled < length l.in_flight)
            go true e = (ap Some (sym last), omega (arith, o.one))
            go false e = let p : IsPolled s l.polled (length l.in_flight) = o.polled (still true true e out) in (p.number, p.inside)

-- one PDU in flight is built once more
record IsAgain (s now : Sender) (k : ℕ) : Type 0 where
  acked : now.acked ≡ s.acked
  bodies : now.bodies ≡ s.bodies
  discard : now.discard ≡ s.discard
  requested : (x : ℕ) → has x now.requested ≡ (has x s.requested && not (x == k))
  sendings : now.sendings ≡ k ∷ s.sendings

min_step : (b c n : ℕ) → b ≡ min 255 c → n ≡ suc c → cond (nat_lt b 255) (b + 1) b ≡ min 255 n
min_step b c n e1 e2 = grind (arith, nat_tests)

pub again_out : (rules : Rules) (l : RetxBuffer) (s : Sender) (place : ℕ) → place < length l.in_flight → Stands rules l s → IsOut rules (resent place l) (again s (vt_a s + place))
again_out rules l s place inside is = record {
  window = is.window;
  rules_are = is.rules_are;
  built = is.built ∙ ap (left_of rules.poll_pdus) less_one;
  some = omega arith;
  ended = is.ended;
  most = is.most;
  few = omega (arith, is.few, size);
  flying = omega (arith, is.flying, size);
  one = omega (arith, size);
  next = is.next;
  in_flight = λ i inner. in_flight_is i (omega (arith, size));
  acked_sent = is.acked_sent;
  requested = λ x e. let w : IsRequested s x = is.requested x (and_parts _ _ (sym (requested x) ∙ e)).0 in record { from = w.from; sent = w.sent; is_open = w.is_open; high = w.high };
  unsent = λ x le. ap (λ b. cond b (suc (count x s.sendings)) (count x s.sendings)) (differ x (omega (arith, is.flying))) ∙ is.unsent x le;
  poll_timer = is.poll_timer;
  owed = is.owed;
  polled = λ out. let p : IsPolled s l.polled (length l.in_flight) = is.polled out in record { number = p.number; inside = omega (arith, p.inside, size) };
  running = subst (IsRunning l.running s.discard (vt_a s)) (sym size) is.running;
}
  where
    k : ℕ
    k = vt_a s + place

    size : length (set l.in_flight place (built (at l.in_flight place))) ≡ length l.in_flight
    size = length-set l.in_flight place (built (at l.in_flight place))

    less_one : s.builds ≡ s.builds + 1 - 1
    less_one = omega arith

    requested : (x : ℕ) → has x (less s.requested ((vt_a s + place) ∷ [])) ≡ (has x s.requested && not (x == vt_a s + place))
    requested x = has-less x s.requested ((vt_a s + place) ∷ []) ∙ ap (λ b. has x s.requested && not b) (plain (x == vt_a s + place))
      where
        plain : (b : Bool) → (b || false) ≡ b
        plain true = refl
        plain false = refl

    differ : (x : ℕ) → vt_a s + place < x → (x == vt_a s + place) ≡ false
    differ x less = grind (arith, nat_tests)

    in_flight_is : (i : ℕ) → i < length l.in_flight → IsInFlight (again s (vt_a s + place)) (vt_a s + i) (at (set l.in_flight place (built (at l.in_flight place))) i)
    in_flight_is i within = go (i == place) refl
      where
        f : IsInFlight s (vt_a s + i) (at l.in_flight i)
        f = is.in_flight i within

        go : (b : Bool) → (i == place) ≡ b → IsInFlight (again s (vt_a s + place)) (vt_a s + i) (at (set l.in_flight place (built (at l.in_flight place))) i)
        go true e =
            let q : i ≡ place = eqb-true i place e in
            let here : at (set l.in_flight place (built (at l.in_flight place))) i ≡ built (at l.in_flight i) = subst (λ j. at (set l.in_flight place (built (at l.in_flight place))) j ≡ built (at l.in_flight j)) (sym q) (get_or-set_same l.in_flight place (built (at l.in_flight place)) blank inside) in
            let same : (vt_a s + i == vt_a s + place) ≡ true = eq-eqb (vt_a s + i) (vt_a s + place) (ap (λ j. vt_a s + j) q) in
            record {
              acked = ap (λ (g : SentPdu). g.acked) here ∙ f.acked;
              requested = ap (λ (g : SentPdu). g.requested) here ∙ sym (requested (vt_a s + i) ∙ (ap (λ b. has (vt_a s + i) s.requested && not b) same ∙ none (has (vt_a s + i) s.requested)));
              named = ap (λ (g : SentPdu). g.named) here ∙ f.named;
              builds = ap (λ (g : SentPdu). g.builds) here ∙ (min_step (at l.in_flight i).builds (count (vt_a s + i) s.sendings) (suc (count (vt_a s + i) s.sendings)) f.builds refl ∙ ap (λ b. min 255 (cond b (suc (count (vt_a s + i) s.sendings)) (count (vt_a s + i) s.sendings))) (sym same));
            }
          where
            none : (b : Bool) → (b && false) ≡ false
            none true = refl
            none false = refl
        go false e =
            let there : at (set l.in_flight place (built (at l.in_flight place))) i ≡ at l.in_flight i = get_or-set_other l.in_flight place i (built (at l.in_flight place)) blank (eqb-false i place e) in
            let other : (vt_a s + i == vt_a s + place) ≡ false = apart (vt_a s) i place e in
            record {
              acked = ap (λ (g : SentPdu). g.acked) there ∙ f.acked;
              requested = ap (λ (g : SentPdu). g.requested) there ∙ (f.requested ∙ sym (requested (vt_a s + i) ∙ (ap (λ b. has (vt_a s + i) s.requested && not b) other ∙ all (has (vt_a s + i) s.requested))));
              named = ap (λ (g : SentPdu). g.named) there ∙ f.named;
              builds = ap (λ (g : SentPdu). g.builds) there ∙ (f.builds ∙ ap (λ b. min 255 (cond b (suc (count (vt_a s + i) s.sendings)) (count (vt_a s + i) s.sendings))) (sym other));
            }
          where
            all : (b : Bool) → (b && true) ≡ b
            all true = refl
            all false = refl

            apart : (low i place : ℕ) → (i == place) ≡ false → (low + i == low + place) ≡ false
            apart low i place e = grind (arith, nat_tests)

-- the last PDU is built once more, where it isn't requested
pub last_out : (rules : Rules) (l : RetxBuffer) (s : Sender) (place : ℕ) → place < length l.in_flight → vt_a s + place ≡ vt_s s - 1 → has (vt_a s + place) s.requested ≡ false → Stands rules l s → IsOut rules (resent place l) (once_more s)
last_out rules l s place inside last none is = record {
  window = o.window;
  rules_are = o.rules_are;
  built = o.built;
  some = o.some;
  ended = o.ended;
  most = o.most;
  few = o.few;
  flying = o.flying;
  one = o.one;
  next = o.next;
  in_flight = λ i inner. let f : IsInFlight (again s (vt_a s + place)) (vt_a s + i) (at (resent place l).in_flight i) = o.in_flight i inner in record { acked = f.acked; requested = f.requested ∙ same (vt_a s + i); named = f.named; builds = f.builds ∙ ap (λ k. min 255 (count (vt_a s + i) (k ∷ s.sendings))) last };
  acked_sent = o.acked_sent;
  requested = λ k e. let w : IsRequested s k = is.requested k e in record { from = w.from; sent = w.sent; is_open = w.is_open; high = w.high };
  unsent = λ x le. ap (λ k. count x (k ∷ s.sendings)) (sym last) ∙ o.unsent x le;
  poll_timer = o.poll_timer;
  owed = o.owed;
  polled = λ out. record { number = (o.polled out).number; inside = (o.polled out).inside };
  running = o.running;
}
  where
    o : IsOut rules (resent place l) (again s (vt_a s + place))
    o = again_out rules l s place inside is

    same : (x : ℕ) → has x (less s.requested ((vt_a s + place) ∷ [])) ≡ has x s.requested
    same x = has-less x s.requested ((vt_a s + place) ∷ []) ∙ go (x == vt_a s + place) refl
      where
        go : (b : Bool) → (x == vt_a s + place) ≡ b → (has x s.requested && not (b || false)) ≡ has x s.requested
        go true e = let h : has x s.requested ≡ false = ap (λ y. has y s.requested) (eqb-true x (vt_a s + place) e) ∙ none in never (has x s.requested) ∙ sym h
          where
            never : (b : Bool) → (b && false) ≡ false
            never true = refl
            never false = refl
        go false e = all (has x s.requested)
          where
            all : (b : Bool) → (b && true) ≡ b
            all true = refl
            all false = refl

run_more : (r : Option Running) (d : Option Discard) (low now n m : ℕ) → now ≡ low → n ≤ m → IsRunning r d low n → IsRunning r d now m
run_more None None low now n m e le is = tt
run_more None (Some d) low now n m e le is = absurd is
run_more (Some r) None low now n m e le is = absurd is
run_more (Some r) (Some d) low now n m e le is = record { k = omega (arith, is.k); n = is.n; due = is.due; mrw_timer = is.mrw_timer; inside = omega (arith, is.inside) }

-- a new PDU is in flight
pub new_out : (rules : Rules) (d : ℕ) (l : RetxBuffer) (s : Sender) (f : SentPdu) → length l.in_flight < rules.window → IsNew f (ends_of (next_body d s.unsent)) → Stands rules l s → IsOut rules (fresh f l) (anew d s)
new_out rules d l s f room new is = record {
  window = is.window;
  rules_are = is.rules_are;
  built = is.built ∙ ap (left_of rules.poll_pdus) less_one;
  some = omega arith;
  ended = ap₂ (λ r c. counted r c (ends_in f)) (ap (λ (r : Rules). r.poll_units) is.rules_are) is.ended ∙ (ap (counted rules.poll_units (left_of rules.poll_units (ends s.bodies))) new.ends_are ∙ (counted_is rules.poll_units (ends s.bodies) (ends_of body) ∙ ap (left_of rules.poll_units) (sym (ends-append s.bodies (body ∷ []) ∙ one_more))));
  most = is.most;
  few = omega (arith, longer);
  flying = omega (arith, low_is, longer, bodies, is.flying);
  one = omega (arith, longer);
  next = next_is l.next (vt_s s) is.next ∙ ap wrapped (sym bodies);
  in_flight = λ i inner. in_flight_is i inner;
  acked_sent = λ k e. omega (arith, is.acked_sent k e, bodies);
  requested = λ k e. let w : IsRequested s k = is.requested k e in record { from = omega (arith, w.from, low_is); sent = omega (arith, w.sent, bodies); is_open = w.is_open; high = w.high };
  unsent = λ k le. ap (λ b. cond b (suc (count k s.sendings)) (count k s.sendings)) (above k (vt_s s) (omega (arith, bodies))) ∙ is.unsent k (omega (arith, bodies));
  poll_timer = is.poll_timer;
  owed = is.owed;
  polled = λ out. let p : IsPolled s l.polled (length l.in_flight) = is.polled out in record { number = p.number ∙ ap (λ a. Some (a + l.polled)) (sym low_is); inside = omega (arith, p.inside, longer) };
  running = run_more l.running s.discard (vt_a s) (run_of s.acked (length (s.bodies ++ body ∷ []))) (length l.in_flight) (length (l.in_flight ++ f ∷ [])) low_is (omega (arith, longer)) is.running;
}
  where
    body : Body
    body = next_body d s.unsent

    less_one : s.builds ≡ s.builds + 1 - 1
    less_one = omega arith

    one_more : ends s.bodies + ends (body ∷ []) ≡ ends s.bodies + ends_of body
    one_more = omega arith

    bodies : length (s.bodies ++ body ∷ []) ≡ vt_s s + 1
    bodies = length-append s.bodies (body ∷ []) ∙ omega arith

    one_past : length (s.bodies ++ body ∷ []) ≡ suc (vt_s s)
    one_past = omega (arith, bodies)

    longer : length (l.in_flight ++ f ∷ []) ≡ length l.in_flight + 1
    longer = length-append l.in_flight (f ∷ []) ∙ omega arith

    free : has (vt_s s) s.acked ≡ false
    free = false_from_ne_true _ (λ (e : has (vt_s s) s.acked ≡ true). absurd (omega (arith, is.acked_sent (vt_s s) e)))

    low_is : run_of s.acked (length (s.bodies ++ body ∷ [])) ≡ vt_a s
    low_is = ap (run_of s.acked) one_past ∙ ap (λ b. grown (vt_s s) b (run_of s.acked (vt_s s))) free

    next_is : (a b : ℕ) → a ≡ wrapped b → wrapped (a + 1) ≡ wrapped (b + 1)
    next_is a b e = omega arith

    above : (k n : ℕ) → n < k → (k == n) ≡ false
    above k n l = grind (arith, nat_tests)

    below : (k n : ℕ) → k < n → (k == n) ≡ false
    below k n l = grind (arith, nat_tests)

    in_flight_is : (i : ℕ) → i < length (l.in_flight ++ f ∷ []) → IsInFlight (anew d s) (run_of s.acked (length (s.bodies ++ body ∷ [])) + i) (at (l.in_flight ++ f ∷ []) i)
    in_flight_is i inner = subst (λ a. IsInFlight (anew d s) (a + i) (at (l.in_flight ++ f ∷ []) i)) (sym low_is) (⊎_elim
        (λ (m : i < length l.in_flight).
        let old : IsInFlight s (vt_a s + i) (at l.in_flight i) = is.in_flight i m in
        let place : at (l.in_flight ++ f ∷ []) i ≡ at l.in_flight i = get_or_append_left l.in_flight (f ∷ []) blank i m in
        let other : (vt_a s + i == vt_s s) ≡ false = below (vt_a s + i) (vt_s s) (omega (arith, is.flying)) in
        record {
          acked = ap (λ (g : SentPdu). g.acked) place ∙ old.acked;
          requested = ap (λ (g : SentPdu). g.requested) place ∙ old.requested;
          named = ap (λ (g : SentPdu). g.named) place ∙ old.named;
          builds = ap (λ (g : SentPdu). g.builds) place ∙ (old.builds ∙ ap (λ b. min 255 (cond b (suc (count (vt_a s + i) s.sendings)) (count (vt_a s + i) s.sendings))) (sym other));
        })
        (λ (m : length l.in_flight ≤ i).
        let at_end : i ≡ length l.in_flight = omega (arith, longer) in
        let number : vt_a s + i ≡ vt_s s = omega (arith, is.flying) in
        let place : at (l.in_flight ++ f ∷ []) i ≡ f = ap (at (l.in_flight ++ f ∷ [])) at_end ∙ get_or-append_seam l.in_flight f [] blank in
        let same : (vt_a s + i == vt_s s) ≡ true = eq-eqb (vt_a s + i) (vt_s s) number in
        record {
          acked = ap (λ (g : SentPdu). g.acked) place ∙ (new.acked ∙ sym (ap (λ k. has k s.acked) number ∙ free));
          requested = ap (λ (g : SentPdu). g.requested) place ∙ (new.requested ∙ sym (ap (λ k. has k s.requested) number ∙ false_from_ne_true _ (λ (e : has (vt_s s) s.requested ≡ true). absurd (omega (arith, (is.requested (vt_s s) e).sent)))));
          named = ap (λ (g : SentPdu). g.named) place ∙ new.named;
          builds = ap (λ (g : SentPdu). g.builds) place ∙ (new.builds ∙ sym (ap (λ b. min 255 (cond b (suc (count (vt_a s + i) s.sendings)) (count (vt_a s + i) s.sendings))) same ∙ ap (λ c. min 255 (suc c)) (is.unsent (vt_a s + i) (omega arith))));
        })
        (cases_lt i (length l.in_flight)))

-- the line after the poll bit, for each choice
sends : (rules : Rules) (l : RetxBuffer) (s : Sender) (reason other : Bool) → reason ≡ other → IsOut rules l s → Sends rules (poll_of reason l) (sent_line reason l) (polls rules s other) (after_poll rules s (polls rules s other))
sends rules l s reason other e o =
    let bit : poll_of reason l ≡ polls rules s other = poll_is rules l s reason o ∙ ap (polls rules s) e in
    record { poll = bit; stands = subst (λ p. Stands rules (after_bit (poll_of reason l) l) (after_poll rules s p)) bit (out_stands rules l s (poll_of reason l) o) }

none_is : (rules : Rules) (l : RetxBuffer) (s : Sender) → IsOut rules l s → none_requested l.in_flight ≡ is_empty s.requested
none_is rules l s o = go s.requested refl
  where
    go : (xs : List ℕ) → s.requested ≡ xs → none_requested l.in_flight ≡ is_empty xs
    go [] e = le-leb (length l.in_flight) (first_requested l.in_flight) (first_all l.in_flight (λ i less. (o.in_flight i less).requested ∙ ap (has (vt_a s + i)) e))
    go (x ∷ xs) e =
        let member : has x s.requested ≡ true = ap (has x) e ∙ or_left _ _ (eq-eqb x x refl) in
        let w : IsRequested s x = o.requested x member in
        let number : vt_a s + (x - vt_a s) ≡ x = omega (arith, w.from) in
        let inside : x - vt_a s < length l.in_flight = omega (arith, w.from, w.sent, o.flying) in
        let flag : (at l.in_flight (x - vt_a s)).requested ≡ true = (o.in_flight (x - vt_a s) inside).requested ∙ (ap (λ k. has k s.requested) number ∙ member) in
        lt-leb (length l.in_flight) (first_requested l.in_flight) (omega (arith, inside, first_low l.in_flight (x - vt_a s) flag))

pub again_sends : (rules : Rules) (l : RetxBuffer) (s : Sender) (place d : ℕ) → place < length l.in_flight → Stands rules l s → Sends rules (again_poll place l) (again_line place l) (again_polls rules s (vt_a s + place)) (after_choice (Requested (vt_a s + place)) rules d s)
again_sends rules l s place d inside is =
    let o : IsOut rules (resent place l) (again s (vt_a s + place)) = again_out rules l s place inside is in
    sends rules (resent place l) (again s (vt_a s + place)) (none_requested (resent place l).in_flight) (is_empty (again s (vt_a s + place)).requested) (none_is rules (resent place l) (again s (vt_a s + place)) o) o

pub last_sends : (rules : Rules) (l : RetxBuffer) (s : Sender) (place d : ℕ) → place < length l.in_flight → vt_a s + place ≡ vt_s s - 1 → has (vt_a s + place) s.requested ≡ false → Stands rules l s → Sends rules (last_poll place l) (last_line place l) (once_more_polls rules s) (after_choice (Latest (vt_a s + place)) rules d s)
last_sends rules l s place d inside last none is = sends rules (resent place l) (once_more s) false false refl (last_out rules l s place inside last none is)

pub new_sends : (rules : Rules) (l : RetxBuffer) (s : Sender) (f : SentPdu) (left : Bool) (d : ℕ) → length l.in_flight < rules.window → IsNew f (ends_of (next_body d s.unsent)) → left ≡ is_left (after_body d s.unsent) → Stands rules l s → Sends rules (new_poll f left l) (new_line f left l) (anew_polls rules d s) (after_choice Fresh rules d s)
new_sends rules l s f left d room new e is = sends rules (fresh f l) (anew d s) (not left || crosses l.rules.poll_units l.ended (ends_in f)) (not (is_left (anew d s).unsent) || passes rules.poll_units (ends s.bodies) (ends (anew d s).bodies))
    (ap₂ (λ a b. not a || b) e
    (ap₂ (λ r c. crosses r c (ends_in f)) (ap (λ (r : Rules). r.poll_units) is.rules_are) is.ended
    ∙ (ap (crosses rules.poll_units (left_of rules.poll_units (ends s.bodies))) new.ends_are
    ∙ (crosses_is rules.poll_units (ends s.bodies) (ends_of (next_body d s.unsent)) ∙ ap (passes rules.poll_units (ends s.bodies)) (sym (ends-append s.bodies (next_body d s.unsent ∷ []) ∙ one_more))))))
    (new_out rules d l s f room new is)
  where
    one_more : ends s.bodies + ends (next_body d s.unsent ∷ []) ≡ ends s.bodies + ends_of (next_body d s.unsent)
    one_more = omega arith

pub sends_as : (rules : Rules) (a b p : Bool) (l m : RetxBuffer) (s : Sender) → a ≡ b → l ≡ m → Sends rules b m p s → Sends rules a l p s
sends_as rules a b p l m s e1 e2 is = record { poll = e1 ∙ is.poll; stands = subst (λ x. Stands rules x s) (sym e2) is.stands }
