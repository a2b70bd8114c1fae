-- The front of the PDUs in flight leaves.
use Rattle.std.proofs.Common.{◌≡◌, ◌⊎◌, ◌+◌, ◌-◌, ◌<◌, ◌≤◌, ℕ, zero, suc, List, [], ◌∷◌, ◌++◌, Bool, true, false, cond, not, ◌&&◌, ◌||◌, length, drop, Option, Some, None, arith, refl, sym, ap, ap₂, ◌∙◌, subst, inl, inr, ⊎_elim, length-drop}
use Rattle.std.specs.Prelude.{nat_lt, min}
use Rattle.std.proofs.lemmas.Bool.{and_parts, both_ways, cases_Bool, cases_lt, cond_both, ltb-true, ltb-false, not-true, or_cases, or_right}
use Rattle.std.proofs.lemmas.Bool.Decides.{nat_tests}
use Rattle.std.proofs.lemmas.List.{get_or-drop}
use Rattle.dch_retx.specs.declared.sent_pdu.SentPdu.{SentPdu}
use Rattle.dch_retx.specs.Flights.{at, blank, front_acked}
use Rattle.dch_am.specs.Numbers.{has, less, below, run_of}
use Rattle.dch_am.specs.Rules.{Rules}
use Rattle.dch_am.specs.Sender.{Sender, Discard, vt_s, vt_a}
use Rattle.dch_am.specs.Acknowledging.{ended_by, floor, is_told, now_acked, told}
use Rattle.dch_am.specs.Discards.{count}
use Rattle.dch_am.proofs.Lists.{Is, has-append, has-less, has-below, run_in, run_le, run_reaches}
use Rattle.dch_retx.specs.declared.buffer.Running.{Running}
use Rattle.dch_retx.specs.RetxBuffer.{RetxBuffer, left_front, run_on}
use Rattle.dch_retx.specs.Standing.{IsInFlight, IsPolled, IsRunning, IsRequested, Stands}

pub front_in : (in_flight : List SentPdu) (i : ℕ) → i < front_acked in_flight → (at in_flight i).acked ≡ true
front_in [] i l = absurd (omega arith)
front_in (f ∷ in_flight) i l = go f.acked refl l (λ j m. front_in in_flight j m) i
  where
    go : (b : Bool) → f.acked ≡ b → i < cond b (suc (front_acked in_flight)) 0 → ((j : ℕ) → j < front_acked in_flight → (at in_flight j).acked ≡ true) → (j : ℕ) → (at (f ∷ in_flight) i).acked ≡ true
    go true e l rest j = here i l
      where
        here : (k : ℕ) → k < suc (front_acked in_flight) → (at (f ∷ in_flight) k).acked ≡ true
        here zero m = e
        here (suc k) m = rest k (omega arith)
    go false e l rest j = absurd (omega arith)

pub front_le : (in_flight : List SentPdu) → front_acked in_flight ≤ length in_flight
front_le [] = omega arith
front_le (f ∷ in_flight) = cond_both {A = ℕ} f.acked (suc (front_acked in_flight)) 0 (λ k. k ≤ suc (length in_flight)) (λ _. omega (arith, front_le in_flight)) (λ _. omega arith)

pub front_out : (in_flight : List SentPdu) → front_acked in_flight < length in_flight → (at in_flight (front_acked in_flight)).acked ≡ false
front_out [] l = absurd (omega arith)
front_out (f ∷ in_flight) l = go f.acked refl l (front_out in_flight)
  where
    go : (b : Bool) → f.acked ≡ b → cond b (suc (front_acked in_flight)) 0 < suc (length in_flight) → (front_acked in_flight < length in_flight → (at in_flight (front_acked in_flight)).acked ≡ false) → (at (f ∷ in_flight) (cond b (suc (front_acked in_flight)) 0)).acked ≡ false
    go true e m rest = rest (omega arith)
    go false e m rest = e

run_is : (xs : List ℕ) (n m : ℕ) → m ≤ n → ((x : ℕ) → x < m → Is x xs) → (m < n → has m xs ≡ false) → run_of xs n ≡ m
run_is xs n m le all out = ⊎_elim
    (λ (l : m < run_of xs n). absurd (both_ways (has m xs) (out (omega (arith, run_le xs n))) (run_in xs n m l)))
    (λ (l : run_of xs n ≤ m). omega (arith, run_reaches xs n m le all))
    (cases_lt m (run_of xs n))

-- a PDU in flight once numbers are told
pub record IsTold (s : Sender) (names : List ℕ) (lsn k : ℕ) (f : SentPdu) : Type 0 where
  pub acked : f.acked ≡ ((nat_lt k lsn && not (has k names)) || has k s.acked)
  pub requested : f.requested ≡ has k (less (less (names ++ s.requested) (now_acked s.acked names lsn)) (below (floor s.discard)))
  pub named : f.named ≡ false
  pub builds : f.builds ≡ min 255 (count k s.sendings)

-- what is told of PDUs that are in flight
pub record IsHeard (rules : Rules) (l : RetxBuffer) (s : Sender) (names : List ℕ) (lsn : ℕ) (named : Bool) (in_flight : List SentPdu) : Type 0 where
  pub stands : Stands rules l s
  pub size : length in_flight ≡ length l.in_flight
  pub told : (i : ℕ) → i < length l.in_flight → IsTold s names lsn (vt_a s + i) (at in_flight i)
  pub names_in : (k : ℕ) → has k names ≡ true → (vt_a s ≤ k) × (k < vt_s s)
  pub lsn_in : lsn ≤ vt_s s
  pub polled : l.polled < length l.in_flight → named ≡ has (vt_a s + l.polled) names

floor_less : (low : ℕ) (d : Option Discard) → floor (ended_by low d) ≤ floor d
floor_less low None = omega arith
floor_less low (Some d) = cond_both {A = Option Discard} (nat_lt d.k low) None (Some d) (λ x. floor x ≤ d.k) (λ _. omega arith) (λ _. omega arith)

zero_both : (a b : Bool) (x y : ℕ) → x ≡ y → y ≡ 0 → cond a 0 x ≡ cond b 0 y
zero_both true true x y e z = refl
zero_both true false x y e z = sym z
zero_both false true x y e z = e ∙ z
zero_both false false x y e z = e

false_both : (a b x y : Bool) → x ≡ y → y ≡ false → cond a false x ≡ cond b false y
false_both true true x y e z = refl
false_both true false x y e z = sym z
false_both false true x y e z = e ∙ z
false_both false false x y e z = e

-- a poll that is still out was out before
still_out : (t : Bool) (a : ℕ) (b : Bool) → (0 < cond t 0 a) ⊎ (cond t false b ≡ true) → (t ≡ false) × ((0 < a) ⊎ (b ≡ true))
still_out true a b out = ⊎_elim (λ (m : 0 < 0). absurd (omega arith)) (λ (q : false ≡ true). absurd (both_ways false refl q)) out
still_out false a b out = (refl, out)

or_comm : (a b : Bool) → (a || b) ≡ (b || a)
or_comm true true = refl
or_comm true false = refl
or_comm false true = refl
or_comm false false = refl

or_false : (a b : Bool) → (a || b) ≡ false → b ≡ false
or_false true b e = absurd (cc)
or_false false b e = e

same_order : (low a b : ℕ) → nat_lt (low + a) (low + b) ≡ nat_lt a b
same_order low a b = grind (arith, nat_tests)

run_step : (leaving low now n m : ℕ) (r : Option Running) (d : Option Discard) → now ≡ low + leaving → m ≡ n - leaving → IsRunning r d low n → IsRunning (run_on leaving r) (ended_by now d) now m
run_step leaving low now n m None None e1 e2 is = tt
run_step leaving low now n m None (Some d) e1 e2 is = absurd is
run_step leaving low now n m (Some r) None e1 e2 is = absurd is
run_step leaving low now n m (Some r) (Some d) e1 e2 is = go (nat_lt r.at leaving) refl (nat_lt d.k now) (ap₂ nat_lt (sym is.k) e1 ∙ same_order low r.at leaving)
  where
    go : (a : Bool) → nat_lt r.at leaving ≡ a → (b : Bool) → nat_lt d.k now ≡ nat_lt r.at leaving → IsRunning (cond a None (Some (record r { at = r.at - leaving }))) (cond (nat_lt d.k now) None (Some d)) now m
    go true ea b e = subst (λ c. IsRunning None (cond c None (Some d)) now m) (sym (e ∙ ea)) tt
    go false ea b e = subst (λ c. IsRunning (Some (record r { at = r.at - leaving })) (cond c None (Some d)) now m) (sym (e ∙ ea)) (record { k = omega (arith, is.k, ltb-false r.at leaving ea); n = is.n; due = is.due; mrw_timer = is.mrw_timer; inside = omega (arith, is.inside, ltb-false r.at leaving ea) })

-- the line once the PDUs in front have left
pub heard_stands : (rules : Rules) (l : RetxBuffer) (s : Sender) (names : List ℕ) (lsn : ℕ) (named : Bool) (in_flight : List SentPdu) → IsHeard rules l s names lsn named in_flight → Stands rules (left_front (front_acked in_flight) named in_flight l) (told s names lsn)
heard_stands rules l s names lsn named in_flight h = record {
  window = h.stands.window;
  rules_are = h.stands.rules_are;
  built = h.stands.built;
  ended = h.stands.ended;
  most = h.stands.most;
  few = omega (arith, shorter, h.stands.few);
  flying = omega (arith, low_is, shorter, within, h.stands.flying);
  next = h.stands.next;
  in_flight = λ i less. in_flight_is i less;
  acked_sent = acked_sent;
  requested = requested_is;
  unsent = h.stands.unsent;
  poll_timer = ⊎_elim (λ (m : 0 < s.poll_timer). ap₂ (λ b n. cond b 0 n) (same_test (inl m)) h.stands.poll_timer) (λ (m : s.poll_timer ≤ 0). zero_both (named || nat_lt l.polled leaving) told_now l.poll_timer s.poll_timer h.stands.poll_timer (omega arith)) (cases_lt 0 s.poll_timer);
  owed = ⊎_elim (λ (q : s.owed ≡ true). ap₂ (λ b c. cond b false c) (same_test (inr q)) h.stands.owed) (λ (q : s.owed ≡ false). false_both (named || nat_lt l.polled leaving) told_now l.owed s.owed h.stands.owed q) (cases_Bool s.owed);
  polled = λ out. polled_is out;
  running = run_step leaving low (run_of acked next) (length l.in_flight) (length (drop leaving in_flight)) l.running s.discard low_is shorter h.stands.running;
}
  where
    low : ℕ
    low = vt_a s

    leaving : ℕ
    leaving = front_acked in_flight

    next : ℕ
    next = vt_s s

    acked : List ℕ
    acked = now_acked s.acked names lsn

    within : leaving ≤ length l.in_flight
    within = omega (arith, front_le in_flight, h.size)

    shorter : length (drop leaving in_flight) ≡ length l.in_flight - leaving
    shorter = length-drop leaving in_flight ∙ ap (λ n. n - leaving) h.size

    acked_is : (k : ℕ) → has k acked ≡ ((nat_lt k lsn && not (has k names)) || has k s.acked)
    acked_is k = has-append k (less (below lsn) names) s.acked ∙ ap (λ b. b || has k s.acked) (has-less k (below lsn) names ∙ ap (λ b. b && not (has k names)) (has-below k lsn))

    flag : (i : ℕ) → i < length l.in_flight → (at in_flight i).acked ≡ has (low + i) acked
    flag i less = (h.told i less).acked ∙ sym (acked_is (low + i))

    all_in : (k : ℕ) → k < low + leaving → Is k acked
    all_in k less = ⊎_elim
        (λ (m : k < low). acked_is k ∙ or_right _ _ (run_in s.acked next k m))
        (λ (m : low ≤ k). let e : low + (k - low) ≡ k = omega arith in subst (λ j. Is j acked) e (sym (flag (k - low) (omega (arith, within))) ∙ front_in in_flight (k - low) (omega arith)))
        (cases_lt k low)

    one_out : low + leaving < next → has (low + leaving) acked ≡ false
    one_out less = sym (flag leaving (omega (arith, h.stands.flying))) ∙ front_out in_flight (omega (arith, h.stands.flying, h.size))

    low_is : run_of acked next ≡ low + leaving
    low_is = run_is acked next (low + leaving) (omega (arith, within, h.stands.flying)) all_in one_out

    in_flight_is : (i : ℕ) → i < length (drop leaving in_flight) → IsInFlight (told s names lsn) (run_of acked next + i) (at (drop leaving in_flight) i)
    in_flight_is i less =
        let there : leaving + i < length l.in_flight = omega (arith, shorter) in
        let number : low + (leaving + i) ≡ run_of acked next + i = omega (arith, low_is) in
        let place : at (drop leaving in_flight) i ≡ at in_flight (leaving + i) = get_or-drop leaving in_flight i blank in
        let t : IsTold s names lsn (run_of acked next + i) (at (drop leaving in_flight) i) = subst (λ k. IsTold s names lsn k (at (drop leaving in_flight) i)) number (subst (λ f. IsTold s names lsn (low + (leaving + i)) f) (sym place) (h.told (leaving + i) there)) in
        record { acked = t.acked ∙ sym (acked_is (run_of acked next + i)); requested = t.requested; named = t.named; builds = t.builds }

    acked_sent : (k : ℕ) → has k acked ≡ true → k < next
    acked_sent k e = ⊎_elim
        (λ (q : (nat_lt k lsn && not (has k names)) ≡ true). omega (arith, ltb-true k lsn (and_parts _ _ q).0, h.lsn_in))
        (λ (q : has k s.acked ≡ true). h.stands.acked_sent k q)
        (or_cases _ _ (sym (acked_is k) ∙ e))

    requested_is : (k : ℕ) → has k (less (less (names ++ s.requested) acked) (below (floor s.discard))) ≡ true → IsRequested (told s names lsn) k
    requested_is k e =
        let one = and_parts _ _ (sym (has-less k (less (names ++ s.requested) acked) (below (floor s.discard))) ∙ e) in
        let two = and_parts _ _ (sym (has-less k (names ++ s.requested) acked) ∙ one.0) in
        let free : has k acked ≡ false = not-true _ two.1 in
        let from : (low ≤ k) × (k < next) = ⊎_elim (λ (q : has k names ≡ true). h.names_in k q) (λ (q : has k s.requested ≡ true). ((h.stands.requested k q).from, (h.stands.requested k q).sent)) (or_cases _ _ (sym (has-append k names s.requested) ∙ two.0)) in
        record {
          from = ⊎_elim (λ (m : k < run_of acked next). absurd (both_ways _ free (run_in acked next k m))) (λ (m : run_of acked next ≤ k). m) (cases_lt k (run_of acked next));
          sent = from.1;
          is_open = free;
          high = omega (arith, floor_less (run_of acked next) s.discard, ltb-false k (floor s.discard) (sym (has-below k (floor s.discard)) ∙ not-true _ one.1));
        }

    told_now : Bool
    told_now = is_told s.polled (run_of acked next) names

    same_test : (0 < s.poll_timer) ⊎ (s.owed ≡ true) → (named || nat_lt l.polled leaving) ≡ is_told s.polled (run_of acked next) names
    same_test out =
        let p : IsPolled s l.polled (length l.in_flight) = h.stands.polled out in
        ap₂ (λ a b. a || b) (h.polled p.inside) (sym (same_order low l.polled leaving) ∙ ap (λ m. nat_lt (low + l.polled) m) (sym low_is))
        ∙ (or_comm (has (low + l.polled) names) (nat_lt (low + l.polled) (run_of acked next))
        ∙ ap (λ o. is_told o (run_of acked next) names) (sym p.number))

    polled_is : (0 < cond told_now 0 s.poll_timer) ⊎ (cond told_now false s.owed ≡ true) → IsPolled (told s names lsn) (l.polled - leaving) (length (drop leaving in_flight))
    polled_is out =
        let before : (told_now ≡ false) × ((0 < s.poll_timer) ⊎ (s.owed ≡ true)) = still_out told_now s.poll_timer s.owed out in
        let p : IsPolled s l.polled (length l.in_flight) = h.stands.polled before.1 in
        let stays : leaving ≤ l.polled = ltb-false l.polled leaving (or_false named (nat_lt l.polled leaving) (same_test before.1 ∙ before.0)) in
        let number : low + l.polled ≡ run_of acked next + (l.polled - leaving) = omega (arith, low_is) in
        record { number = p.number ∙ ap Some number; inside = omega (arith, p.inside, shorter) }
