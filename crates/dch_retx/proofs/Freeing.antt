-- An MRW_ACK that ends the discard.
use Rattle.std.proofs.Common.{◌≡◌, ◌+◌, ◌-◌, ◌<◌, ◌≤◌, ℕ, zero, suc, List, [], ◌∷◌, Bool, true, false, cond, not, ◌&&◌, ◌||◌, length, drop, Option, Some, None, arith, refl, sym, ap, ap₂, ◌∙◌, subst, length-drop}
use Rattle.std.specs.Prelude.{nat_lt, nat_le, min, ◌==◌}
use Rattle.std.proofs.lemmas.Bool.{both_ways, le-ltb, le-leb, leb-true}
use Rattle.std.proofs.lemmas.Bool.Decides.{nat_tests}
use Rattle.dch_retx.specs.declared.sent_pdu.SentPdu.{SentPdu}
use Rattle.dch_retx.specs.Flights.{at, acknowledged, changed_below, front_acked}
use Rattle.dch_am.specs.Numbers.{ahead, has, wrapped}
use Rattle.dch_am.specs.Rules.{Rules}
use Rattle.dch_am.specs.Sender.{Sender, Discard, vt_s, vt_a}
use Rattle.dch_am.specs.Acknowledging.{after_ack, ended_at, ends_discard, told}
use Rattle.dch_retx.specs.StatusItems.{StatusItem}
use Rattle.dch_retx.specs.StatusItems.{Missing, Unset, Set, Below, Obeyed}
use Rattle.dch_retx.specs.declared.buffer.Running.{Running}
use Rattle.dch_retx.specs.StatusItem.{ends_at, first_ending, or_else, place_of}
use Rattle.dch_retx.specs.RetxBuffer.{RetxBuffer, acked_below, after_ending, base_after, ending, first_number, freed}
use Rattle.dch_retx.specs.Standing.{IsInFlight, IsRunning, IsSame, Stands}
use Rattle.dch_retx.proofs.Lengths.{length-acked}
use Rattle.dch_retx.proofs.Fronts.{IsHeard, IsTold, heard_stands}
use Rattle.dch_retx.proofs.Naming.{IsOne, at-changed_below, one_is}
use Rattle.dch_retx.proofs.Saying.{base_is, requested_spec}

-- no discard
abbrev pub settled : Sender → Sender
settled s = record s { discard = None }

abbrev pub settled_line : RetxBuffer → RetxBuffer
settled_line l = record l { running = None }

settled_stands : (rules : Rules) (l : RetxBuffer) (s : Sender) → Stands rules l s → Stands rules (settled_line l) (settled s)
settled_stands rules l s is = record {
  window = is.window;
  rules_are = is.rules_are;
  built = is.built;
  ended = is.ended;
  most = is.most;
  few = is.few;
  flying = is.flying;
  next = is.next;
  in_flight = λ i less. let f : IsInFlight s (vt_a s + i) (at l.in_flight i) = is.in_flight i less in record { acked = f.acked; requested = f.requested; named = f.named; builds = f.builds };
  acked_sent = is.acked_sent;
  requested = λ k e. record { from = (is.requested k e).from; sent = (is.requested k e).sent; is_open = (is.requested k e).is_open; high = omega arith };
  unsent = is.unsent;
  poll_timer = is.poll_timer;
  owed = is.owed;
  polled = λ out. record { number = (is.polled out).number; inside = (is.polled out).inside };
  running = tt;
}

freed_heard : (rules : Rules) (l : RetxBuffer) (s : Sender) (m : ℕ) → Stands rules l s → m ≤ length l.in_flight → IsHeard rules (settled_line l) (settled s) [] (vt_a s + m) false (acked_below m l.in_flight)
freed_heard rules l s m is le = record {
  stands = settled_stands rules l s is;
  size = length-acked m l.in_flight;
  told = λ i inside. told_is i inside;
  names_in = λ k e. absurd (both_ways false refl e);
  lsn_in = omega (arith, is.flying);
  polled = λ inside. refl;
}
  where
    under : (low i n : ℕ) → i < n → nat_lt i (min m n) ≡ nat_lt (low + i) (low + m)
    under low i n inside = grind (arith, nat_tests)

    told_is : (i : ℕ) → i < length l.in_flight → IsTold (settled s) [] (vt_a s + m) (vt_a s + i) (at (acked_below m l.in_flight) i)
    told_is i inside =
        let f : IsInFlight s (vt_a s + i) (at l.in_flight i) = is.in_flight i inside in
        let one : IsOne (at l.in_flight i) (nat_le 0 i) (has (vt_a s + i) s.acked) (has (vt_a s + i) s.requested) false (nat_lt i (min m (length l.in_flight))) (nat_lt (vt_a s + i) 0) =
        one_is (at l.in_flight i) (nat_le 0 i) _ _ false (nat_lt i (min m (length l.in_flight))) (nat_lt (vt_a s + i) 0) f.acked f.requested f.named (le-leb 0 i (omega arith) ∙ ap not (sym (le-ltb (vt_a s + i) 0 (omega arith))))
        (λ w. ((is.requested (vt_a s + i) w).is_open, le-ltb (vt_a s + i) 0 (omega arith))) in
        let place : at (acked_below m l.in_flight) i ≡ cond (nat_lt i (min m (length l.in_flight))) (acknowledged (at l.in_flight i)) (at l.in_flight i) = at-changed_below acknowledged (min m (length l.in_flight)) l.in_flight i inside in
        let e : nat_lt i (min m (length l.in_flight)) ≡ nat_lt (vt_a s + i) (vt_a s + m) = under (vt_a s) i (length l.in_flight) inside in
        record {
          acked = ap (λ (g : SentPdu). g.acked) place ∙ (one.acked ∙ ap (λ u. (u && not false) || has (vt_a s + i) s.acked) e);
          requested = ap (λ (g : SentPdu). g.requested) place ∙ (one.requested ∙ (ap (λ u. ((false || has (vt_a s + i) s.requested) && not ((u && not false) || has (vt_a s + i) s.acked)) && not (nat_lt (vt_a s + i) 0)) e ∙ sym (requested_spec (vt_a s + i) s.requested s.acked [] (vt_a s + m) 0)));
          named = ap (λ (g : SentPdu). g.named) place ∙ one.named_is;
          builds = ap (λ (g : SentPdu). g.builds) place ∙ (one.builds ∙ f.builds);
        }

pub freed_stands : (rules : Rules) (l : RetxBuffer) (s : Sender) (m : ℕ) → Stands rules l s → m ≤ length l.in_flight → Stands rules (freed m l) (told (settled s) [] (vt_a s + m))
freed_stands rules l s m is le = heard_stands rules (settled_line l) (settled s) [] (vt_a s + m) false (acked_below m l.in_flight) (freed_heard rules l s m is le)

-- how many leave
front_freed : (k : ℕ) (in_flight : List SentPdu) → k ≤ length in_flight → ((i : ℕ) → i < length in_flight → (at in_flight i).named ≡ false) → front_acked (changed_below acknowledged k in_flight) ≡ k + front_acked (drop k in_flight)
front_freed zero in_flight le none = omega arith
front_freed (suc k) [] le none = absurd (omega arith)
front_freed (suc k) (f ∷ in_flight) le none =
    ap (λ b. cond (cond b (record f { named = false }) (record f { acked = true; requested = false })).acked (suc (front_acked (changed_below acknowledged k in_flight))) 0) (none 0 (omega arith))
    ∙ (ap suc (front_freed k in_flight (omega arith) (λ i less. none (suc i) (omega arith))) ∙ omega arith)

pub base_freed : (rules : Rules) (l : RetxBuffer) (s : Sender) (m : ℕ) → Stands rules l s → base_after (Some m) l ≡ front_acked (acked_below m l.in_flight)
base_freed rules l s m is = sym (front_freed (min m (length l.in_flight)) l.in_flight (omega arith) (λ i less. (is.in_flight i less).named))

-- one MRW_ACK, as a place and as a number
abbrev pub raised : ℕ → Option ℕ → Option ℕ
raised low None = None
raised low (Some m) = Some (low + m)

raised_cond : (low : ℕ) (b : Bool) (x y : Option ℕ) → raised low (cond b x y) ≡ cond b (raised low x) (raised low y)
raised_cond low true x y = refl
raised_cond low false x y = refl

-- the two tests, where the place is known
tests : (low n k d_k o indicator a_n : ℕ) → low + k ≡ d_k → raised low (cond ((o == 0) && (a_n == indicator)) (Some k) (cond (nat_lt 0 o && nat_le (k + o) n && (a_n == 0)) (Some (k + o)) None)) ≡ cond ((o == 0) && (a_n == indicator)) (Some d_k) (cond (nat_lt 0 o && nat_le (d_k + o) (low + n) && (a_n == 0)) (Some (d_k + o)) None)
tests low n k d_k o indicator a_n e =
    let sum : low + (k + o) ≡ d_k + o = omega arith in
    let test : nat_le (k + o) n ≡ nat_le (d_k + o) (low + n) = same (k + o) n (d_k + o) low sum in
    raised_cond low ((o == 0) && (a_n == indicator)) (Some k) (cond (nat_lt 0 o && nat_le (k + o) n && (a_n == 0)) (Some (k + o)) None)
    ∙ ap₂ (λ x y. cond ((o == 0) && (a_n == indicator)) x y) (ap Some e) (raised_cond low (nat_lt 0 o && nat_le (k + o) n && (a_n == 0)) (Some (k + o)) None ∙ ap₂ (λ b x. cond (nat_lt 0 o && b && (a_n == 0)) (Some x) None) test sum)
  where
    same : (a n b low : ℕ) → low + a ≡ b → nat_le a n ≡ nat_le b (low + n)
    same a n b low e = grind (arith, nat_tests)

place_is : (low first k d_k sn : ℕ) → first ≡ wrapped low → low + k ≡ d_k → place_of (wrapped (first + k)) sn ≡ ahead d_k sn
place_is low first k d_k sn e1 e2 = omega arith

ends_is : (low n next first k indicator sn a_n : ℕ) (d : Discard) → next ≡ low + n → first ≡ wrapped low → low + k ≡ d.k → indicator ≡ d.n → raised low (ends_at first n k indicator a_n sn) ≡ ended_at next (Some d) (record { number = sn; n = a_n })
ends_is low n next first k indicator sn a_n d e1 e2 e3 e4 =
    ap (λ o. raised low (cond ((o == 0) && (a_n == indicator)) (Some k) (cond (nat_lt 0 o && nat_le (k + o) n && (a_n == 0)) (Some (k + o)) None))) (place_is low first k d.k sn e2 e3)
    ∙ (tests low n k d.k (ahead d.k sn) indicator a_n e3
    ∙ ap₂ (λ m x. cond ((ahead d.k sn == 0) && (a_n == m)) (Some d.k) (cond (nat_lt 0 (ahead d.k sn) && nat_le (d.k + ahead d.k sn) x && (a_n == 0)) (Some (d.k + ahead d.k sn)) None)) e4 (sym e1))

-- the sender after the MRW_ACKs that are said
abbrev pub said_acks : Sender → List StatusItem → Sender
said_acks s [] = s
said_acks s (Obeyed n sn ∷ rest) = said_acks (after_ack s (record { number = sn; n = n })) rest
said_acks s (Missing x ∷ rest) = said_acks s rest
said_acks s (Unset x ∷ rest) = said_acks s rest
said_acks s (Set x ∷ rest) = said_acks s rest
said_acks s (Below x ∷ rest) = said_acks s rest

settled_acks : (t : Sender) (said : List StatusItem) → t.discard ≡ None → said_acks t said ≡ t
settled_acks t [] e = refl
settled_acks t (Obeyed n sn ∷ said) e = ap (λ d. said_acks (ends_discard t (ended_at (vt_s t) d (record { number = sn; n = n }))) said) e ∙ settled_acks t said e
settled_acks t (Missing x ∷ said) e = settled_acks t said e
settled_acks t (Unset x ∷ said) e = settled_acks t said e
settled_acks t (Set x ∷ said) e = settled_acks t said e
settled_acks t (Below x ∷ said) e = settled_acks t said e

-- the first that ends the discard
record IsFound (low n next first : ℕ) (r : Running) (s : Sender) (d : Discard) : Type 0 where
  count : vt_s s ≡ low + n
  first_is : first ≡ wrapped low
  same : IsSame r d low n
  discard : s.discard ≡ Some d

acks_by : (low n next first : ℕ) (r : Running) (s : Sender) (d : Discard) (said : List StatusItem) → IsFound low n next first r s d → said_acks s said ≡ ends_discard s (raised low (first_ending first n r.at r.n said))
acks_by low n next first r s d [] f = refl
acks_by low n next first r s d (Obeyed a_n sn ∷ said) f =
    ap (λ o. said_acks (ends_discard s o) said) (ap (λ x. ended_at (vt_s s) x (record { number = sn; n = a_n })) f.discard ∙ sym (ends_is low n (vt_s s) first r.at r.n sn a_n d f.count f.first_is f.same.k f.same.n))
    ∙ go (ends_at first n r.at r.n a_n sn) (acks_by low n next first r s d said f)
  where
    go : (o : Option ℕ) → said_acks s said ≡ ends_discard s (raised low (first_ending first n r.at r.n said)) → said_acks (ends_discard s (raised low o)) said ≡ ends_discard s (raised low (or_else o (first_ending first n r.at r.n said)))
    go None rest = rest
    go (Some m) rest = settled_acks (told (settled s) [] (low + m)) said refl
acks_by low n next first r s d (Missing x ∷ said) f = acks_by low n next first r s d said f
acks_by low n next first r s d (Unset x ∷ said) f = acks_by low n next first r s d said f
acks_by low n next first r s d (Set x ∷ said) f = acks_by low n next first r s d said f
acks_by low n next first r s d (Below x ∷ said) f = acks_by low n next first r s d said f

-- it frees no more than are in flight
at_le : (first n k indicator a_n sn m : ℕ) → k < n → ends_at first n k indicator a_n sn ≡ Some m → m ≤ n
at_le first n k indicator a_n sn m l e = go ((place_of (wrapped (first + k)) sn == 0) && (a_n == indicator)) (nat_lt 0 (place_of (wrapped (first + k)) sn)) (nat_le (k + place_of (wrapped (first + k)) sn) n) (a_n == 0) refl e
  where
    go : (a b c d : Bool) → nat_le (k + place_of (wrapped (first + k)) sn) n ≡ c → cond a (Some k) (cond (b && c && d) (Some (k + place_of (wrapped (first + k)) sn)) None) ≡ Some m → m ≤ n
    go true b c d q e = let s : k ≡ m = cc in omega arith
    go false true true true q e = let s : k + place_of (wrapped (first + k)) sn ≡ m = cc in omega (arith, leb-true (k + place_of (wrapped (first + k)) sn) n q)
    go false true true false q e = absurd (cc)
    go false true false d q e = absurd (cc)
    go false false c d q e = absurd (cc)

ending_le : (first n k indicator m : ℕ) (said : List StatusItem) → k < n → first_ending first n k indicator said ≡ Some m → m ≤ n
ending_le first n k indicator m [] l e = absurd (cc)
ending_le first n k indicator m (Obeyed a_n sn ∷ said) l e = go (ends_at first n k indicator a_n sn) refl e (λ q. ending_le first n k indicator m said l q)
  where
    go : (o : Option ℕ) → ends_at first n k indicator a_n sn ≡ o → or_else o (first_ending first n k indicator said) ≡ Some m → (first_ending first n k indicator said ≡ Some m → m ≤ n) → m ≤ n
    go None q e rest = rest e
    go (Some x) q e rest = at_le first n k indicator a_n sn m l (q ∙ e)
ending_le first n k indicator m (Missing x ∷ said) l e = ending_le first n k indicator m said l e
ending_le first n k indicator m (Unset x ∷ said) l e = ending_le first n k indicator m said l e
ending_le first n k indicator m (Set x ∷ said) l e = ending_le first n k indicator m said l e
ending_le first n k indicator m (Below x ∷ said) l e = ending_le first n k indicator m said l e

-- the line after the MRW_ACKs, and how many have left
pub record HasMoved (rules : Rules) (l : RetxBuffer) (s : Sender) (o : Option ℕ) (t : Sender) : Type 0 where
  pub stands : Stands rules (after_ending o l) t
  pub left : length (after_ending o l).in_flight ≡ length l.in_flight - base_after o l
  pub next : (after_ending o l).next ≡ l.next
  pub window : (after_ending o l).window ≡ l.window

by_ending : (rules : Rules) (l : RetxBuffer) (s : Sender) (o : Option ℕ) → ((m : ℕ) → o ≡ Some m → m ≤ length l.in_flight) → Stands rules l s → HasMoved rules l s o (ends_discard s (raised (vt_a s) o))
by_ending rules l s None le is = record { stands = is; left = omega arith; next = refl; window = refl }
by_ending rules l s (Some m) le is = record {
  stands = freed_stands rules l s m is (le m refl);
  left = length-drop (front_acked (acked_below m l.in_flight)) (acked_below m l.in_flight) ∙ ap₂ (λ a b. a - b) (length-acked m l.in_flight) (sym (base_freed rules l s m is));
  next = refl;
  window = refl;
}

moves_by : (rules : Rules) (l : RetxBuffer) (s : Sender) (said : List StatusItem) (r : Option Running) (d : Option Discard) → s.discard ≡ d → IsRunning r d (vt_a s) (length l.in_flight) → Stands rules l s → HasMoved rules l s (ending said l r) (said_acks s said)
moves_by rules l s said None None e run is = subst (λ t. HasMoved rules l s None t) (sym (settled_acks s said e)) (by_ending rules l s None (λ m q. absurd (cc)) is)
moves_by rules l s said None (Some d) e run is = absurd run
moves_by rules l s said (Some r) None e run is = absurd run
moves_by rules l s said (Some r) (Some d) e run is =
    subst (λ t. HasMoved rules l s (first_ending (first_number l) (length l.in_flight) r.at r.n said) t)
    (sym (acks_by (vt_a s) (length l.in_flight) (vt_s s) (first_number l) r s d said (record { count = sym is.flying; first_is = (base_is rules l s is).first_is; same = run; discard = e })))
    (by_ending rules l s (first_ending (first_number l) (length l.in_flight) r.at r.n said) (λ m q. ending_le (first_number l) (length l.in_flight) r.at r.n m said run.inside q) is)

pub moves_stand : (rules : Rules) (l : RetxBuffer) (s : Sender) (said : List StatusItem) → Stands rules l s → HasMoved rules l s (ending said l l.running) (said_acks s said)
moves_stand rules l s said is = moves_by rules l s said l.running s.discard refl is.running is
