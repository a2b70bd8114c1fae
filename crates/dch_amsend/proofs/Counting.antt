-- How many PDUs could be built one after another.
use Rattle.std.proofs.Common.{◌≡◌, ◌+◌, ◌-◌, ◌*◌, ◌<◌, ◌≤◌, ℕ, zero, suc, List, [], ◌∷◌, ◌++◌, Bool, true, false, cond, ◌&&◌, ◌||◌, length, min, set, arith, refl, sym, ap, ap₂, ◌∙◌, length-append, length-set}
use Rattle.std.specs.Prelude.{nat_lt, nat_le}
use Rattle.std.proofs.lemmas.Bool.{and_parts, lt-ltb, ltb-true, ltb-false}
use Rattle.dch_retx.specs.declared.sent_pdu.SentPdu.{SentPdu}
use Rattle.dch_retx.specs.Flights.{at, built, first_requested, sent_once, requested_in}
use Rattle.dch_am.specs.Numbers.{has}
use Rattle.dch_am.specs.Rules.{Rules}
use Rattle.dch_am.specs.Bodies.{TxQueue, after_body, ends_of, is_left, next_body}
use Rattle.dch_am.specs.Sender.{Sender, vt_a, vt_s}
use Rattle.dch_am.specs.Building.{Choice, Again as Requested, New as Fresh, Last as Latest, NoPdu as Nothing, after_build, after_choice, again, anew, builds_within, choice, is_pdu, once_more, passes, polls}
use Rattle.dch_retx.specs.declared.buffer.Pick.TheVariants.{Again, New, Last, NoPdu}
use Rattle.dch_retx.specs.RetxBuffer.{RetxBuffer}
use Rattle.dch_retx.specs.Polling.{again_line, last_line, new_line}
use Rattle.dch_retx.specs.Standing.{Stands as LineStands, chosen}
use Rattle.dch_retx.proofs.Picking.{picked_is}
use Rattle.dch_retx.proofs.Sending.{again_sends, last_sends, new_sends}
use Rattle.dch_amsend.specs.BufferStanding.{fills}
use Rattle.dch_amsend.specs.Counting.{builds_of}

-- one that is requested is built
requested_less : (xs : List SentPdu) (i : ℕ) (f : SentPdu) → i < length xs → (at xs i).requested ≡ true → f.requested ≡ false → requested_in xs ≡ suc (requested_in (set xs i f))
requested_less [] i f l w n = absurd (omega arith)
requested_less (x ∷ xs) zero f l w n = ap (λ b. cond b (suc (requested_in xs)) (requested_in xs)) w ∙ ap (λ b. suc (cond b (suc (requested_in xs)) (requested_in xs))) (sym n)
requested_less (x ∷ xs) (suc i) f l w n = go x.requested (requested_less xs i f (omega arith) w n)
  where
    go : (b : Bool) → requested_in xs ≡ suc (requested_in (set xs i f)) → cond b (suc (requested_in xs)) (requested_in xs) ≡ suc (cond b (suc (requested_in (set xs i f))) (requested_in (set xs i f)))
    go true e = ap suc e
    go false e = e

-- one that isn't requested is built again, or is new
requested_same : (xs : List SentPdu) (i : ℕ) (f : SentPdu) → i < length xs → (at xs i).requested ≡ false → f.requested ≡ false → requested_in (set xs i f) ≡ requested_in xs
requested_same [] i f l w n = absurd (omega arith)
requested_same (x ∷ xs) zero f l w n = ap (λ b. cond b (suc (requested_in xs)) (requested_in xs)) n ∙ ap (λ b. cond b (suc (requested_in xs)) (requested_in xs)) (sym w)
requested_same (x ∷ xs) (suc i) f l w n = ap (λ k. cond x.requested (suc k) k) (requested_same xs i f (omega arith) w n)

requested_new : (xs : List SentPdu) (f : SentPdu) → f.requested ≡ false → requested_in (xs ++ f ∷ []) ≡ requested_in xs
requested_new [] f n = ap (λ b. cond b 1 0) n
requested_new (x ∷ xs) f n = ap (λ k. cond x.requested (suc k) k) (requested_new xs f n)

-- the first that is requested, and none
first_is_requested : (xs : List SentPdu) → first_requested xs < length xs → (at xs (first_requested xs)).requested ≡ true
first_is_requested [] l = absurd (omega arith)
first_is_requested (x ∷ xs) l = go x.requested refl l (λ h. first_is_requested xs h)
  where
    go : (b : Bool) → x.requested ≡ b → cond b 0 (suc (first_requested xs)) < suc (length xs) → (first_requested xs < length xs → (at xs (first_requested xs)).requested ≡ true) → (at (x ∷ xs) (cond b 0 (suc (first_requested xs)))).requested ≡ true
    go true e h rest = e
    go false e h rest = rest (omega arith)

pub none_requested : (xs : List SentPdu) → length xs ≤ first_requested xs → requested_in xs ≡ 0
none_requested [] l = refl
none_requested (x ∷ xs) l = go x.requested l (λ h. none_requested xs h)
  where
    go : (b : Bool) → suc (length xs) ≤ cond b 0 (suc (first_requested xs)) → (length xs ≤ first_requested xs → requested_in xs ≡ 0) → cond b (suc (requested_in xs)) (requested_in xs) ≡ 0
    go true h rest = absurd (omega arith)
    go false h rest = rest (omega arith)

pub none_at : (xs : List SentPdu) (i : ℕ) → i < length xs → length xs ≤ first_requested xs → (at xs i).requested ≡ false
none_at [] i l none = absurd (omega arith)
none_at (x ∷ xs) i l none = go x.requested refl none i l (λ j a b. none_at xs j a b)
  where
    go : (b : Bool) → x.requested ≡ b → suc (length xs) ≤ cond b 0 (suc (first_requested xs)) → (i : ℕ) → i < suc (length xs) → ((j : ℕ) → j < length xs → length xs ≤ first_requested xs → (at xs j).requested ≡ false) → (at (x ∷ xs) i).requested ≡ false
    go true e h i l rest = absurd (omega arith)
    go false e h zero l rest = e
    go false e h (suc i) l rest = rest i (omega arith) (omega arith)

-- a PDU pays the poll that is owed
paid : (rules : Rules) (s : Sender) (reason : Bool) → cond (polls rules s reason) false s.owed ≡ false
paid rules s reason = go reason s.owed (passes rules.poll_pdus (s.builds - 1) s.builds) (nat_lt 0 rules.poll_window && nat_le (rules.poll_window * rules.window) (100 * (vt_s s - vt_a s)))
  where
    go : (a b c e : Bool) → cond (a || b || c || e) false b ≡ false
    go true b c e = refl
    go false true c e = refl
    go false false true e = refl
    go false false false true = refl
    go false false false false = refl

-- a build that gives a PDU is counted
one_more : (n : ℕ) (rules : Rules) (d : ℕ) (s : Sender) (c : Choice) → choice rules s ≡ c → is_pdu c ≡ true → builds_within (suc n) rules d s ≡ suc (builds_within n rules d (after_choice c rules d s))
one_more n rules d s c e is = ap (λ b. cond b (suc (builds_within n rules d (after_build rules d s))) 0) (ap is_pdu e ∙ is) ∙ ap (λ x. suc (builds_within n rules d (after_choice x rules d s))) e

pub no_more : (n : ℕ) (rules : Rules) (d : ℕ) (s : Sender) → choice rules s ≡ Nothing → builds_within (suc n) rules d s ≡ 0
no_more n rules d s e = ap (λ b. cond b (suc (builds_within n rules d (after_build rules d s))) 0) (ap is_pdu e)

-- no more than so many are filled, and one bound more counts one more at the most
fills_few : (n d : ℕ) (q : TxQueue) → fills n d q ≤ n
unfolding fills
fills_few zero d q = omega arith
fills_few (suc n) d q = go (is_left q) (fills_few n d (after_body d q))
  where
    go : (b : Bool) → fills n d (after_body d q) ≤ n → cond b (suc (fills n d (after_body d q))) 0 ≤ suc n
    go true l = omega arith
    go false l = omega arith

fills_next : (n d : ℕ) (q : TxQueue) → fills n d q ≡ min n (fills (suc n) d q)
unfolding fills
fills_next zero d q = omega arith
fills_next (suc n) d q = go (is_left q) (fills_next n d (after_body d q))
  where
    go : (b : Bool) → fills n d (after_body d q) ≡ min n (fills (suc n) d (after_body d q)) → cond b (suc (fills n d (after_body d q))) 0 ≡ min (suc n) (cond b (suc (fills (suc n) d (after_body d q))) 0)
    go true e = omega (arith, e)
    go false e = omega arith

fills_left : (n d : ℕ) (q : TxQueue) → is_left q ≡ true → fills (suc n) d q ≡ suc (fills n d (after_body d q))
unfolding fills
fills_left n d q e = ap (λ b. cond b (suc (fills n d (after_body d q))) 0) e

pub fills_none : (n d : ℕ) (q : TxQueue) → is_left q ≡ false → fills n d q ≡ 0
unfolding fills
fills_none zero d q e = refl
fills_none (suc n) d q e = ap (λ b. cond b (suc (fills n d (after_body d q))) 0) e

-- numbers of builds
count_again : (n w room f g flying : ℕ) (b : Bool) → f ≡ min n g → suc (min n (builds_of w (min room f) false flying)) ≡ min (suc n) (builds_of (suc w) (min room g) b flying)
count_again n w room f g flying b e = go (nat_lt 0 (w + min room f)) (nat_lt 0 (suc w + min room g)) refl refl
  where
    go : (x y : Bool) → nat_lt 0 (w + min room f) ≡ x → nat_lt 0 (suc w + min room g) ≡ y → suc (min n (cond x (w + min room f) 0)) ≡ min (suc n) (cond y (suc w + min room g) (cond (b && nat_lt 0 flying) 1 0))
    go true true ex ey = omega (arith, e)
    go false true ex ey = omega (arith, e, ltb-false _ _ ex)
    go x false ex ey = absurd (omega (arith, ltb-false _ _ ey))

count_new : (n room f flying : ℕ) (b : Bool) → 0 < room → suc (min n (builds_of 0 (min (room - 1) f) false (flying + 1))) ≡ min (suc n) (builds_of 0 (min room (suc f)) b flying)
count_new n room f flying b one = go (nat_lt 0 (0 + min (room - 1) f)) (nat_lt 0 (0 + min room (suc f))) refl refl
  where
    go : (x y : Bool) → nat_lt 0 (0 + min (room - 1) f) ≡ x → nat_lt 0 (0 + min room (suc f)) ≡ y → suc (min n (cond x (0 + min (room - 1) f) 0)) ≡ min (suc n) (cond y (0 + min room (suc f)) (cond (b && nat_lt 0 flying) 1 0))
    go true true ex ey = omega arith
    go false true ex ey = omega (arith, ltb-false _ _ ex)
    go x false ex ey = absurd (omega (arith, ltb-false _ _ ey))

count_last : (n flying : ℕ) → 0 < flying → suc (min n (builds_of 0 0 false flying)) ≡ min (suc n) (builds_of 0 0 true flying)
count_last n flying one = let first : suc (min n 0) ≡ min (suc n) 1 = omega arith in first ∙ ap (λ b. min (suc n) (cond b 1 0)) (sym (lt-ltb 0 flying one))

-- what a build leaves: the poll is paid, and nothing else counts
record Left (rules : Rules) (l : RetxBuffer) (s : Sender) (requested flying : ℕ) (q : TxQueue) : Type 0 where
  stands : LineStands rules l s
  none_owed : s.owed ≡ false
  requested_is : requested_in l.in_flight ≡ requested
  flying_is : length l.in_flight ≡ flying
  unsent_is : s.unsent ≡ q

-- the count for a line and a sender
abbrev counted : ℕ → Rules → ℕ → RetxBuffer → Sender → ℕ
counted n rules d l s = min n (builds_of (requested_in l.in_flight) (min (rules.window - length l.in_flight) (fills n d s.unsent)) s.owed (length l.in_flight))

left_counted : (n : ℕ) (rules : Rules) (d : ℕ) (l : RetxBuffer) (s : Sender) (requested flying : ℕ) (q : TxQueue) → Left rules l s requested flying q → builds_within n rules d s ≡ min n (builds_of (requested_in l.in_flight) (min (rules.window - length l.in_flight) (fills n d s.unsent)) s.owed (length l.in_flight)) → builds_within n rules d s ≡ min n (builds_of requested (min (rules.window - flying) (fills n d q)) false flying)
left_counted n rules d l s requested flying q is e =
    e ∙ (ap₂ (λ (w : ℕ) (k : ℕ). min n (builds_of w (min (rules.window - k) (fills n d s.unsent)) s.owed k)) is.requested_is is.flying_is
    ∙ ap₂ (λ (x : TxQueue) (b : Bool). min n (builds_of requested (min (rules.window - flying) (fills n d x)) b flying)) is.unsent_is is.none_owed)

again_left : (rules : Rules) (d : ℕ) (l : RetxBuffer) (s : Sender) → first_requested l.in_flight < length l.in_flight → LineStands rules l s → (w : ℕ) → requested_in l.in_flight ≡ suc w → Left rules (again_line (first_requested l.in_flight) l) (after_choice (Requested (vt_a s + first_requested l.in_flight)) rules d s) w (length l.in_flight) s.unsent
again_left rules d l s inside is w e = record {
  stands = (again_sends rules l s (first_requested l.in_flight) d inside is).stands;
  none_owed = paid rules (again s (vt_a s + first_requested l.in_flight)) _;
  requested_is = omega (arith, e, requested_less l.in_flight (first_requested l.in_flight) (built (at l.in_flight (first_requested l.in_flight))) inside (first_is_requested l.in_flight inside) refl);
  flying_is = length-set l.in_flight (first_requested l.in_flight) (built (at l.in_flight (first_requested l.in_flight)));
  unsent_is = refl;
}

-- a PDU in which so many SDUs end
abbrev new_pdu : ℕ → SentPdu
new_pdu n = sent_once (record { sdu = 0; used = 0; pieces = n; rest = 0 }) false false

new_left : (rules : Rules) (d : ℕ) (l : RetxBuffer) (s : Sender) → length l.in_flight < rules.window → LineStands rules l s → Left rules (new_line (new_pdu (ends_of (next_body d s.unsent))) (is_left (after_body d s.unsent)) l) (after_choice Fresh rules d s) (requested_in l.in_flight) (length l.in_flight + 1) (after_body d s.unsent)
new_left rules d l s room is = record {
  stands = (new_sends rules l s (new_pdu (ends_of (next_body d s.unsent))) (is_left (after_body d s.unsent)) d room (record { acked = refl; requested = refl; named = refl; builds = refl; ends_are = omega arith }) refl is).stands;
  none_owed = paid rules (anew d s) _;
  requested_is = requested_new l.in_flight (new_pdu (ends_of (next_body d s.unsent))) refl;
  flying_is = length-append l.in_flight (new_pdu (ends_of (next_body d s.unsent)) ∷ []);
  unsent_is = refl;
}

-- the last PDU's number, and that it isn't requested where none is requested
pub last_is : (rules : Rules) (l : RetxBuffer) (s : Sender) → 0 < length l.in_flight → LineStands rules l s → vt_a s + (length l.in_flight - 1) ≡ vt_s s - 1
last_is rules l s one is = omega (arith, is.flying)

pub last_not : (rules : Rules) (l : RetxBuffer) (s : Sender) → 0 < length l.in_flight → length l.in_flight ≤ first_requested l.in_flight → LineStands rules l s → has (vt_a s + (length l.in_flight - 1)) s.requested ≡ false
last_not rules l s one none is = sym (is.in_flight (length l.in_flight - 1) (omega arith)).requested ∙ none_at l.in_flight (length l.in_flight - 1) (omega arith) none

last_left : (rules : Rules) (d : ℕ) (l : RetxBuffer) (s : Sender) → 0 < length l.in_flight → length l.in_flight ≤ first_requested l.in_flight → LineStands rules l s → Left rules (last_line (length l.in_flight - 1) l) (after_choice (Latest (vt_a s + (length l.in_flight - 1))) rules d s) (requested_in l.in_flight) (length l.in_flight) s.unsent
last_left rules d l s one none is = record {
  stands = (last_sends rules l s (length l.in_flight - 1) d (omega arith) (last_is rules l s one is) (last_not rules l s one none is) is).stands;
  none_owed = paid rules (once_more s) false;
  requested_is = requested_same l.in_flight (length l.in_flight - 1) (built (at l.in_flight (length l.in_flight - 1))) (omega arith) (none_at l.in_flight (length l.in_flight - 1) (omega arith) none) refl;
  flying_is = length-set l.in_flight (length l.in_flight - 1) (built (at l.in_flight (length l.in_flight - 1)));
  unsent_is = refl;
}

-- the tests of a choice
record IsChoice (rules : Rules) (l : RetxBuffer) (s : Sender) (a b c : Bool) : Type 0 where
  first : nat_lt (first_requested l.in_flight) (length l.in_flight) ≡ a
  second : (nat_lt (length l.in_flight) rules.window && is_left s.unsent) ≡ b
  third : (s.owed && nat_lt 0 (length l.in_flight)) ≡ c
  choice_is : choice rules s ≡ cond a (Requested (vt_a s + first_requested l.in_flight)) (cond b Fresh (cond c (Latest (vt_a s + (length l.in_flight - 1))) Nothing))

chosen_cond : (low : ℕ) (a b c : Bool) (x z : ℕ) → chosen low (cond a (Again x) (cond b New (cond c (Last z) NoPdu))) ≡ cond a (Requested (low + x)) (cond b Fresh (cond c (Latest (low + z)) Nothing))
chosen_cond low true b c x z = refl
chosen_cond low false true c x z = refl
chosen_cond low false false true x z = refl
chosen_cond low false false false x z = refl

is_choice : (rules : Rules) (l : RetxBuffer) (s : Sender) (a b c : Bool) → LineStands rules l s → nat_lt (first_requested l.in_flight) (length l.in_flight) ≡ a → (nat_lt (length l.in_flight) rules.window && is_left s.unsent) ≡ b → (s.owed && nat_lt 0 (length l.in_flight)) ≡ c → IsChoice rules l s a b c
is_choice rules l s a b c is e1 e2 e3 = record {
  first = e1;
  second = e2;
  third = e3;
  choice_is =
      sym (picked_is rules l s (is_left s.unsent) is refl)
      ∙ (chosen_cond (vt_a s) (nat_lt (first_requested l.in_flight) (length l.in_flight)) (nat_lt (length l.in_flight) l.window && is_left s.unsent) (l.owed && nat_lt 0 (length l.in_flight)) (first_requested l.in_flight) (length l.in_flight - 1)
      ∙ (ap₂ (λ x y. cond x (Requested (vt_a s + first_requested l.in_flight)) (cond y Fresh (cond (l.owed && nat_lt 0 (length l.in_flight)) (Latest (vt_a s + (length l.in_flight - 1))) Nothing))) e1 (ap (λ w. nat_lt (length l.in_flight) w && is_left s.unsent) is.window ∙ e2)
      ∙ ap (λ z. cond a (Requested (vt_a s + first_requested l.in_flight)) (cond b Fresh (cond z (Latest (vt_a s + (length l.in_flight - 1))) Nothing))) (ap (λ o. o && nat_lt 0 (length l.in_flight)) is.owed ∙ e3)));
}

none_fresh : (m d len room : ℕ) (q : TxQueue) → (nat_lt len room && is_left q) ≡ false → min (room - len) (fills m d q) ≡ 0
none_fresh m d len room q e = go (nat_lt len room) (is_left q) refl refl e
  where
    go : (a b : Bool) → nat_lt len room ≡ a → is_left q ≡ b → (a && b) ≡ false → min (room - len) (fills m d q) ≡ 0
    go true true e1 e2 h = absurd (cc)
    go true false e1 e2 h = omega (arith, fills_none m d q e2)
    go false b e1 e2 h = omega (arith, ltb-false _ _ e1)

-- the count of a definition's builds is that of a line
pub counts : (n : ℕ) (rules : Rules) (d : ℕ) (l : RetxBuffer) (s : Sender) → LineStands rules l s → builds_within n rules d s ≡ counted n rules d l s
counts zero rules d l s is = omega arith
counts (suc n) rules d l s is = go (nat_lt (first_requested l.in_flight) (length l.in_flight)) (nat_lt (length l.in_flight) rules.window && is_left s.unsent) (s.owed && nat_lt 0 (length l.in_flight)) (is_choice rules l s _ _ _ is refl refl refl) (λ m t st. counts n rules d m t st)
  where
    room : ℕ
    room = rules.window - length l.in_flight

    go : (a b c : Bool) → IsChoice rules l s a b c → ((m : RetxBuffer) (t : Sender) → LineStands rules m t → builds_within n rules d t ≡ counted n rules d m t) → builds_within (suc n) rules d s ≡ counted (suc n) rules d l s
    go true b c ch rest =
        let inside : first_requested l.in_flight < length l.in_flight = ltb-true _ _ ch.first in
        let w : ℕ = requested_in (set l.in_flight (first_requested l.in_flight) (built (at l.in_flight (first_requested l.in_flight)))) in
        let e : requested_in l.in_flight ≡ suc w = requested_less l.in_flight (first_requested l.in_flight) (built (at l.in_flight (first_requested l.in_flight))) inside (first_is_requested l.in_flight inside) refl in
        let t : Sender = after_choice (Requested (vt_a s + first_requested l.in_flight)) rules d s in
        let lf : Left rules (again_line (first_requested l.in_flight) l) t w (length l.in_flight) s.unsent = again_left rules d l s inside is w e in
        one_more n rules d s (Requested (vt_a s + first_requested l.in_flight)) ch.choice_is refl
        ∙ (ap suc (left_counted n rules d (again_line (first_requested l.in_flight) l) t w (length l.in_flight) s.unsent lf (rest (again_line (first_requested l.in_flight) l) t lf.stands))
        ∙ (count_again n w (rules.window - length l.in_flight) (fills n d s.unsent) (fills (suc n) d s.unsent) (length l.in_flight) s.owed (fills_next n d s.unsent)
        ∙ ap (λ k. min (suc n) (builds_of k (min (rules.window - length l.in_flight) (fills (suc n) d s.unsent)) s.owed (length l.in_flight))) (sym e)))
    go false true c ch rest =
        let none : requested_in l.in_flight ≡ 0 = none_requested l.in_flight (ltb-false _ _ ch.first) in
        let parts = and_parts _ _ ch.second in
        let below : length l.in_flight < rules.window = ltb-true _ _ parts.0 in
        let m : RetxBuffer = new_line (new_pdu (ends_of (next_body d s.unsent))) (is_left (after_body d s.unsent)) l in
        let t : Sender = after_choice Fresh rules d s in
        let lf : Left rules m t (requested_in l.in_flight) (length l.in_flight + 1) (after_body d s.unsent) = new_left rules d l s below is in
        let less : rules.window - (length l.in_flight + 1) ≡ rules.window - length l.in_flight - 1 = omega arith in
        one_more n rules d s Fresh ch.choice_is refl
        ∙ (ap suc (left_counted n rules d m t (requested_in l.in_flight) (length l.in_flight + 1) (after_body d s.unsent) lf (rest m t lf.stands))
        ∙ (ap₂ (λ w k. suc (min n (builds_of w (min k (fills n d (after_body d s.unsent))) false (length l.in_flight + 1)))) none less
        ∙ (count_new n (rules.window - length l.in_flight) (fills n d (after_body d s.unsent)) (length l.in_flight) s.owed (omega arith)
        ∙ ap₂ (λ w k. min (suc n) (builds_of w (min (rules.window - length l.in_flight) k) s.owed (length l.in_flight))) (sym none) (sym (fills_left n d s.unsent parts.1)))))
    go false false true ch rest =
        let first : length l.in_flight ≤ first_requested l.in_flight = ltb-false _ _ ch.first in
        let none : requested_in l.in_flight ≡ 0 = none_requested l.in_flight first in
        let parts = and_parts _ _ ch.third in
        let one : 0 < length l.in_flight = ltb-true _ _ parts.1 in
        let t : Sender = after_choice (Latest (vt_a s + (length l.in_flight - 1))) rules d s in
        let lf : Left rules (last_line (length l.in_flight - 1) l) t (requested_in l.in_flight) (length l.in_flight) s.unsent = last_left rules d l s one first is in
        one_more n rules d s (Latest (vt_a s + (length l.in_flight - 1))) ch.choice_is refl
        ∙ (ap suc (left_counted n rules d (last_line (length l.in_flight - 1) l) t (requested_in l.in_flight) (length l.in_flight) s.unsent lf (rest (last_line (length l.in_flight - 1) l) t lf.stands))
        ∙ (ap₂ (λ w k. suc (min n (builds_of w k false (length l.in_flight)))) none (none_fresh n d (length l.in_flight) rules.window s.unsent ch.second)
        ∙ (count_last n (length l.in_flight) one
        ∙ (ap (λ b. min (suc n) (builds_of 0 0 b (length l.in_flight))) (sym parts.0)
        ∙ ap₂ (λ w k. min (suc n) (builds_of w k s.owed (length l.in_flight))) (sym none) (sym (none_fresh (suc n) d (length l.in_flight) rules.window s.unsent ch.second))))))
    go false false false ch rest =
        let none : requested_in l.in_flight ≡ 0 = none_requested l.in_flight (ltb-false _ _ ch.first) in
        let zero_of : 0 ≡ min (suc n) 0 = omega arith in
        no_more n rules d s ch.choice_is
        ∙ (zero_of ∙ (ap (λ b. min (suc n) (cond b 1 0)) (sym ch.third)
        ∙ ap₂ (λ w k. min (suc n) (builds_of w k s.owed (length l.in_flight))) (sym none) (sym (none_fresh (suc n) d (length l.in_flight) rules.window s.unsent ch.second))))
