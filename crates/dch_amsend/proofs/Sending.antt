-- Each event leaves a running sender standing for the sender after it.
use Rattle.std.proofs.Common.{◌≡◌, ◌+◌, ◌-◌, ◌<◌, ◌≤◌, ℕ, zero, suc, List, [], ◌∷◌, Bool, true, false, cond, not, ◌&&◌, ◌||◌, length, Option, Some, None, arith, refl, sym, ap, ap₂, ◌∙◌, subst, length-drop}
use Rattle.std.specs.Prelude.{nat_lt, nat_le, is_some, slice_index, ◌==◌}
use Rattle.std.proofs.lemmas.Bool.{cond_both, ltb-false}
use Rattle.dch_bits.specs.declared.offer.Offer.{Offer}
use Rattle.dch_bits.specs.declared.offer.Offer.TheVariants.{Accepted, Full, WrongSize}
use Rattle.dch_am.specs.declared.answers.StatusTaken.{StatusTaken}
use Rattle.dch_am.specs.declared.answers.StatusTaken.TheVariants.{Taken, Outside}
use Rattle.dch_am.specs.Acknowledging.{after_ack, after_acks, after_answer, after_fields, after_telling_of, all_names, ended_at, ends_discard, lsn_of, status_answer, reports, told}
use Rattle.dch_am.specs.Building.{Choice, Again, New, Last, NoPdu, after_build, after_choice, body_at, choice}
use Rattle.dch_am.specs.Discards.{after_moving, after_mrw, after_tick, can_take, discards, discards_at, due_by_age, due_by_sending, mrw_due, place_from, sent_enough, tick_sender}
use Rattle.dch_am.specs.Texts.{IsMoved, IsMrw}
use Rattle.dch_am.specs.Rules.{Rules, rules_of}
use Rattle.dch_am.specs.Sender.{Discard, Sender, after_offer, discarded, vt_a, vt_s, offered}
use Rattle.dch_retx.specs.RetxBuffer.{RetxBuffer}
use Rattle.dch_retx.specs.Standing.{Stands as LineStands, IsRunning, timed, timer_of}
use Rattle.dch_retx.specs.Flights.{at}
use Rattle.dch_am.specs.Cuts.{IsCut}
use Rattle.dch_retx.specs.declared.buffer.Running.{Running}
use Rattle.dch_rlcpdu.specs.Fields.{Field, NoMoreField, WindowField, AckField, ListField, BitmapField, MrwField, MrwAckField}
use Rattle.dch_amsend.specs.SduDiscard.{SduDiscard}
use Rattle.dch_amsend.specs.DiscardStanding.{AreReleased, DiscardStands, HasSameSdus, IsTicked, released}
use Rattle.dch_amsend.proofs.Discards.{alike_stands, few_released}
use Rattle.dch_amsend.proofs.Events.{low_next}
use Rattle.dch_amsend.proofs.Extents.{released_next}
use Rattle.dch_amsend.specs.declared.scan.Overdue.{Overdue}
use Rattle.dch_amsend.specs.Discarding.{discarded_by}
use Rattle.dch_amsend.specs.BufferStanding.{HasBody}
use Rattle.dch_amsend.specs.Outgoing.{IsOutgoing, Outgoing}
use Rattle.dch_amsend.specs.Standing.{Sending, Stands}

-- a status changes neither units nor PDUs nor what is counted of them
record Unchanged (s now : Sender) : Type 0 where
  accepted : now.accepted ≡ s.accepted
  bodies : now.bodies ≡ s.bodies
  accepted_at : now.accepted_at ≡ s.accepted_at
  ticks : now.ticks ≡ s.ticks
  dropped : now.dropped ≡ s.dropped
  discard_count : discarded now ≡ discarded s

unchanged_itself : (s : Sender) → Unchanged s s
unchanged_itself s = record { accepted = refl; bodies = refl; accepted_at = refl; ticks = refl; dropped = refl; discard_count = refl }

unchanged_twice : (a b c : Sender) → Unchanged a b → Unchanged b c → Unchanged a c
unchanged_twice a b c p q = record { accepted = q.accepted ∙ p.accepted; bodies = q.bodies ∙ p.bodies; accepted_at = q.accepted_at ∙ p.accepted_at; ticks = q.ticks ∙ p.ticks; dropped = q.dropped ∙ p.dropped; discard_count = q.discard_count ∙ p.discard_count }

unchanged_ends : (s : Sender) (o : Option ℕ) → Unchanged s (ends_discard s o)
unchanged_ends s None = unchanged_itself s
unchanged_ends s (Some m) = record { accepted = refl; bodies = refl; accepted_at = refl; ticks = refl; dropped = refl; discard_count = refl }

unchanged_acks : (s : Sender) (fields : List Field) → Unchanged s (after_acks s fields)
unchanged_acks s [] = unchanged_itself s
unchanged_acks s (MrwAckField n sn ∷ fields) = unchanged_twice s (after_ack s (record { number = sn; n = n })) _ (unchanged_ends s (ended_at (vt_s s) s.discard (record { number = sn; n = n }))) (unchanged_acks (after_ack s (record { number = sn; n = n })) fields)
unchanged_acks s (NoMoreField ∷ fields) = unchanged_acks s fields
unchanged_acks s (WindowField size ∷ fields) = unchanged_acks s fields
unchanged_acks s (AckField lsn ∷ fields) = unchanged_acks s fields
unchanged_acks s (ListField pairs ∷ fields) = unchanged_acks s fields
unchanged_acks s (BitmapField first bits ∷ fields) = unchanged_acks s fields
unchanged_acks s (MrwField last n ∷ fields) = unchanged_acks s fields

unchanged_telling : (s : Sender) (fields : List Field) → Unchanged s (after_telling_of s fields)
unchanged_telling s fields = cond_both (reports fields) (told s (all_names (vt_a s) (vt_s s) fields) (lsn_of (vt_a s) fields)) s (Unchanged s) (λ _. record { accepted = refl; bodies = refl; accepted_at = refl; ticks = refl; dropped = refl; discard_count = refl }) (λ _. unchanged_itself s)

unchanged_answer : (s : Sender) (fields : List Field) (t : StatusTaken) → Unchanged s (after_answer t s fields)
unchanged_answer s fields Taken = unchanged_twice s (after_acks s fields) _ (unchanged_acks s fields) (unchanged_telling (after_acks s fields) fields)
unchanged_answer s fields (Outside i) = unchanged_itself s

unchanged_fields : (rules : Rules) (s : Sender) (fields : List Field) → Unchanged s (after_fields rules s fields)
unchanged_fields rules s fields = unchanged_answer s fields (status_answer rules s fields)

-- the SDUs that have left are released
pub released_more : (rules : Rules) (d : ℕ) (v w : Outgoing) (s : Sender) (fields : List Field) → IsOutgoing rules d v s → IsOutgoing rules d w (after_fields rules s fields) → length w.tx_buffer.sdus ≤ length v.tx_buffer.sdus → AreReleased (length v.tx_buffer.sdus - length w.tx_buffer.sdus) s (after_fields rules s fields)
released_more rules d v w s fields is now fewer =
    let u : Unchanged s (after_fields rules s fields) = unchanged_fields rules s fields in
    record {
      accepted = u.accepted;
      accepted_at = u.accepted_at;
      ticks = u.ticks;
      dropped = u.dropped;
      discard_count = u.discard_count;
      low = omega (arith, fewer, few_released s is.cut, few_released (after_fields rules s fields) now.cut, ap (λ (us : List (List ℕ)). length us) is.tx_buffer.sdus, ap (λ (us : List (List ℕ)). length us) now.tx_buffer.sdus, length-drop (released s) s.accepted, length-drop (released (after_fields rules s fields)) (after_fields rules s fields).accepted, ap (λ (us : List (List ℕ)). length us) u.accepted);
    }

-- a build changes nothing of which ages and discards tell
build_same : (rules : Rules) (d : ℕ) (v : Outgoing) (s : Sender) (c : Choice) → IsOutgoing rules d v s → HasSameSdus s (after_choice c rules d s)
build_same rules d v s (Again k) is = record { accepted = refl; accepted_at = refl; ticks = refl; dropped = refl; discard_count = refl; low = refl }
build_same rules d v s New is = record { accepted = refl; accepted_at = refl; ticks = refl; dropped = refl; discard_count = refl; low = released_next d s (low_next rules d v.line s is.line) }
build_same rules d v s (Last k) is = record { accepted = refl; accepted_at = refl; ticks = refl; dropped = refl; discard_count = refl; low = refl }
build_same rules d v s NoPdu is = record { accepted = refl; accepted_at = refl; ticks = refl; dropped = refl; discard_count = refl; low = refl }

pub build_stands : (rules : Rules) (d : ℕ) (v : Outgoing) (h : SduDiscard) (s : Sender) → IsOutgoing rules d v s → DiscardStands rules h s → DiscardStands rules h (after_build rules d s)
build_stands rules d v h s is stands = alike_stands rules h s (after_build rules d s) (build_same rules d v s (choice rules s) is) stands

-- one tick
pub ticked : (s : Sender) → IsTicked s (timed s)
ticked s = record { accepted = refl; accepted_at = refl; ticks = refl; dropped = refl; discard_count = refl; low = refl }

-- where no unit is discarded by age, its age isn't kept
pub holds_still : (rules : Rules) (h : SduDiscard) (s : Sender) → rules.discard_age ≡ 0 → DiscardStands rules h s → DiscardStands rules h (timed s)
holds_still rules h s off is = record {
  count = is.count;
  ages = λ i inside some. absurd (omega (arith, some, off));
  early = λ i. omega (arith, is.early i);
  times = is.times;
  passed = is.passed;
  discarded = is.discarded;
}

-- where no discard runs, the last unit that is due is discarded
pub tick_none : (rules : Rules) (s : Sender) → s.discard ≡ None → tick_sender rules s ≡ discards rules (timed s) (length s.accepted)
tick_none rules s e = ap (after_tick rules (record s { poll_timer = s.poll_timer - 1; owed = s.owed || (s.poll_timer == 1); ticks = s.ticks + 1 })) e ∙ ap (λ x. discards rules (record s { poll_timer = s.poll_timer - 1; owed = s.owed || (s.poll_timer == 1); ticks = s.ticks + 1; discard = x }) (length s.accepted)) (e ∙ sym (ap timer_of e))

pub tick_some : (rules : Rules) (s : Sender) → is_some s.discard ≡ true → tick_sender rules s ≡ timed s
tick_some rules s e = go s.discard refl e
  where
    go : (x : Option Discard) → s.discard ≡ x → is_some x ≡ true → tick_sender rules s ≡ timed s
    go None q h = absurd (cc)
    go (Some d) q h = ap (after_tick rules (record s { poll_timer = s.poll_timer - 1; owed = s.owed || (s.poll_timer == 1); ticks = s.ticks + 1 })) q ∙ ap (λ y. record s { poll_timer = s.poll_timer - 1; owed = s.owed || (s.poll_timer == 1); ticks = s.ticks + 1; discard = timer_of y }) (sym q)

some_timer : (x : Option Discard) → is_some (timer_of x) ≡ is_some x
some_timer None = refl
some_timer (Some d) = refl

pub still_some : (s : Sender) → is_some (timed s).discard ≡ is_some s.discard
still_some s = some_timer s.discard

none_is : (x : Option Discard) → is_some x ≡ false → x ≡ None
none_is None e = refl
none_is (Some d) e = absurd (cc)

pub no_discard : (s : Sender) → is_some (timed s).discard ≡ false → s.discard ≡ None
no_discard s e = none_is s.discard (sym (still_some s) ∙ e)

-- where neither age nor sending discards, nothing is
cannot : (rules : Rules) (s : Sender) (i : ℕ) (p : Option (ℕ × ℕ)) → rules.discard_age ≡ 0 → rules.discard_sent ≡ 0 → can_take rules s i p ≡ false
cannot rules s i None age sent = refl
cannot rules s i (Some p) age sent = ap₂ (λ a b. nat_le (vt_a s) p.0 && nat_le p.1 15 && nat_le s.dropped i && (a || b)) by_age by_sending ∙ never (nat_le (vt_a s) p.0 && nat_le p.1 15 && nat_le s.dropped i)
  where
    by_age : due_by_age rules s i ≡ false
    by_age = ap (λ n. nat_lt 0 n && nat_le rules.discard_age (s.ticks - slice_index s.accepted_at i)) age

    by_sending : due_by_sending rules s i ≡ false
    by_sending = ap (λ n. nat_lt 0 n && sent_enough rules s i s.requested) sent

    never : (b : Bool) → (b && false) ≡ false
    never true = refl
    never false = refl

pub nothing_due : (rules : Rules) (s : Sender) (n : ℕ) → rules.discard_age ≡ 0 → rules.discard_sent ≡ 0 → discards rules s n ≡ s
nothing_due rules s zero age sent = refl
nothing_due rules s (suc i) age sent = ap (λ b. cond b (discards_at s i (place_from s.bodies 0 i)) (discards rules s i)) (cannot rules s i (place_from s.bodies 0 i) age sent) ∙ nothing_due rules s i age sent

-- what was sent and what is held stand for the same sender
pub stands_by : (rules : Rules) (v : Sending) (s now : Sender) (out : Outgoing) (h : SduDiscard) → Stands rules v s → out.size ≡ v.outgoing.size → IsOutgoing rules (v.outgoing.size - 2) out now → DiscardStands rules h now → Stands rules (record { outgoing = out; sdu_discard = h; rules = v.rules }) now
stands_by rules v s now out h is size goes holds = record {
  rules_are = is.rules_are;
  outgoing = subst (λ n. IsOutgoing rules (n - 2) out now) (sym size) goes;
  sdu_discard = holds;
}

-- the sender after an offer
pub offer_stands : (rules : Rules) (v : Sending) (s : Sender) (unit : List ℕ) (o : Offer) → offered rules s unit ≡ o → Stands rules v (after_offer o s unit) → Stands rules v (after_offer (offered rules s unit) s unit)
offer_stands rules v s unit o e is = subst (λ x. Stands rules v (after_offer x s unit)) (sym e) is

-- an SDU that is refused changes nothing
pub other_offer : (rules : Rules) (h : SduDiscard) (s : Sender) (unit : List ℕ) (o : Offer) → (o ≡ Accepted → ⊥) → DiscardStands rules h s → DiscardStands rules h (after_offer o s unit)
other_offer rules h s unit Accepted not is = absurd (not refl)
other_offer rules h s unit Full not is = is
other_offer rules h s unit WrongSize not is = is

-- an MRW is written
pub moving_stands : (rules : Rules) (v : Sending) (s : Sender) (out : Outgoing) → Stands rules v s → mrw_due s.discard ≡ true → out.size ≡ v.outgoing.size → ((x : Discard) → s.discard ≡ Some x → IsOutgoing rules (v.outgoing.size - 2) out (after_mrw rules s x)) → Stands rules (record { outgoing = out; sdu_discard = v.sdu_discard; rules = v.rules }) (after_moving rules s s.discard)
moving_stands rules v s out is due size goes = go s.discard refl due
  where
    go : (x : Option Discard) → s.discard ≡ x → mrw_due x ≡ true → Stands rules (record { outgoing = out; sdu_discard = v.sdu_discard; rules = v.rules }) (after_moving rules s x)
    go None e d = absurd (cc)
    go (Some x) e d = stands_by rules v s (after_mrw rules s x) out v.sdu_discard is size (goes x e) (alike_stands rules v.sdu_discard s (after_mrw rules s x) (record { accepted = refl; accepted_at = refl; ticks = refl; dropped = refl; discard_count = refl; low = refl }) is.sdu_discard)

pub mrw_by : (s : Sender) (out : List ℕ) → mrw_due s.discard ≡ true → ((x : Discard) → s.discard ≡ Some x → IsMoved out x) → IsMrw out s.discard
mrw_by s out due is = go s.discard refl due
  where
    go : (x : Option Discard) → s.discard ≡ x → mrw_due x ≡ true → IsMrw out x
    go None e d = absurd (cc)
    go (Some x) e d = is x e

-- the SDU that is found
pub found_by : (rules : Rules) (v : Sending) (s : Sender) (l : RetxBuffer) (found : Option Overdue) → Stands rules v s → l ≡ v.outgoing.line → (rules ≡ rules_of rules.buffer v.rules → LineStands rules l s → DiscardStands rules v.sdu_discard s → IsCut s.accepted s.unsent s.bodies → ((i : ℕ) → i < length l.in_flight → HasBody (v.outgoing.size - 2) (at l.in_flight i) (body_at s.bodies (vt_a s + i))) → discards rules s (length s.accepted) ≡ discarded_by found s) → discards rules s (length s.accepted) ≡ discarded_by found s
found_by rules v s l found is e h = h is.rules_are (subst (λ x. LineStands rules x s) (sym e) is.outgoing.line) is.sdu_discard is.outgoing.cut (subst (λ (x : RetxBuffer). (i : ℕ) → i < length x.in_flight → HasBody (v.outgoing.size - 2) (at x.in_flight i) (body_at s.bodies (vt_a s + i))) (sym e) is.outgoing.in_flight)

some_by : (r : Option Running) (d : Option Discard) (low n : ℕ) → IsRunning r d low n → is_some r ≡ is_some d
some_by None None low n is = refl
some_by None (Some d) low n is = absurd is
some_by (Some r) None low n is = absurd is
some_by (Some r) (Some d) low n is = refl

-- what a tick does once the timers have run
pub tick_by : (rules : Rules) (v : Sending) (s : Sender) (may : Bool) → Stands rules v (timed s) → may ≡ ((nat_lt 0 v.rules.discard_age || nat_lt 0 v.rules.discard_sent) && not (is_some v.outgoing.line.running)) → tick_sender rules s ≡ cond may (discards rules (timed s) (length s.accepted)) (timed s)
tick_by rules v s may is e = go (is_some s.discard) (nat_lt 0 rules.discard_age) (nat_lt 0 rules.discard_sent) refl refl refl ∙ ap (λ b. cond b (discards rules (timed s) (length s.accepted)) (timed s)) (sym may_is)
  where
    same : is_some v.outgoing.line.running ≡ is_some s.discard
    same = some_by v.outgoing.line.running (timed s).discard (vt_a (timed s)) (length v.outgoing.line.in_flight) is.outgoing.line.running ∙ still_some s

    may_is : may ≡ ((nat_lt 0 rules.discard_age || nat_lt 0 rules.discard_sent) && not (is_some s.discard))
    may_is = e ∙ (ap (λ b. (nat_lt 0 v.rules.discard_age || nat_lt 0 v.rules.discard_sent) && not b) same ∙ ap₂ (λ a b. (nat_lt 0 a || nat_lt 0 b) && not (is_some s.discard)) (sym (ap (λ (r : Rules). r.discard_age) is.rules_are)) (sym (ap (λ (r : Rules). r.discard_sent) is.rules_are)))

    off : (n : ℕ) → nat_lt 0 n ≡ false → n ≡ 0
    off n h = omega (arith, ltb-false 0 n h)

    never : (a : Bool) → (a && false) ≡ false
    never true = refl
    never false = refl

    go : (x a b : Bool) → is_some s.discard ≡ x → nat_lt 0 rules.discard_age ≡ a → nat_lt 0 rules.discard_sent ≡ b → tick_sender rules s ≡ cond ((nat_lt 0 rules.discard_age || nat_lt 0 rules.discard_sent) && not (is_some s.discard)) (discards rules (timed s) (length s.accepted)) (timed s)
    go true a b ex ea eb = tick_some rules s ex ∙ ap (λ c. cond c (discards rules (timed s) (length s.accepted)) (timed s)) (sym (ap (λ y. (nat_lt 0 rules.discard_age || nat_lt 0 rules.discard_sent) && not y) ex ∙ never (nat_lt 0 rules.discard_age || nat_lt 0 rules.discard_sent)))
    go false false false ex ea eb = tick_none rules s (none_is s.discard ex) ∙ (nothing_due rules (timed s) (length s.accepted) (off rules.discard_age ea) (off rules.discard_sent eb) ∙ ap₂ (λ y z. cond ((y || z) && not (is_some s.discard)) (discards rules (timed s) (length s.accepted)) (timed s)) (sym ea) (sym eb))
    go false true b ex ea eb = tick_none rules s (none_is s.discard ex) ∙ (ap₂ (λ y z. cond ((y || nat_lt 0 rules.discard_sent) && not z) (discards rules (timed s) (length s.accepted)) (timed s)) (sym ea) (sym ex))
    go false false true ex ea eb = tick_none rules s (none_is s.discard ex) ∙ (ap₂ (λ y z. cond (y && not z) (discards rules (timed s) (length s.accepted)) (timed s)) (sym (ap₂ (λ y z. y || z) ea eb)) (sym ex))
