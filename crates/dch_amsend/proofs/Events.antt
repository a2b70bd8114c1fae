-- Each event leaves what was sent and what waits standing for the sender.
use Rattle.std.proofs.Common.{◌≡◌, ◌+◌, ◌-◌, ◌<◌, ◌≤◌, ℕ, suc, List, [], ◌∷◌, ◌++◌, Bool, true, false, cond, ◌&&◌, length, min, Option, Some, None, arith, refl, sym, ap, ap₂, ◌∙◌, subst, drop, take, ⊎_elim, length-append, length-set}
use Rattle.std.specs.Prelude.{◌%◌, nat_lt}
use Rattle.std.proofs.lemmas.Bool.{and_parts, cases_lt, ltb-true, ltb-false}
use Rattle.std.proofs.lemmas.List.{get_or_append_left}
use Rattle.std.proofs.Math.Seq.{get_or-append_seam}
use Rattle.dch_bits.specs.declared.offer.Offer.{Offer}
use Rattle.dch_bits.specs.declared.offer.Offer.TheVariants.{Accepted, Full, WrongSize}
use Rattle.dch_retx.specs.declared.sent_pdu.Extent.{Extent}
use Rattle.dch_retx.specs.declared.sent_pdu.SentPdu.{SentPdu}
use Rattle.dch_retx.specs.Flights.{at, blank, built, first_requested, request_cleared, requested_in}
use Rattle.dch_retx.proofs.Changes.{length-changed}
use Rattle.dch_am.specs.Acknowledging.{after_fields, status_answer}
use Rattle.dch_am.specs.Bodies.{Body, after_body, carried, ends, is_left, indicators_of, next_body, no_body}
use Rattle.dch_am.specs.Building.{Choice, Again as Requested, New as Fresh, Last as Latest, NoPdu as Nothing, after_build, after_choice, anew, anew_polls, available, body_at, body_of_choice, builds_within, choice}
use Rattle.dch_am.specs.Cuts.{IsCut}
use Rattle.dch_am.specs.Discards.{after_moving, after_mrw, discards_at, mrw_due}
use Rattle.dch_am.specs.Numbers.{grown, has, run_of, wrapped}
use Rattle.dch_am.specs.Restart.{begun, restarted_sender}
use Rattle.dch_am.specs.Rules.{Rules}
use Rattle.dch_am.specs.Sender.{Discard, Sender, after_offer, vt_a, vt_s, offered}
use Rattle.dch_am.specs.Short.{IsShort}
use Rattle.dch_am.proofs.Listing.{Alike, alike_answer, alike_place}
use Rattle.dch_am.proofs.Reading.{cut_next, cut_unit}
use Rattle.dch_am.proofs.Restarting.{cut_fresh, cut_full, full_drop}
use Rattle.dch_rlcpdu.specs.Am.{am_pdu}
use Rattle.dch_rlcpdu.specs.Fields.{Field}
use Rattle.dch_retx.specs.declared.buffer.Pick.TheVariants.{Again, New, Last, NoPdu}
use Rattle.dch_retx.specs.RetxBuffer.{RetxBuffer, discarding, number_at}
use Rattle.dch_retx.specs.Polling.{again_line, again_poll, last_line, last_poll, new_line, new_poll, picked}
use Rattle.dch_retx.specs.Standing.{AreKept, IsAlike, IsInFlight, IsPolled, IsRequested, Sends, Stands as LineStands, timed}
use Rattle.dch_retx.proofs.Keeping.{discarding_kept, resent_kept}
use Rattle.dch_retx.proofs.Sending.{again_sends, last_sends, new_sends}
use Rattle.dch_retx.proofs.Ticking.{discards_stand, number_is}
use Rattle.dch_am.specs.Texts.{next_pdu, pdu_of_choice}
use Rattle.dch_amsend.specs.BufferStanding.{HasBody, BufferStands, Takes, fills}
use Rattle.dch_amsend.specs.DiscardStanding.{released}
use Rattle.dch_amsend.specs.TxBuffer.{IsHere, TxBuffer, buffer_after_build, buffer_after_offer, ended_before, next_in_flight, released_by, unsent_of}
use Rattle.dch_amsend.proofs.Offering.{takes_more}
use Rattle.dch_amsend.proofs.Placing.{IsWhole, here_is}
use Rattle.dch_amsend.proofs.Extents.{IsFirst, IsLater, ended_few, ended_is, released_keeps, takes_later, takes_longer}
use Rattle.dch_amsend.specs.Counting.{builds_of}
use Rattle.dch_amsend.specs.Outgoing.{IsLast, IsOutgoing, IsRunning, Outgoing, available_of, first_in_flight, pdu_in, with_line}
use Rattle.dch_amsend.proofs.Counting.{counts, no_more}

-- a PDU that is sent alike has the same body
has_alike : (d : ℕ) (f g : SentPdu) (b : Body) → IsAlike f g → HasBody d g b → HasBody d f b
has_alike d f g b a h = record { full = a.full ∙ h.full; ends = ap₂ {C = ℕ} (λ (x : Extent) q. x.pieces + cond q 1 0) a.extent a.full ∙ h.ends; continues = ap (λ (x : Extent). nat_lt 0 x.rest) a.extent ∙ h.continues; short = h.short; padded = a.padded ∙ h.padded }

-- PDUs in front leave, or are marked, and nothing else is sent
later : (rules : Rules) (d : ℕ) (v : Outgoing) (s now : Sender) (l : RetxBuffer) → IsOutgoing rules d v s → LineStands rules l now → AreKept v.line.in_flight l.in_flight → Alike s now → IsLater s now
later rules d v s now l is stands kept same = record {
  accepted = same.accepted;
  bodies = same.bodies;
  unsent = same.unsent;
  low = omega (arith, kept.few, is.line.flying, stands.flying, ap (λ (bs : List Body). length bs) same.bodies);
}

-- a PDU that stays in flight
pub record IsKept (d : ℕ) (s : Sender) (k : ℕ) (f : SentPdu) : Type 0 where
  pub has : HasBody d f (body_at s.bodies k)
  pub takes : Takes s k f.extent

stays : (rules : Rules) (d : ℕ) (v : Outgoing) (s now : Sender) (l : RetxBuffer) (i : ℕ) → i < length l.in_flight → IsOutgoing rules d v s → LineStands rules l now → AreKept v.line.in_flight l.in_flight → Alike s now → IsKept d now (vt_a now + i) (at l.in_flight i)
stays rules d v s now l i inside is stands kept same =
    let place : ℕ = length v.line.in_flight - length l.in_flight + i in
    let within : length v.line.in_flight - length l.in_flight + i < length v.line.in_flight = omega (arith, kept.few, inside) in
    let number : vt_a s + (length v.line.in_flight - length l.in_flight + i) ≡ vt_a now + i = omega (arith, kept.few, is.line.flying, stands.flying, ap (λ (bs : List Body). length bs) same.bodies) in
    let body : body_at s.bodies (vt_a s + (length v.line.in_flight - length l.in_flight + i)) ≡ body_at now.bodies (vt_a now + i) = ap₂ (λ bs k. body_at bs k) (sym same.bodies) number in
    let alike = kept.same i inside in
    let takes : Takes s (vt_a now + i) (at v.line.in_flight place).extent = subst (λ k. Takes s k (at v.line.in_flight place).extent) number (is.taken place within) in
    record {
      has = subst (HasBody d (at l.in_flight i)) body (has_alike d (at l.in_flight i) (at v.line.in_flight place) (body_at s.bodies (vt_a s + place)) alike (is.in_flight place within));
      takes = takes_later s now (vt_a now + i) (at l.in_flight i).extent (later rules d v s now l is stands kept same) (subst (λ x. Takes s (vt_a now + i) x) (sym alike.extent) takes);
    }

-- the first PDU in flight is the one of the lowest open number
first_is : (rules : Rules) (d : ℕ) (l : RetxBuffer) (s : Sender) → LineStands rules l s → ((i : ℕ) → i < length l.in_flight → IsKept d s (vt_a s + i) (at l.in_flight i)) → IsFirst s (first_in_flight l.in_flight)
first_is rules d l s stands kept = go l.in_flight stands.flying kept
  where
    go : (fs : List SentPdu) → vt_a s + length fs ≡ vt_s s → ((i : ℕ) → i < length fs → IsKept d s (vt_a s + i) (at fs i)) → IsFirst s (first_in_flight fs)
    go [] e all = omega (arith, e)
    go (f ∷ fs) e all =
        let z : vt_a s + 0 ≡ vt_a s = omega arith in
        let here : IsKept d s (vt_a s) f = subst (λ k. IsKept d s k f) z (all 0 (omega arith)) in
        (omega (arith, e), here.takes, here.has.full)

-- PDUs in front leave, with the SDUs that end before those that stay
pub leave_goes : (rules : Rules) (d : ℕ) (v : Outgoing) (s now : Sender) (l : RetxBuffer) → IsOutgoing rules d v s → LineStands rules l now → AreKept v.line.in_flight l.in_flight → Alike s now → IsOutgoing rules d (record { size = v.size; line = l; tx_buffer = released_by (ended_before (first_in_flight l.in_flight) v.tx_buffer) v.tx_buffer }) now
leave_goes rules d v s now l is stands kept same = record {
  size = is.size;
  line = stands;
  tx_buffer = released_keeps d v.tx_buffer s now (first_in_flight l.in_flight) is.tx_buffer (later rules d v s now l is stands kept same) (first_is rules d l now stands (λ i inside. stays rules d v s now l i inside is stands kept same));
  room = is.room;
  cut = subst (λ us. IsCut us now.unsent now.bodies) (sym same.accepted) (subst (λ q. IsCut s.accepted q now.bodies) (sym same.unsent) (subst (λ bs. IsCut s.accepted s.unsent bs) (sym same.bodies) is.cut));
  in_flight = λ i inside. (stays rules d v s now l i inside is stands kept same).has;
  taken = λ i inside. (stays rules d v s now l i inside is stands kept same).takes;
}

pub leave_few : (rules : Rules) (d : ℕ) (v : Outgoing) (s now : Sender) (l : RetxBuffer) → IsOutgoing rules d v s → LineStands rules l now → AreKept v.line.in_flight l.in_flight → Alike s now → ended_before (first_in_flight l.in_flight) v.tx_buffer ≤ v.tx_buffer.start.sdu
leave_few rules d v s now l is stands kept same = ended_few d v.tx_buffer s now (first_in_flight l.in_flight) is.tx_buffer (later rules d v s now l is stands kept same) (first_is rules d l now stands (λ i inside. stays rules d v s now l i inside is stands kept same))

-- no PDU leaves, and nothing else is sent
keeps_same : (d : ℕ) (w : TxBuffer) (s now : Sender) → Alike s now → vt_a now ≡ vt_a s → BufferStands d w s → BufferStands d w now
keeps_same d w s now same low keeps =
    let r : released now ≡ released s = ap₂ (λ k bs. ends (take k bs)) low same.bodies in
    record {
      size = keeps.size;
      from = keeps.from;
      start = keeps.start;
      sdus = keeps.sdus ∙ ap₂ (λ n us. drop n us) (sym r) (sym same.accepted);
      freed = keeps.freed ∙ ap (λ n. n % 65536) (sym r);
      unsent = keeps.unsent ∙ sym same.unsent;
      place = omega (arith, keeps.place, r, ap ends same.bodies);
      small = keeps.small;
    }

pub line_goes : (rules : Rules) (d : ℕ) (v : Outgoing) (s now : Sender) (l : RetxBuffer) → IsOutgoing rules d v s → LineStands rules l now → AreKept v.line.in_flight l.in_flight → length l.in_flight ≡ length v.line.in_flight → Alike s now → IsOutgoing rules d (with_line l v) now
line_goes rules d v s now l is stands kept all same = record {
  size = is.size;
  line = stands;
  tx_buffer = keeps_same d v.tx_buffer s now same (omega (arith, all, is.line.flying, stands.flying, ap (λ (bs : List Body). length bs) same.bodies)) is.tx_buffer;
  room = is.room;
  cut = subst (λ us. IsCut us now.unsent now.bodies) (sym same.accepted) (subst (λ q. IsCut s.accepted q now.bodies) (sym same.unsent) (subst (λ bs. IsCut s.accepted s.unsent bs) (sym same.bodies) is.cut));
  in_flight = λ i inside. (stays rules d v s now l i inside is stands kept same).has;
  taken = λ i inside. (stays rules d v s now l i inside is stands kept same).takes;
}

-- a status
pub hears_goes : (rules : Rules) (d : ℕ) (v : Outgoing) (s : Sender) (l : RetxBuffer) (fields : List Field) → IsOutgoing rules d v s → LineStands rules l (after_fields rules s fields) → AreKept v.line.in_flight l.in_flight → IsOutgoing rules d (record { size = v.size; line = l; tx_buffer = released_by (ended_before (first_in_flight l.in_flight) v.tx_buffer) v.tx_buffer }) (after_fields rules s fields)
hears_goes rules d v s l fields is stands kept = leave_goes rules d v s (after_fields rules s fields) l is stands kept (alike_answer s fields (status_answer rules s fields))

pub hears_few : (rules : Rules) (d : ℕ) (v : Outgoing) (s : Sender) (l : RetxBuffer) (fields : List Field) → IsOutgoing rules d v s → LineStands rules l (after_fields rules s fields) → AreKept v.line.in_flight l.in_flight → ended_before (first_in_flight l.in_flight) v.tx_buffer ≤ v.tx_buffer.start.sdu
hears_few rules d v s l fields is stands kept = leave_few rules d v s (after_fields rules s fields) l is stands kept (alike_answer s fields (status_answer rules s fields))

kept_all : (fs : List SentPdu) → AreKept fs fs
kept_all fs = record {
  few = omega arith;
  same = λ i inside. let e : length fs - length fs + i ≡ i = omega arith in subst (λ j. IsAlike (at fs i) (at fs j)) (sym e) (record { extent = refl; full = refl; padded = refl });
}

-- one that is refused lets no SDU leave
pub none_leaves : (rules : Rules) (d : ℕ) (v : Outgoing) (s : Sender) (l : RetxBuffer) → IsOutgoing rules d v s → l ≡ v.line → released_by (ended_before (first_in_flight l.in_flight) v.tx_buffer) v.tx_buffer ≡ v.tx_buffer
none_leaves rules d v s l is e =
    let same : Alike s s = record { accepted = refl; cuts = refl; bodies = refl; unsent = refl } in
    let stay : AreKept v.line.in_flight v.line.in_flight = kept_all v.line.in_flight in
    let none : ended_before (first_in_flight v.line.in_flight) v.tx_buffer ≡ 0 = omega (arith, ended_is d v.tx_buffer s s (first_in_flight v.line.in_flight) is.tx_buffer (later rules d v s s v.line is is.line stay same) (first_is rules d v.line s is.line (λ i inside. stays rules d v s s v.line i inside is is.line stay same))) in
    let start : v.tx_buffer.start.sdu - 0 ≡ v.tx_buffer.start.sdu = omega arith in
    let freed : (v.tx_buffer.freed + 0) % 65536 ≡ v.tx_buffer.freed = omega (arith, is.tx_buffer.freed) in
    ap (λ (x : RetxBuffer). released_by (ended_before (first_in_flight x.in_flight) v.tx_buffer) v.tx_buffer) e
    ∙ (ap (λ n. released_by n v.tx_buffer) none
    ∙ ap₂ (λ a b. record v.tx_buffer { start = record { sdu = a; used = v.tx_buffer.start.used }; freed = b }) start freed)

-- the beginning of a discard
pub discards_goes : (rules : Rules) (d : ℕ) (v : Outgoing) (s : Sender) (l : RetxBuffer) (place n i : ℕ) → place < length v.line.in_flight → l ≡ discarding place n v.line → IsOutgoing rules d v s → IsOutgoing rules d (with_line l v) (discards_at s i (Some (vt_a s + place, n)))
discards_goes rules d v s l place n i inside e is = subst (λ x. IsOutgoing rules d (with_line x v) (discards_at s i (Some (vt_a s + place, n)))) (sym e)
    (line_goes rules d v s (discards_at s i (Some (vt_a s + place, n))) (discarding place n v.line) is (discards_stand rules v.line s place n i inside is.line) (discarding_kept place n v.line) (length-changed request_cleared place v.line.in_flight) (alike_place s i (Some (vt_a s + place, n))))

-- how many PDUs could be built
cut_short : (n w k f : ℕ) (b : Bool) → 0 < n → min n (builds_of (min n w) k b f) ≡ min n (builds_of w k b f)
cut_short n w k f b one = go (nat_lt 0 (min n w + k)) (nat_lt 0 (w + k)) refl refl
  where
    go : (x y : Bool) → nat_lt 0 (min n w + k) ≡ x → nat_lt 0 (w + k) ≡ y → min n (cond x (min n w + k) (cond (b && nat_lt 0 f) 1 0)) ≡ min n (cond y (w + k) (cond (b && nat_lt 0 f) 1 0))
    go true true ex ey = omega arith
    go true false ex ey = absurd (omega (arith, ltb-true _ _ ex, ltb-false _ _ ey))
    go false true ex ey = absurd (omega (arith, ltb-false _ _ ex, ltb-true _ _ ey))
    go false false ex ey = refl

octets_is : (d : ℕ) (w : TxBuffer) (s : Sender) → BufferStands d w s → w.size - 2 ≡ d
octets_is d w s keeps = omega (arith, keeps.size)

available_within : (n : ℕ) (rules : Rules) (d : ℕ) (v : Outgoing) (s : Sender) → 0 < n → IsOutgoing rules d v s → min n (builds_of (min n (requested_in v.line.in_flight)) (min (v.line.window - length v.line.in_flight) (fills n (v.tx_buffer.size - 2) (unsent_of v.tx_buffer))) v.line.owed (length v.line.in_flight)) ≡ builds_within n rules d s
available_within n rules d v s one is =
    cut_short n (requested_in v.line.in_flight) (min (v.line.window - length v.line.in_flight) (fills n (v.tx_buffer.size - 2) (unsent_of v.tx_buffer))) (length v.line.in_flight) v.line.owed one
    ∙ (ap₂ (λ w k. min n (builds_of (requested_in v.line.in_flight) (min (w - length v.line.in_flight) k) v.line.owed (length v.line.in_flight))) is.line.window (ap₂ (fills n) (octets_is d v.tx_buffer s is.tx_buffer) is.tx_buffer.unsent)
    ∙ (ap (λ b. min n (builds_of (requested_in v.line.in_flight) (min (rules.window - length v.line.in_flight) (fills n d s.unsent)) b (length v.line.in_flight))) is.line.owed
    ∙ sym (counts n rules d v.line s is.line)))

pub available_is : (rules : Rules) (d : ℕ) (v : Outgoing) (s : Sender) → IsOutgoing rules d v s → available_of v ≡ available rules d s
unfolding available
available_is rules d v s is = available_within 64 rules d v s (omega arith) is

-- what a build gives: the octets, and what is left standing
pub record Built (rules : Rules) (d : ℕ) (s : Sender) (out : List ℕ) (v : Outgoing) (c : Choice) : Type 0 where
  pub text : out ≡ pdu_of_choice rules d s c
  pub goes : IsOutgoing rules d v (after_choice c rules d s)
  pub short : IsShort d (body_of_choice c d s)

pub built_by : (rules : Rules) (d : ℕ) (s : Sender) (out : List ℕ) (v : Outgoing) (c : Choice) → c ≡ choice rules s → Built rules d s out v c → (out ≡ next_pdu rules d s) × IsOutgoing rules d v (after_build rules d s) × IsShort d (body_of_choice (choice rules s) d s)
built_by rules d s out v c e is = let b : Built rules d s out v (choice rules s) = subst (Built rules d s out v) e is in (b.text, b.goes, b.short)

-- the octets of a PDU in flight
pdu_is : (rules : Rules) (d : ℕ) (v : Outgoing) (s : Sender) (k number : ℕ) (poll : Bool) (f : SentPdu) → BufferStands d v.tx_buffer s → Takes s k f.extent → HasBody d f (body_at s.bodies k) → vt_a s ≤ k → k < vt_s s → pdu_in number poll f v ≡ am_pdu number poll (indicators_of d (body_at s.bodies k)) (carried (body_at s.bodies k)) (d + 2)
pdu_is rules d v s k number poll f keeps takes has low inside =
    let is : IsWhole v.tx_buffer f (body_at s.bodies k) = here_is d v.tx_buffer s k f keeps takes has low inside in
    ap₂ (λ n b. am_pdu number poll (indicators_of n b) (carried b) v.tx_buffer.size) (octets_is d v.tx_buffer s keeps) is.body ∙ ap (am_pdu number poll (indicators_of d (body_at s.bodies k)) (carried (body_at s.bodies k))) keeps.size

-- a PDU has as many octets
pub size_same : (v : Outgoing) → IsRunning v → v.tx_buffer.size ≡ v.size
size_same v run = run.stands.tx_buffer.size ∙ sym run.stands.size

pub place_here : (rules : Rules) (d : ℕ) (v : Outgoing) (s : Sender) (place : ℕ) → place < length v.line.in_flight → IsOutgoing rules d v s → IsHere v.tx_buffer (at v.line.in_flight place)
place_here rules d v s place inside is = (here_is d v.tx_buffer s (vt_a s + place) (at v.line.in_flight place) is.tx_buffer (is.taken place inside) (is.in_flight place inside) (omega arith) (omega (arith, inside, is.line.flying))).here

-- a PDU in flight is built again
pub again_stands : (rules : Rules) (d : ℕ) (v : Outgoing) (s : Sender) (place : ℕ) → place < length v.line.in_flight → IsOutgoing rules d v s → IsOutgoing rules d (with_line (again_line place v.line) v) (after_choice (Requested (vt_a s + place)) rules d s)
again_stands rules d v s place inside is = line_goes rules d v s (after_choice (Requested (vt_a s + place)) rules d s) (again_line place v.line) is (again_sends rules v.line s place d inside is.line).stands (resent_kept place v.line) (length-set v.line.in_flight place (built (at v.line.in_flight place))) (record { accepted = refl; cuts = refl; bodies = refl; unsent = refl })

pub again_goes : (rules : Rules) (d : ℕ) (v now : Outgoing) (s : Sender) (place : ℕ) (out : List ℕ) → place < length v.line.in_flight → IsOutgoing rules d v s → now ≡ with_line (again_line place v.line) v → out ≡ pdu_in (number_at place v.line) (again_poll place v.line) (at v.line.in_flight place) v → Built rules d s out now (Requested (vt_a s + place))
again_goes rules d v now s place out inside is e text =
    let sends = again_sends rules v.line s place d inside is.line in
    let h : HasBody d (at v.line.in_flight place) (body_at s.bodies (vt_a s + place)) = is.in_flight place inside in
    record {
      text = text ∙ (pdu_is rules d v s (vt_a s + place) (number_at place v.line) (again_poll place v.line) (at v.line.in_flight place) is.tx_buffer (is.taken place inside) h (omega arith) (omega (arith, inside, is.line.flying))
          ∙ ap₂ (λ n p. am_pdu n p (indicators_of d (body_at s.bodies (vt_a s + place))) (carried (body_at s.bodies (vt_a s + place))) (d + 2)) (number_is rules v.line s place (omega (arith, inside)) is.line) sends.poll);
      goes = subst (λ x. IsOutgoing rules d x (after_choice (Requested (vt_a s + place)) rules d s)) (sym e) (again_stands rules d v s place inside is);
      short = h.short;
    }

pub last_stands : (rules : Rules) (d : ℕ) (v : Outgoing) (s : Sender) (place : ℕ) → place < length v.line.in_flight → vt_a s + place ≡ vt_s s - 1 → has (vt_a s + place) s.requested ≡ false → IsOutgoing rules d v s → IsOutgoing rules d (with_line (last_line place v.line) v) (after_choice (Latest (vt_a s + place)) rules d s)
last_stands rules d v s place inside last none is = line_goes rules d v s (after_choice (Latest (vt_a s + place)) rules d s) (last_line place v.line) is (last_sends rules v.line s place d inside last none is.line).stands (resent_kept place v.line) (length-set v.line.in_flight place (built (at v.line.in_flight place))) (record { accepted = refl; cuts = refl; bodies = refl; unsent = refl })

pub last_goes : (rules : Rules) (d : ℕ) (v now : Outgoing) (s : Sender) (place : ℕ) (out : List ℕ) → place < length v.line.in_flight → vt_a s + place ≡ vt_s s - 1 → has (vt_a s + place) s.requested ≡ false → IsOutgoing rules d v s → now ≡ with_line (last_line place v.line) v → out ≡ pdu_in (number_at place v.line) (last_poll place v.line) (at v.line.in_flight place) v → Built rules d s out now (Latest (vt_a s + place))
last_goes rules d v now s place out inside last none is e text =
    let sends = last_sends rules v.line s place d inside last none is.line in
    let h : HasBody d (at v.line.in_flight place) (body_at s.bodies (vt_a s + place)) = is.in_flight place inside in
    record {
      text = text ∙ (pdu_is rules d v s (vt_a s + place) (number_at place v.line) (last_poll place v.line) (at v.line.in_flight place) is.tx_buffer (is.taken place inside) h (omega arith) (omega (arith, inside, is.line.flying))
          ∙ ap₂ (λ n p. am_pdu n p (indicators_of d (body_at s.bodies (vt_a s + place))) (carried (body_at s.bodies (vt_a s + place))) (d + 2)) (number_is rules v.line s place (omega (arith, inside)) is.line) sends.poll);
      goes = subst (λ x. IsOutgoing rules d x (after_choice (Latest (vt_a s + place)) rules d s)) (sym e) (last_stands rules d v s place inside last none is);
      short = h.short;
    }

-- no PDU is due where none is available
pub none_goes : (rules : Rules) (d : ℕ) (v : Outgoing) (s : Sender) → 0 < available_of v → IsOutgoing rules d v s → choice rules s ≡ Nothing → ⊥
unfolding available
none_goes rules d v s some is e = omega (arith, available_is rules d v s is, no_more 63 rules d s e)

-- a new PDU
pub record IsFilled (d : ℕ) (v : Outgoing) (s : Sender) (f : SentPdu) (tx_buffer : TxBuffer) : Type 0 where
  pub fresh : f ≡ next_in_flight v.tx_buffer
  pub has : HasBody d f (next_body d s.unsent)
  pub takes : Takes (anew d s) (vt_s s) f.extent
  pub keeps : BufferStands d tx_buffer (anew d s)
  pub after : tx_buffer ≡ buffer_after_build v.tx_buffer

-- the lowest open number stays
pub low_next : (rules : Rules) (d : ℕ) (l : RetxBuffer) (s : Sender) → LineStands rules l s → vt_a (anew d s) ≡ vt_a s
low_next rules d l s is =
    let none : has (vt_s s) s.acked ≡ false = not_sent (has (vt_s s) s.acked) refl in
    let longer : length (s.bodies ++ next_body d s.unsent ∷ []) ≡ suc (vt_s s) = omega (arith, length-append s.bodies (next_body d s.unsent ∷ [])) in
    ap (run_of s.acked) longer ∙ ap (λ b. grown (vt_s s) b (run_of s.acked (vt_s s))) none
  where
    not_sent : (b : Bool) → has (vt_s s) s.acked ≡ b → b ≡ false
    not_sent true e = absurd (omega (arith, is.acked_sent (vt_s s) e))
    not_sent false e = refl

new_sent : (rules : Rules) (d : ℕ) (v : Outgoing) (s : Sender) (f : SentPdu) (tx_buffer : TxBuffer) (left : Bool) → length v.line.in_flight < v.line.window → IsOutgoing rules d v s → IsFilled d v s f tx_buffer → left ≡ is_left (after_body d s.unsent) → Sends rules (new_poll f left v.line) (new_line f left v.line) (anew_polls rules d s) (after_choice Fresh rules d s)
new_sent rules d v s f tx_buffer left room is filled left_e = new_sends rules v.line s f left d (omega (arith, room, is.line.window)) (record {
  acked = ap (λ (g : SentPdu). g.acked) filled.fresh;
  requested = ap (λ (g : SentPdu). g.requested) filled.fresh;
  named = ap (λ (g : SentPdu). g.named) filled.fresh;
  builds = ap (λ (g : SentPdu). g.builds) filled.fresh;
  ends_are = filled.has.ends;
}) left_e is.line

-- what was sent and what waits behind a new PDU
record IsWith (rules : Rules) (d : ℕ) (s : Sender) (fs : List SentPdu) (f : SentPdu) (i : ℕ) : Type 0 where
  kept : IsKept d (anew d s) (vt_a s + i) (at (fs ++ f ∷ []) i)

with_new : (rules : Rules) (d : ℕ) (v : Outgoing) (s : Sender) (f : SentPdu) (tx_buffer : TxBuffer) (i : ℕ) → i < length v.line.in_flight + 1 → IsOutgoing rules d v s → IsFilled d v s f tx_buffer → IsWith rules d s v.line.in_flight f i
with_new rules d v s f tx_buffer i inner is filled = ⊎_elim
    (λ (m : i < length v.line.in_flight).
    let place : at (v.line.in_flight ++ f ∷ []) i ≡ at v.line.in_flight i = get_or_append_left v.line.in_flight (f ∷ []) blank i m in
    let inside : vt_a s + i < length s.bodies = omega (arith, m, is.line.flying) in
    let body_is : body_at (s.bodies ++ next_body d s.unsent ∷ []) (vt_a s + i) ≡ body_at s.bodies (vt_a s + i) = get_or_append_left s.bodies (next_body d s.unsent ∷ []) no_body (vt_a s + i) inside in
    record {
      kept = subst (λ g. IsKept d (anew d s) (vt_a s + i) g) (sym place) (record {
        has = subst (HasBody d (at v.line.in_flight i)) (sym body_is) (is.in_flight i m);
        takes = takes_longer d s (vt_a s + i) (at v.line.in_flight i).extent inside (is.taken i m);
      });
    })
    (λ (m : length v.line.in_flight ≤ i).
    let at_end : i ≡ length v.line.in_flight = omega (arith, m, inner) in
    let place : at (v.line.in_flight ++ f ∷ []) i ≡ f = ap (at (v.line.in_flight ++ f ∷ [])) at_end ∙ get_or-append_seam v.line.in_flight f [] blank in
    let number : vt_a s + i ≡ vt_s s = omega (arith, at_end, is.line.flying) in
    let body_is : body_at (s.bodies ++ next_body d s.unsent ∷ []) (vt_a s + i) ≡ next_body d s.unsent = ap (body_at (s.bodies ++ next_body d s.unsent ∷ [])) number ∙ get_or-append_seam s.bodies (next_body d s.unsent) [] no_body in
    record {
      kept = subst (λ g. IsKept d (anew d s) (vt_a s + i) g) (sym place) (record {
        has = subst (HasBody d f) (sym body_is) filled.has;
        takes = subst (λ k. Takes (anew d s) k f.extent) (sym number) filled.takes;
      });
    })
    (cases_lt i (length v.line.in_flight))

pub new_stands : (rules : Rules) (d : ℕ) (v : Outgoing) (s : Sender) (f : SentPdu) (tx_buffer : TxBuffer) (l : RetxBuffer) (left : Bool) → length v.line.in_flight < v.line.window → IsOutgoing rules d v s → IsFilled d v s f tx_buffer → left ≡ is_left (after_body d s.unsent) → l ≡ new_line f left v.line → IsOutgoing rules d (record { size = v.size; line = l; tx_buffer = tx_buffer }) (after_choice Fresh rules d s)
new_stands rules d v s f tx_buffer l left room is filled left_e line_e = record {
  size = is.size;
  line = subst (λ x. LineStands rules x (after_choice Fresh rules d s)) (sym line_e) (new_sent rules d v s f tx_buffer left room is filled left_e).stands;
  tx_buffer = keeps_same d tx_buffer (anew d s) (after_choice Fresh rules d s) (record { accepted = refl; cuts = refl; bodies = refl; unsent = refl }) refl filled.keeps;
  room = ap (λ (w : TxBuffer). w.blocks) filled.after ∙ is.room;
  cut = cut_next d s.accepted s.unsent s.bodies is.cut;
  in_flight = λ i inner. (kept i inner).has;
  taken = λ i inner. takes_later (anew d s) (after_choice Fresh rules d s) (vt_a (after_choice Fresh rules d s) + i) (at l.in_flight i).extent (record { accepted = refl; bodies = refl; unsent = refl; low = omega arith }) (kept i inner).takes;
}
  where
    low : vt_a (anew d s) ≡ vt_a s
    low = low_next rules d v.line s is.line

    in_flight_line : l.in_flight ≡ v.line.in_flight ++ f ∷ []
    in_flight_line = ap (λ (x : RetxBuffer). x.in_flight) line_e

    kept : (i : ℕ) → i < length l.in_flight → IsKept d (anew d s) (vt_a (anew d s) + i) (at l.in_flight i)
    kept i inner =
        let less : i < length v.line.in_flight + 1 = omega (arith, inner, ap (λ (fs : List SentPdu). length fs) in_flight_line, length-append v.line.in_flight (f ∷ [])) in
        subst (λ fs. IsKept d (anew d s) (vt_a (anew d s) + i) (at fs i)) (sym in_flight_line)
        (subst (λ a. IsKept d (anew d s) (a + i) (at (v.line.in_flight ++ f ∷ []) i)) (sym low) (with_new rules d v s f tx_buffer i less is filled).kept)

-- its octets are in the buffer
new_whole : (rules : Rules) (d : ℕ) (v : Outgoing) (s : Sender) (f : SentPdu) (tx_buffer : TxBuffer) → IsOutgoing rules d v s → IsFilled d v s f tx_buffer → IsWhole tx_buffer f (next_body d s.unsent)
new_whole rules d v s f tx_buffer is filled =
    let here : body_at (s.bodies ++ next_body d s.unsent ∷ []) (vt_s s) ≡ next_body d s.unsent = get_or-append_seam s.bodies (next_body d s.unsent) [] no_body in
    subst (IsWhole tx_buffer f) here (here_is d tx_buffer (anew d s) (vt_s s) f filled.keeps filled.takes (subst (HasBody d f) (sym here) filled.has)
    (omega (arith, low_next rules d v.line s is.line, is.line.flying))
    (omega (arith, length-append s.bodies (next_body d s.unsent ∷ []))))

pub new_here : (rules : Rules) (d : ℕ) (v : Outgoing) (s : Sender) (f : SentPdu) (tx_buffer : TxBuffer) → IsOutgoing rules d v s → IsFilled d v s f tx_buffer → IsHere tx_buffer f
new_here rules d v s f tx_buffer is filled = (new_whole rules d v s f tx_buffer is filled).here

pub new_goes : (rules : Rules) (d : ℕ) (v : Outgoing) (s : Sender) (f : SentPdu) (tx_buffer : TxBuffer) (l : RetxBuffer) (left poll : Bool) (number : ℕ) (out : List ℕ) → length v.line.in_flight < v.line.window → IsOutgoing rules d v s → IsFilled d v s f tx_buffer → number ≡ number_at (length v.line.in_flight) v.line → left ≡ is_left (after_body d s.unsent) → poll ≡ new_poll f left v.line → l ≡ new_line f left v.line → out ≡ pdu_in number poll f (record { size = v.size; line = l; tx_buffer = tx_buffer }) → Built rules d s out (record { size = v.size; line = l; tx_buffer = tx_buffer }) Fresh
new_goes rules d v s f tx_buffer l left poll number out room is filled number_e left_e poll_e line_e text =
    let number_is_next : number ≡ wrapped (vt_s s) = number_e ∙ (number_is rules v.line s (length v.line.in_flight) (omega arith) is.line ∙ ap wrapped is.line.flying) in
    let whole : pdu_in number poll f (record { size = v.size; line = l; tx_buffer = tx_buffer }) ≡ am_pdu number poll (indicators_of d (next_body d s.unsent)) (carried (next_body d s.unsent)) (d + 2) =
    ap₂ (λ n b. am_pdu number poll (indicators_of n b) (carried b) tx_buffer.size) (octets_is d tx_buffer (anew d s) filled.keeps) (new_whole rules d v s f tx_buffer is filled).body
    ∙ ap (am_pdu number poll (indicators_of d (next_body d s.unsent)) (carried (next_body d s.unsent))) filled.keeps.size in
    record {
      text = text ∙ (whole ∙ ap₂ (λ n p. am_pdu n p (indicators_of d (next_body d s.unsent)) (carried (next_body d s.unsent)) (d + 2)) number_is_next (poll_e ∙ (new_sent rules d v s f tx_buffer left room is filled left_e).poll));
      goes = new_stands rules d v s f tx_buffer l left room is filled left_e line_e;
      short = filled.has.short;
    }

-- a line that stands for a sender stands for one with a unit more
line_unit : (rules : Rules) (l : RetxBuffer) (s : Sender) (unit : List ℕ) → LineStands rules l s → LineStands rules l (after_offer Accepted s unit)
line_unit rules l s unit is = record {
  window = is.window;
  rules_are = is.rules_are;
  built = is.built;
  ended = is.ended;
  most = is.most;
  few = is.few;
  flying = is.flying;
  next = is.next;
  in_flight = λ i less. let f : IsInFlight s (vt_a s + i) (at l.in_flight i) = is.in_flight i less in record { acked = f.acked; requested = f.requested; named = f.named; builds = f.builds };
  acked_sent = is.acked_sent;
  requested = λ k e. let w : IsRequested s k = is.requested k e in record { from = w.from; sent = w.sent; is_open = w.is_open; high = w.high };
  unsent = is.unsent;
  poll_timer = is.poll_timer;
  owed = is.owed;
  polled = λ out. let p : IsPolled s l.polled (length l.in_flight) = is.polled out in record { number = p.number; inside = p.inside };
  running = is.running;
}

-- an SDU that the sender accepts
unit_full : (rules : Rules) (s : Sender) (unit : List ℕ) → offered rules s unit ≡ Accepted → 0 < length unit
unit_full rules s [] e = absurd (cc)
unit_full rules s (x ∷ xs) e = omega arith

pub unit_goes : (rules : Rules) (d : ℕ) (v : Outgoing) (s : Sender) (unit : List ℕ) (tx_buffer : TxBuffer) → IsOutgoing rules d v s → offered rules s unit ≡ Accepted → tx_buffer ≡ buffer_after_offer Accepted unit v.tx_buffer → BufferStands d tx_buffer (after_offer Accepted s unit) → IsOutgoing rules d (record { size = v.size; line = v.line; tx_buffer = tx_buffer }) (after_offer Accepted s unit)
unit_goes rules d v s unit tx_buffer is offered_e waiting_e keeps = record {
  size = is.size;
  line = line_unit rules v.line s unit is.line;
  tx_buffer = keeps;
  room = ap (λ (w : TxBuffer). w.blocks) waiting_e ∙ is.room;
  cut = cut_unit s.accepted s.unsent s.bodies unit (unit_full rules s unit offered_e) is.cut;
  in_flight = λ i inside. is.in_flight i inside;
  taken = λ i inside. takes_more s (vt_a s + i) (at v.line.in_flight i).extent unit (is.taken i inside);
}

pub offer_goes : (rules : Rules) (d : ℕ) (v : Outgoing) (s : Sender) (unit : List ℕ) (answer : Offer) (tx_buffer : TxBuffer) → IsOutgoing rules d v s → answer ≡ offered rules s unit → tx_buffer ≡ buffer_after_offer answer unit v.tx_buffer → BufferStands d tx_buffer (after_offer answer s unit) → IsOutgoing rules d (record { size = v.size; line = v.line; tx_buffer = tx_buffer }) (after_offer answer s unit)
offer_goes rules d v s unit Accepted tx_buffer is e waiting_e keeps = unit_goes rules d v s unit tx_buffer is (sym e) waiting_e keeps
offer_goes rules d v s unit Full tx_buffer is e waiting_e keeps = subst (λ w. IsOutgoing rules d (record { size = v.size; line = v.line; tx_buffer = w }) s) (sym waiting_e) is
offer_goes rules d v s unit WrongSize tx_buffer is e waiting_e keeps = subst (λ w. IsOutgoing rules d (record { size = v.size; line = v.line; tx_buffer = w }) s) (sym waiting_e) is

-- what a pick says of the line
pub picked_again : (left : Bool) (l : RetxBuffer) (place : ℕ) → Again place ≡ picked left l → place < length l.in_flight
picked_again left l place e = go (nat_lt (first_requested l.in_flight) (length l.in_flight)) (nat_lt (length l.in_flight) l.window && left) (l.owed && nat_lt 0 (length l.in_flight)) refl e
  where
    go : (a b c : Bool) → nat_lt (first_requested l.in_flight) (length l.in_flight) ≡ a → Again place ≡ cond a (Again (first_requested l.in_flight)) (cond b New (cond c (Last (length l.in_flight - 1)) NoPdu)) → place < length l.in_flight
    go true b c t q = let same : place ≡ first_requested l.in_flight = cc in omega (arith, ltb-true _ _ t, same)
    go false true c t q = absurd (cc)
    go false false true t q = absurd (cc)
    go false false false t q = absurd (cc)

pub picked_last : (left : Bool) (l : RetxBuffer) (place : ℕ) → Last place ≡ picked left l → IsLast l place
picked_last left l place e = go (nat_lt (first_requested l.in_flight) (length l.in_flight)) (nat_lt (length l.in_flight) l.window && left) (l.owed && nat_lt 0 (length l.in_flight)) refl refl e
  where
    go : (a b c : Bool) → nat_lt (first_requested l.in_flight) (length l.in_flight) ≡ a → (l.owed && nat_lt 0 (length l.in_flight)) ≡ c → Last place ≡ cond a (Again (first_requested l.in_flight)) (cond b New (cond c (Last (length l.in_flight - 1)) NoPdu)) → IsLast l place
    go true b c t u q = absurd (cc)
    go false true c t u q = absurd (cc)
    go false false true t u q = record { some = ltb-true _ _ (and_parts _ _ u).1; none = ltb-false _ _ t; place_is = cc }
    go false false false t u q = absurd (cc)

-- the sender begins anew
pub restart_goes : (rules : Rules) (d : ℕ) (v : Outgoing) (s : Sender) (l : RetxBuffer) (tx_buffer : TxBuffer) → length l.in_flight ≡ 0 → tx_buffer.blocks ≡ v.tx_buffer.blocks → IsOutgoing rules d v s → LineStands rules l (restarted_sender s) → BufferStands d tx_buffer (restarted_sender s) → IsOutgoing rules d (record { size = v.size; line = l; tx_buffer = tx_buffer }) (restarted_sender s)
restart_goes rules d v s l tx_buffer none room is stands keeps = record {
  size = is.size;
  line = stands;
  tx_buffer = keeps;
  room = room ∙ is.room;
  cut = cut_fresh (restarted_sender s).accepted (full_drop (begun s) s.accepted (cut_full s.accepted s.unsent s.bodies is.cut));
  in_flight = λ i less. absurd (omega (arith, less, none));
  taken = λ i less. absurd (omega (arith, less, none));
}

-- a tick of the timers, and an MRW that is written
pub tick_goes : (rules : Rules) (d : ℕ) (v : Outgoing) (s : Sender) (l : RetxBuffer) → l.in_flight ≡ v.line.in_flight → IsOutgoing rules d v s → LineStands rules l (timed s) → IsOutgoing rules d (with_line l v) (timed s)
tick_goes rules d v s l e is stands = line_goes rules d v s (timed s) l is stands (subst (λ fs. AreKept v.line.in_flight fs) (sym e) (kept_all v.line.in_flight)) (ap (λ (fs : List SentPdu). length fs) e) (record { accepted = refl; cuts = refl; bodies = refl; unsent = refl })

pub mrw_goes : (rules : Rules) (d : ℕ) (v : Outgoing) (s : Sender) (x : Discard) (l : RetxBuffer) → l.in_flight ≡ v.line.in_flight → IsOutgoing rules d v s → LineStands rules l (after_mrw rules s x) → IsOutgoing rules d (with_line l v) (after_mrw rules s x)
mrw_goes rules d v s x l e is stands = line_goes rules d v s (after_mrw rules s x) l is stands (subst (λ fs. AreKept v.line.in_flight fs) (sym e) (kept_all v.line.in_flight)) (ap (λ (fs : List SentPdu). length fs) e) (record { accepted = refl; cuts = refl; bodies = refl; unsent = refl })

pub mrw_runs : (rules : Rules) (d : ℕ) (v : Outgoing) (s : Sender) (l : RetxBuffer) → mrw_due s.discard ≡ true → l.in_flight ≡ v.line.in_flight → IsOutgoing rules d v s → ((x : Discard) → s.discard ≡ Some x → LineStands rules l (after_mrw rules s x)) → IsOutgoing rules d (with_line l v) (after_moving rules s s.discard)
mrw_runs rules d v s l due e is stands = go s.discard refl due
  where
    go : (x : Option Discard) → s.discard ≡ x → mrw_due x ≡ true → IsOutgoing rules d (with_line l v) (after_moving rules s x)
    go None q h = absurd (cc)
    go (Some x) q h = mrw_goes rules d v s x l e is (stands x q)
