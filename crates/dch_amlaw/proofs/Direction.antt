-- One direction of a bearer: each event keeps what holds of its numbers.
use Rattle.std.proofs.Common.{◌≡◌, ◌+◌, ◌-◌, ◌<◌, ◌≤◌, ◌⊎◌, ℕ, zero, suc, List, [], ◌∷◌, ◌++◌, Bool, true, false, cond, not, ◌&&◌, ◌||◌, length, map, get_or, Option, Some, None, arith, refl, sym, ap, ◌∙◌, subst, inl, inr, ⊎_elim, length-append, append_assoc}
use Rattle.std.specs.Prelude.{◌==◌, nat_lt, nat_le, max}
use Rattle.std.proofs.lemmas.Bool.{eqb-true, eq-eqb, ltb-true, ltb-false, leb-true, lt-ltb, le-ltb, le-leb, lt-leb, cases_lt, cond_both, or_cases, or_left, or_right, or_from, and_parts, not-true, cases_Bool}
use Rattle.std.proofs.lemmas.List.{append-nil}
use Rattle.dch_am.specs.Numbers.{has, less, below, range, top, run_of, grown, lowest, wrapped, ahead}
use Rattle.dch_am.specs.Status.{Status, wrapped_pair, wrapped_status, status_of, MrwAck, wrapped_ack, Told, OnlyAck, OnlyStatus, AckAndStatus}
use Rattle.dch_am.specs.Names.{named}
use Rattle.dch_am.specs.Bodies.{Body, is_left, next_body, ends_of, no_body}
use Rattle.dch_am.specs.Rules.{Rules}
use Rattle.dch_am.specs.Sender.{Discard, Sender, opened_sender, vt_s, vt_a, offered, after_offer}
use Rattle.dch_bits.specs.declared.offer.Offer.{Offer}
use Rattle.dch_bits.specs.declared.offer.Offer.TheVariants.{Accepted, Full, WrongSize}
use Rattle.dch_am.specs.Building.{Choice, Again, New, Last, NoPdu, choice, after_poll, again, anew, once_more, body_at}
use Rattle.dch_am.specs.Acknowledging.{read_from, unwrap, now_acked, floor, ended_by, told, ended_at, ends_discard, after_ack}
use Rattle.dch_amlaw.proofs.Heard.{reaches, is_outside, after_status, told_outside, after_inside, after_told}
use Rattle.dch_am.specs.Discards.{place_from, can_take, discards_at, discards, after_tick, tick_sender, after_mrw}
use Rattle.dch_am.specs.Receiver.{Receiver, opened_receiver, numbers, got, vr_h, vr_r, taken, after_pdu, read_on, with_pdu}
use Rattle.dch_am.specs.declared.answers.Taken.TheVariants.{Kept, Duplicate, Outside}
use Rattle.dch_am.specs.declared.answers.MrwTaken.TheVariants.{Obeyed, Old, Outside as Beyond}
use Rattle.dch_am.specs.Moves.{obeyed_mrw, after_move, with_move, with_ack}
use Rattle.dch_am.specs.Telling.{telling, after_telling}
use Rattle.dch_amlaw.specs.Pair.{Block, Payload, Mrw, Report}
use Rattle.dch_am.proofs.Lists.{Is, has-append, has-less, has-below, in_range, run_le, run_in, run_not_above, lowest_in, ahead_exact, ahead_behind}
use Rattle.dch_amlaw.proofs.Written.{acks, status_right, as_status, ack_right}
use Rattle.dch_amlaw.proofs.Flow.{Flow, flow_sends, flow_arrives, flow_loses, flow_tells, flow_forgets, flow_told, flow_wants, flow_withdraws, flow_front, flow_front_status, flow_begins}
use Rattle.dch_am.specs.Cuts.{IsCut}
use Rattle.dch_am.proofs.Reading.{cut_next, cut_unit, cut_begins}

-- The numbers of PDUs and MRWs in a line, and what it tells, an MRW_ACK as a status.
abbrev pub payloads : List Block → List ℕ
payloads [] = []
payloads (Payload k poll body ∷ line) = k ∷ payloads line
payloads (Mrw k n end_of_discard ∷ line) = k ∷ payloads line
payloads (Report t ∷ line) = payloads line

abbrev pub tells_of : Told → List Status
tells_of (OnlyAck a) = as_status a.number ∷ []
tells_of (OnlyStatus t) = t ∷ []
tells_of (AckAndStatus a t) = as_status a.number ∷ t ∷ []

abbrev pub reports : List Block → List Status
reports [] = []
reports (Payload k poll body ∷ line) = reports line
reports (Mrw k n end_of_discard ∷ line) = reports line
reports (Report t ∷ line) = tells_of t ++ reports line

-- an MRW_ACK that is owed counts as behind all that is in flight
abbrev pub pending : Option MrwAck → List Status
pending None = []
pending (Some a) = as_status a.number ∷ []

-- the last unit of a discard has its length indicator at this place
abbrev pub HasPlace : List Body → ℕ → ℕ → ℕ → Type 0
HasPlace bodies k n end_of_discard = (i : ℕ) × (end_of_discard ≡ i + 1) × (place_from bodies 0 i ≡ Some (k, n))

-- each PDU in flight has the body of its number
abbrev pub LineIs : List Body → List Block → Type 0
LineIs bodies [] = Unit {0}
LineIs bodies (Payload k poll body ∷ line) = (k < length bodies) × (body ≡ get_or bodies k no_body) × LineIs bodies line
LineIs bodies (Mrw k n end_of_discard ∷ line) = HasPlace bodies k n end_of_discard × LineIs bodies line
LineIs bodies (Report t ∷ line) = LineIs bodies line

abbrev pub ArrivedIs : List Body → List (ℕ × Body) → Type 0
ArrivedIs bodies [] = Unit {0}
ArrivedIs bodies (p ∷ ps) = (p.0 < length bodies) × (p.1 ≡ get_or bodies p.0 no_body) × ArrivedIs bodies ps

-- a running discard lies between the lowest open number and the next new one
abbrev pub DiscardIs : List Body → ℕ → Option Discard → Type 0
DiscardIs bodies lowest_open None = Unit {0}
DiscardIs bodies lowest_open (Some d) = (lowest_open ≤ d.k) × (d.k < length bodies) × HasPlace bodies d.k d.n d.end_of_discard

-- a number has arrived or been passed
abbrev pub Came : List ℕ → ℕ → ℕ → Type 0
Came came to x = Is x (below to ++ came)

pub record Direction (bearer : Rules) (s : Sender) (r : Receiver) (came : List ℕ) (to : ℕ) (line : List Block) (told_line : List Status) : Type 0 where
  pub flow : Flow bearer.window s.acked s.requested (length s.bodies) (got r) (payloads line) (told_line ++ pending r.ack)
  pub discard_is : DiscardIs s.bodies (vt_a s) s.discard
  pub line_is : LineIs s.bodies line
  pub arrived_is : ArrivedIs s.bodies r.arrived
  pub come_in : (x : ℕ) → Came came to x → Is x (got r)
  pub got_in : (x : ℕ) → Is x (got r) → Came came to x
  pub cut : IsCut s.accepted s.unsent s.bodies

payloads-append : (xs ys : List Block) → payloads (xs ++ ys) ≡ payloads xs ++ payloads ys
payloads-append [] ys = refl
payloads-append (Payload j p b ∷ xs) ys = ap (λ ks. j ∷ ks) (payloads-append xs ys)
payloads-append (Mrw j n u ∷ xs) ys = ap (λ ks. j ∷ ks) (payloads-append xs ys)
payloads-append (Report t ∷ xs) ys = payloads-append xs ys

pub reports-append : (xs ys : List Block) → reports (xs ++ ys) ≡ reports xs ++ reports ys
reports-append [] ys = refl
reports-append (Payload j p b ∷ xs) ys = reports-append xs ys
reports-append (Mrw j n u ∷ xs) ys = reports-append xs ys
reports-append (Report t ∷ xs) ys = ap (λ ts. tells_of t ++ ts) (reports-append xs ys) ∙ sym (append_assoc (tells_of t) (reports xs) (reports ys))

line_push : (bodies : List Body) (line : List Block) (b : Block) → LineIs bodies (b ∷ []) → LineIs bodies line → LineIs bodies (line ++ b ∷ [])
line_push bodies [] b e f = e
line_push bodies (Payload j p c ∷ line) b e f = (f.0, f.1, line_push bodies line b e f.2)
line_push bodies (Mrw j n u ∷ line) b e f = (f.0, line_push bodies line b e f.1)
line_push bodies (Report t ∷ line) b e f = line_push bodies line b e f

at_front : (bodies : List Body) (b : Body) (k : ℕ) → k < length bodies → get_or bodies k no_body ≡ get_or (bodies ++ b ∷ []) k no_body
at_front [] b k l = absurd (omega arith)
at_front (c ∷ bodies) b zero l = refl
at_front (c ∷ bodies) b (suc k) l = at_front bodies b k (omega arith)

place_more : (bodies : List Body) (b : Body) (k i : ℕ) (p : ℕ × ℕ) → place_from bodies k i ≡ Some p → place_from (bodies ++ b ∷ []) k i ≡ Some p
place_more [] b k i p e = absurd (cc)
place_more (c ∷ bodies) b k i p e = go (nat_lt i (ends_of c)) e (λ q. place_more bodies b (k + 1) (i - ends_of c) p q)
  where
    here : Option (ℕ × ℕ)
    here = Some (k, cond (c.full && (i == 0)) 0 (i + 1))

    go : (t : Bool) → cond t here (place_from bodies (k + 1) (i - ends_of c)) ≡ Some p → (place_from bodies (k + 1) (i - ends_of c) ≡ Some p → place_from (bodies ++ b ∷ []) (k + 1) (i - ends_of c) ≡ Some p) → cond t here (place_from (bodies ++ b ∷ []) (k + 1) (i - ends_of c)) ≡ Some p
    go true q rest = q
    go false q rest = rest q

same_pair : (x y : ℕ × ℕ) → Some x ≡ Some y → x ≡ y
same_pair x y e = cc

place_below : (bodies : List Body) (k i : ℕ) (p : ℕ × ℕ) → place_from bodies k i ≡ Some p → p.0 < k + length bodies
place_below [] k i p e = absurd (cc)
place_below (c ∷ bodies) k i p e = go (nat_lt i (ends_of c)) e (λ q. place_below bodies (k + 1) (i - ends_of c) p q)
  where
    here : Option (ℕ × ℕ)
    here = Some (k, cond (c.full && (i == 0)) 0 (i + 1))

    go : (t : Bool) → cond t here (place_from bodies (k + 1) (i - ends_of c)) ≡ Some p → (place_from bodies (k + 1) (i - ends_of c) ≡ Some p → p.0 < k + 1 + length bodies) → p.0 < k + suc (length bodies)
    go true q rest = let e : k ≡ p.0 = ap (λ (x : ℕ × ℕ). x.0) (same_pair (k, cond (c.full && (i == 0)) 0 (i + 1)) p q) in omega arith
    go false q rest = omega (arith, rest q)

pub has_place_more : (bodies : List Body) (b : Body) (k n end_of_discard : ℕ) → HasPlace bodies k n end_of_discard → HasPlace (bodies ++ b ∷ []) k n end_of_discard
has_place_more bodies b k n end_of_discard h = (h.0, h.1, place_more bodies b 0 h.0 (k, n) h.2)

line_more : (bodies : List Body) (b : Body) (line : List Block) → LineIs bodies line → LineIs (bodies ++ b ∷ []) line
line_more bodies b [] f = tt
line_more bodies b (Payload k p body ∷ line) f = (omega (arith, f.0, length-append bodies (b ∷ [])), f.1 ∙ at_front bodies b k f.0, line_more bodies b line f.2)
line_more bodies b (Mrw k n end_of_discard ∷ line) f = (has_place_more bodies b k n end_of_discard f.0, line_more bodies b line f.1)
line_more bodies b (Report t ∷ line) f = line_more bodies b line f

arrived_more : (bodies : List Body) (b : Body) (arrived : List (ℕ × Body)) → ArrivedIs bodies arrived → ArrivedIs (bodies ++ b ∷ []) arrived
arrived_more bodies b [] f = tt
arrived_more bodies b (p ∷ ps) f = (omega (arith, f.0, length-append bodies (b ∷ [])), f.1 ∙ at_front bodies b p.0 f.0, arrived_more bodies b ps f.2)

discard_more : (bodies : List Body) (b : Body) (low same : ℕ) (d : Option Discard) → same ≡ low → DiscardIs bodies low d → DiscardIs (bodies ++ b ∷ []) same d
discard_more bodies b low same None e f = tt
discard_more bodies b low same (Some d) e f = (omega (arith, f.0), omega (arith, f.1, length-append bodies (b ∷ [])), has_place_more bodies b d.k d.n d.end_of_discard f.2)

-- Offers.
offer_by : (bearer : Rules) (s : Sender) (r : Receiver) (came : List ℕ) (to : ℕ) (line : List Block) (ts : List Status) (unit : List ℕ) (o : Offer) → offered bearer s unit ≡ o → Direction bearer s r came to line ts → Direction bearer (after_offer o s unit) r came to line ts
offer_by bearer s r came to line ts unit Accepted e d = record {
  flow = d.flow;
  discard_is = d.discard_is;
  line_is = d.line_is;
  arrived_is = d.arrived_is;
  come_in = d.come_in;
  got_in = d.got_in;
  cut = cut_unit s.accepted s.unsent s.bodies unit (full unit e) d.cut;
}
  where
    full : (u : List ℕ) → offered bearer s u ≡ Accepted → 0 < length u
    full [] q = absurd (cc)
    full (x ∷ u) q = omega arith
offer_by bearer s r came to line ts unit Full e d = d
offer_by bearer s r came to line ts unit WrongSize e d = d

pub direction_offers : (bearer : Rules) (s : Sender) (r : Receiver) (came : List ℕ) (to : ℕ) (line : List Block) (ts : List Status) (unit : List ℕ) → Direction bearer s r came to line ts → Direction bearer (after_offer (offered bearer s unit) s unit) r came to line ts
direction_offers bearer s r came to line ts unit d = offer_by bearer s r came to line ts unit (offered bearer s unit) refl d

-- What a choice may be.
abbrev pub Good : Rules → Sender → Choice → Type 0
Good bearer s (Again k) = Is k s.requested
Good bearer s New = vt_s s < vt_a s + bearer.window
Good bearer s (Last k) = (vt_a s ≤ k) × (k < vt_s s)
Good bearer s NoPdu = Unit {0}

last_good : (s : Sender) → vt_a s < vt_s s → (vt_a s ≤ vt_s s - 1) × (vt_s s - 1 < vt_s s)
last_good s l = (omega arith, omega arith)

pub choice_good : (bearer : Rules) (s : Sender) → Good bearer s (choice bearer s)
choice_good bearer s =
    cond_both (nat_lt (lowest (vt_s s) s.requested) (vt_s s)) _ _ (Good bearer s)
    (λ e. lowest_in (vt_s s) s.requested (ltb-true _ _ e))
    (λ _. cond_both (nat_lt (vt_s s) (vt_a s + bearer.window) && is_left s.unsent) _ _ (Good bearer s)
    (λ e. ltb-true _ _ (and_parts _ _ e).0)
    (λ _. cond_both (s.owed && nat_lt (vt_a s) (vt_s s)) _ _ (Good bearer s)
    (λ (e : (s.owed && nat_lt (vt_a s) (vt_s s)) ≡ true). last_good s (ltb-true _ _ (and_parts _ _ e).1))
    (λ _. tt)))

-- the flow with one more number in the line
line_flow : (bearer : Rules) (acked requested : List ℕ) (next : ℕ) (arrived : List ℕ) (line : List Block) (ts : List Status) (b : Block) (k : ℕ) → payloads (b ∷ []) ≡ k ∷ [] → Flow bearer.window acked requested next arrived (payloads line ++ k ∷ []) ts → Flow bearer.window acked requested next arrived (payloads (line ++ b ∷ [])) ts
line_flow bearer acked requested next arrived line ts b k e f = subst (λ xs. Flow bearer.window acked requested next arrived xs ts) (sym (payloads-append line (b ∷ []) ∙ ap (λ xs. payloads line ++ xs) e)) f

pub direction_again : (bearer : Rules) (s : Sender) (r : Receiver) (came : List ℕ) (to : ℕ) (line : List Block) (ts : List Status) (k : ℕ) (poll : Bool) → Is k s.requested → Direction bearer s r came to line ts → Direction bearer (after_poll bearer (again s k) poll) r came to (line ++ Payload k poll (body_at s.bodies k) ∷ []) ts
direction_again bearer s r came to line ts k poll q d = record {
  flow = line_flow bearer s.acked (less s.requested (k ∷ [])) (length s.bodies) (got r) line (ts ++ pending r.ack) (Payload k poll (body_at s.bodies k)) k refl (flow_sends bearer.window s.acked s.requested (length s.bodies) (got r) (payloads line) (ts ++ pending r.ack) k (length s.bodies) (less s.requested (k ∷ [])) d.flow (omega arith) (d.flow.requested_sent k q) d.flow.room (run_not_above s.acked (length s.bodies) k (d.flow.requested_open k q)) (λ x h. (and_parts _ _ (sym (has-less x s.requested (k ∷ [])) ∙ h)).0));
  discard_is = d.discard_is;
  line_is = line_push s.bodies line (Payload k poll (body_at s.bodies k)) (d.flow.requested_sent k q, refl, tt) d.line_is;
  arrived_is = d.arrived_is;
  come_in = d.come_in;
  got_in = d.got_in;
  cut = d.cut;
}

pub direction_last : (bearer : Rules) (s : Sender) (r : Receiver) (came : List ℕ) (to : ℕ) (line : List Block) (ts : List Status) (k : ℕ) (poll : Bool) → (vt_a s ≤ k) × (k < vt_s s) → Direction bearer s r came to line ts → Direction bearer (after_poll bearer (once_more s) poll) r came to (line ++ Payload k poll (body_at s.bodies k) ∷ []) ts
direction_last bearer s r came to line ts k poll q d = record {
  flow = line_flow bearer s.acked s.requested (length s.bodies) (got r) line (ts ++ pending r.ack) (Payload k poll (body_at s.bodies k)) k refl (flow_sends bearer.window s.acked s.requested (length s.bodies) (got r) (payloads line) (ts ++ pending r.ack) k (length s.bodies) s.requested d.flow (omega arith) q.1 d.flow.room q.0 (λ x h. h));
  discard_is = d.discard_is;
  line_is = line_push s.bodies line (Payload k poll (body_at s.bodies k)) (q.1, refl, tt) d.line_is;
  arrived_is = d.arrived_is;
  come_in = d.come_in;
  got_in = d.got_in;
  cut = d.cut;
}

-- one more number that isn't acknowledged leaves the lowest open one
same_low : (acked : List ℕ) (n m : ℕ) → m ≡ suc n → has n acked ≡ false → run_of acked m ≡ run_of acked n
same_low acked n m e h = ap (run_of acked) e ∙ ap (λ b. grown n b (run_of acked n)) h

pub direction_anew : (bearer : Rules) (octets : ℕ) (s : Sender) (r : Receiver) (came : List ℕ) (to : ℕ) (line : List Block) (ts : List Status) (poll : Bool) → vt_s s < vt_a s + bearer.window → Direction bearer s r came to line ts → Direction bearer (after_poll bearer (anew octets s) poll) r came to (line ++ Payload (vt_s s) poll (body_at (anew octets s).bodies (vt_s s)) ∷ []) ts
direction_anew bearer octets s r came to line ts poll q d = record {
  flow = line_flow bearer s.acked s.requested (length (anew octets s).bodies) (got r) line (ts ++ pending r.ack) (Payload (vt_s s) poll (body_at (anew octets s).bodies (vt_s s))) (vt_s s) refl (flow_sends bearer.window s.acked s.requested (length s.bodies) (got r) (payloads line) (ts ++ pending r.ack) (vt_s s) (length (anew octets s).bodies) s.requested d.flow (omega (arith, long)) (omega (arith, long)) (omega (arith, long)) (run_le s.acked (length s.bodies)) (λ x h. h));
  discard_is = discard_more s.bodies b (vt_a s) (run_of s.acked (length (s.bodies ++ b ∷ []))) s.discard (same_low s.acked (length s.bodies) (length (s.bodies ++ b ∷ [])) (omega (arith, long)) new_open) d.discard_is;
  line_is = line_push (anew octets s).bodies line (Payload (vt_s s) poll (body_at (anew octets s).bodies (vt_s s))) (omega (arith, long), refl, tt) (line_more s.bodies b line d.line_is);
  arrived_is = arrived_more s.bodies b r.arrived d.arrived_is;
  come_in = d.come_in;
  got_in = d.got_in;
  cut = cut_next octets s.accepted s.unsent s.bodies d.cut;
}
  where
    b : Body
    b = next_body octets s.unsent

    long : length (s.bodies ++ b ∷ []) ≡ length s.bodies + 1
    long = omega (arith, length-append s.bodies (b ∷ []))

    new_open : has (length s.bodies) s.acked ≡ false
    new_open = ⊎_elim (λ (h : Is (length s.bodies) s.acked). absurd (omega (arith, d.flow.arrived_sent (length s.bodies) (d.flow.acked_arrived (length s.bodies) h)))) (λ (h : has (length s.bodies) s.acked ≡ false). h) (cases_Bool (has (length s.bodies) s.acked))

pub direction_mrw : (bearer : Rules) (s : Sender) (r : Receiver) (came : List ℕ) (to : ℕ) (line : List Block) (ts : List Status) (x : Discard) → s.discard ≡ Some x → Direction bearer s r came to line ts → Direction bearer (after_mrw bearer s x) r came to (line ++ Mrw x.k x.n x.end_of_discard ∷ []) ts
direction_mrw bearer s r came to line ts x e d = record {
  flow = line_flow bearer s.acked s.requested (length s.bodies) (got r) line (ts ++ pending r.ack) (Mrw x.k x.n x.end_of_discard) x.k refl (flow_sends bearer.window s.acked s.requested (length s.bodies) (got r) (payloads line) (ts ++ pending r.ack) x.k (length s.bodies) s.requested d.flow (omega arith) is.1 d.flow.room is.0 (λ y h. h));
  discard_is = is;
  line_is = line_push s.bodies line (Mrw x.k x.n x.end_of_discard) (is.2, tt) d.line_is;
  arrived_is = d.arrived_is;
  come_in = d.come_in;
  got_in = d.got_in;
  cut = d.cut;
}
  where
    is : (vt_a s ≤ x.k) × (x.k < length s.bodies) × HasPlace s.bodies x.k x.n x.end_of_discard
    is = subst (DiscardIs s.bodies (vt_a s)) e d.discard_is

-- A tick may begin a discard.
discards_by : (bearer : Rules) (s : Sender) (r : Receiver) (came : List ℕ) (to : ℕ) (line : List Block) (ts : List Status) (i : ℕ) (p : Option (ℕ × ℕ)) → place_from s.bodies 0 i ≡ p → can_take bearer s i p ≡ true → Direction bearer s r came to line ts → Direction bearer (discards_at s i p) r came to line ts
discards_by bearer s r came to line ts i None e t d = d
discards_by bearer s r came to line ts i (Some p) e t d = record {
  flow = flow_wants bearer.window s.acked s.requested (length s.bodies) (got r) (payloads line) (ts ++ pending r.ack) (less s.requested (below p.0)) d.flow (λ x h. (and_parts _ _ (sym (has-less x s.requested (below p.0)) ∙ h)).0);
  discard_is = (leb-true (vt_a s) p.0 (and_parts (nat_le (vt_a s) p.0) _ (and_parts (nat_le (vt_a s) p.0 && nat_le p.1 15) _ (and_parts (nat_le (vt_a s) p.0 && nat_le p.1 15 && nat_le s.dropped i) _ t).0).0).0, omega (arith, place_below s.bodies 0 i p e), (i, refl, e));
  line_is = d.line_is;
  arrived_is = d.arrived_is;
  come_in = d.come_in;
  got_in = d.got_in;
  cut = d.cut;
}

direction_discards : (bearer : Rules) (s : Sender) (r : Receiver) (came : List ℕ) (to : ℕ) (line : List Block) (ts : List Status) (n : ℕ) → Direction bearer s r came to line ts → Direction bearer (discards bearer s n) r came to line ts
direction_discards bearer s r came to line ts zero d = d
direction_discards bearer s r came to line ts (suc i) d =
    cond_both (can_take bearer s i (place_from s.bodies 0 i)) _ _ (λ (x : Sender). Direction bearer x r came to line ts)
    (λ t. discards_by bearer s r came to line ts i (place_from s.bodies 0 i) refl t d)
    (λ _. direction_discards bearer s r came to line ts i d)

tick_by : (bearer : Rules) (s : Sender) (r : Receiver) (came : List ℕ) (to : ℕ) (line : List Block) (ts : List Status) (x : Option Discard) → s.discard ≡ x → Direction bearer s r came to line ts → Direction bearer (after_tick bearer s x) r came to line ts
tick_by bearer s r came to line ts None e d = direction_discards bearer s r came to line ts (length s.accepted) d
tick_by bearer s r came to line ts (Some x) e d = record {
  flow = d.flow;
  discard_is = is;
  line_is = d.line_is;
  arrived_is = d.arrived_is;
  come_in = d.come_in;
  got_in = d.got_in;
  cut = d.cut;
}
  where
    is : (vt_a s ≤ x.k) × (x.k < length s.bodies) × HasPlace s.bodies x.k x.n x.end_of_discard
    is = subst (DiscardIs s.bodies (vt_a s)) e d.discard_is

pub direction_ticks : (bearer : Rules) (s : Sender) (r : Receiver) (came : List ℕ) (to : ℕ) (line : List Block) (ts : List Status) → Direction bearer s r came to line ts → Direction bearer (tick_sender bearer s) r came to line ts
direction_ticks bearer s r came to line ts d = tick_by bearer (record s { poll_timer = s.poll_timer - 1; owed = s.owed || (s.poll_timer == 1); ticks = s.ticks + 1 }) r came to line ts s.discard refl (record {
  flow = d.flow;
  discard_is = d.discard_is;
  line_is = d.line_is;
  arrived_is = d.arrived_is;
  come_in = d.come_in;
  got_in = d.got_in;
  cut = d.cut;
})

-- A status of the other direction is put in flight.
pub direction_past_told : (bearer : Rules) (s : Sender) (r : Receiver) (came : List ℕ) (to : ℕ) (line : List Block) (ts : List Status) (t : Told) → Direction bearer s r came to line ts → Direction bearer s r came to (line ++ Report t ∷ []) ts
direction_past_told bearer s r came to line ts t d = record {
  flow = subst (λ xs. Flow bearer.window s.acked s.requested (length s.bodies) (got r) xs (ts ++ pending r.ack)) (sym (payloads-append line (Report t ∷ []) ∙ append-nil (payloads line))) d.flow;
  discard_is = d.discard_is;
  line_is = line_push s.bodies line (Report t) tt d.line_is;
  arrived_is = d.arrived_is;
  come_in = d.come_in;
  got_in = d.got_in;
  cut = d.cut;
}

-- The receiver tells what is due.
pub direction_tells : (bearer : Rules) (bits : ℕ) (s : Sender) (r : Receiver) (came : List ℕ) (to : ℕ) (line : List Block) (ts : List Status) (a : Option MrwAck) (due : Bool) (t : Told) → r.ack ≡ a → telling bits r a due ≡ Some t → Direction bearer s r came to line ts → Direction bearer s (after_telling bearer r) came to line (ts ++ tells_of t)
direction_tells bearer bits s r came to line ts a due t ea et d = record {
  flow = subst (λ xs. Flow bearer.window s.acked s.requested (length s.bodies) (got r) (payloads line) xs) (sym (append-nil (ts ++ tells_of t))) (by a due t et (subst (λ x. Flow bearer.window s.acked s.requested (length s.bodies) (got r) (payloads line) (ts ++ pending x)) ea d.flow));
  discard_is = d.discard_is;
  line_is = d.line_is;
  arrived_is = d.arrived_is;
  come_in = d.come_in;
  got_in = d.got_in;
  cut = d.cut;
}
  where
    F : List Status → Type 0
    F = λ xs. Flow bearer.window s.acked s.requested (length s.bodies) (got r) (payloads line) xs

    same : (x y : Told) → Some x ≡ Some y → x ≡ y
    same x y e = cc

    by : (a : Option MrwAck) (due : Bool) (t : Told) → telling bits r a due ≡ Some t → F (ts ++ pending a) → F (ts ++ tells_of t)
    by None false t e f = absurd (cc)
    by None true t e f = subst (λ x. F (ts ++ tells_of x)) (same (OnlyStatus (status_of bits (got r))) t e) (flow_tells bearer.window s.acked s.requested (length s.bodies) (got r) (payloads line) ts (status_of bits (got r)) (subst F (append-nil ts) f) (status_right bits (got r)))
    by (Some a) false t e f = subst (λ x. F (ts ++ tells_of x)) (same (OnlyAck a) t e) f
    by (Some a) true t e f = subst (λ x. F (ts ++ tells_of x)) (same (AckAndStatus a (status_of (bits - 20) (got r))) t e) (subst F (append_assoc ts (as_status a.number ∷ []) (status_of (bits - 20) (got r) ∷ [])) (flow_tells bearer.window s.acked s.requested (length s.bodies) (got r) (payloads line) (ts ++ as_status a.number ∷ []) (status_of (bits - 20) (got r)) f (status_right (bits - 20) (got r))))

-- The front of the line is lost.
pub direction_loses_pdu : (bearer : Rules) (s : Sender) (r : Receiver) (came : List ℕ) (to : ℕ) (line : List Block) (ts : List Status) (k : ℕ) (poll : Bool) (body : Body) → Direction bearer s r came to (Payload k poll body ∷ line) ts → Direction bearer s r came to line ts
direction_loses_pdu bearer s r came to line ts k poll body d = record {
  flow = flow_loses bearer.window s.acked s.requested (length s.bodies) (got r) (payloads line) (ts ++ pending r.ack) k d.flow;
  discard_is = d.discard_is;
  line_is = d.line_is.2;
  arrived_is = d.arrived_is;
  come_in = d.come_in;
  got_in = d.got_in;
  cut = d.cut;
}

pub direction_loses_mrw : (bearer : Rules) (s : Sender) (r : Receiver) (came : List ℕ) (to : ℕ) (line : List Block) (ts : List Status) (k n end_of_discard : ℕ) → Direction bearer s r came to (Mrw k n end_of_discard ∷ line) ts → Direction bearer s r came to line ts
direction_loses_mrw bearer s r came to line ts k n end_of_discard d = record {
  flow = flow_loses bearer.window s.acked s.requested (length s.bodies) (got r) (payloads line) (ts ++ pending r.ack) k d.flow;
  discard_is = d.discard_is;
  line_is = d.line_is.1;
  arrived_is = d.arrived_is;
  come_in = d.come_in;
  got_in = d.got_in;
  cut = d.cut;
}

pub direction_skips_told : (bearer : Rules) (s : Sender) (r : Receiver) (came : List ℕ) (to : ℕ) (line : List Block) (ts : List Status) (t : Told) → Direction bearer s r came to (Report t ∷ line) ts → Direction bearer s r came to line ts
direction_skips_told bearer s r came to line ts t d = record {
  flow = d.flow;
  discard_is = d.discard_is;
  line_is = d.line_is;
  arrived_is = d.arrived_is;
  come_in = d.come_in;
  got_in = d.got_in;
  cut = d.cut;
}

-- a status isn't taken
pub direction_forgets : (bearer : Rules) (s : Sender) (r : Receiver) (came : List ℕ) (to : ℕ) (line : List Block) (t : Status) (ts : List Status) → Direction bearer s r came to line (t ∷ ts) → Direction bearer s r came to line ts
direction_forgets bearer s r came to line t ts d = record {
  flow = flow_forgets bearer.window s.acked s.requested (length s.bodies) (got r) (payloads line) (ts ++ pending r.ack) t d.flow;
  discard_is = d.discard_is;
  line_is = d.line_is;
  arrived_is = d.arrived_is;
  come_in = d.come_in;
  got_in = d.got_in;
  cut = d.cut;
}

pub direction_loses_told : (bearer : Rules) (s : Sender) (r : Receiver) (came : List ℕ) (to : ℕ) (line : List Block) (t : Told) (ts : List Status) → Direction bearer s r came to line (tells_of t ++ ts) → Direction bearer s r came to line ts
direction_loses_told bearer s r came to line (OnlyAck a) ts d = direction_forgets bearer s r came to line (as_status a.number) ts d
direction_loses_told bearer s r came to line (OnlyStatus t) ts d = direction_forgets bearer s r came to line t ts d
direction_loses_told bearer s r came to line (AckAndStatus a t) ts d = direction_forgets bearer s r came to line t ts (direction_forgets bearer s r came to line (as_status a.number) (t ∷ ts) d)

-- How the front PDU is answered: by whether it has arrived or been passed.
pub record IsRead (bearer : Rules) (r : Receiver) (k : ℕ) : Type 0 where
  pub again : has k (got r) ≡ true → taken bearer r (wrapped k) ≡ Duplicate
  pub first : has k (got r) ≡ false → taken bearer r (wrapped k) ≡ Kept
  pub number : has k (got r) ≡ false → vr_r r + ahead (vr_r r) (wrapped k) ≡ k
  pub old : k < vr_r r → obeyed_mrw bearer r (wrapped k) ≡ Old
  pub obeyed : vr_r r ≤ k → obeyed_mrw bearer r (wrapped k) ≡ Obeyed
  pub exact : vr_r r ≤ k → vr_r r + ahead (vr_r r) (wrapped k) ≡ k

pub pdu_is_read : (bearer : Rules) (acked requested : List ℕ) (next : ℕ) (r : Receiver) (line : List ℕ) (ts : List Status) (k : ℕ) → bearer.window ≤ 2048 → Flow bearer.window acked requested next (got r) (k ∷ line) ts → IsRead bearer r k
pdu_is_read bearer acked requested next r line ts k small f = record {
  again = λ h. ⊎_elim (λ (l : k < e). duplicate (or_left _ _ (le-leb _ _ (ahead_behind e k bearer.window l near.1 small)))) (λ (l : e ≤ k). duplicate (or_right _ _ (subst (λ x. Is x (got r)) (sym (exact l)) h))) (cases_lt k e);
  first = λ h. let l : e ≤ k = is_open h in kept (or_from _ _ (lt-leb _ _ (omega (arith, exact l, near.0))) (subst (λ x. has x (got r) ≡ false) (sym (exact l)) h)) (lt-leb _ _ (omega (arith, exact l, near.0)));
  number = λ h. exact (is_open h);
  old = λ l. ap (λ c. cond c Old (cond (nat_le bearer.window (ahead e (wrapped k))) (Beyond (wrapped (wrapped k))) Obeyed)) (le-leb _ _ (ahead_behind e k bearer.window l near.1 small));
  obeyed = λ l. ap (λ c. cond c Old (cond (nat_le bearer.window (ahead e (wrapped k))) (Beyond (wrapped (wrapped k))) Obeyed)) (lt-leb _ _ (omega (arith, exact l, near.0))) ∙ ap (λ c. cond c (Beyond (wrapped (wrapped k))) Obeyed) (lt-leb _ _ (omega (arith, exact l, near.0)));
  exact = exact;
}
  where
    e : ℕ
    e = vr_r r

    near : (k < e + bearer.window) × (e ≤ k + bearer.window)
    near = flow_front bearer.window acked requested next (got r) line ts k f

    exact : e ≤ k → e + ahead e (wrapped k) ≡ k
    exact l = ahead_exact e k l (omega (arith, near.0))

    is_open : has k (got r) ≡ false → e ≤ k
    is_open h = run_not_above (got r) (vr_h r) k h

    duplicate : (nat_le (4096 - bearer.window) (ahead e (wrapped k)) || has (e + ahead e (wrapped k)) (got r)) ≡ true → taken bearer r (wrapped k) ≡ Duplicate
    duplicate q = ap (λ c. cond c Duplicate (cond (nat_le bearer.window (ahead e (wrapped k))) Outside Kept)) q

    kept : (nat_le (4096 - bearer.window) (ahead e (wrapped k)) || has (e + ahead e (wrapped k)) (got r)) ≡ false → nat_le bearer.window (ahead e (wrapped k)) ≡ false → taken bearer r (wrapped k) ≡ Kept
    kept p q = ap (λ c. cond c Duplicate (cond (nat_le bearer.window (ahead e (wrapped k))) Outside Kept)) p ∙ ap (λ c. cond c Outside Kept) q

-- membership in passed and arrived numbers
pub in_parts : (n : ℕ) (xs : List ℕ) (x : ℕ) → Is x (below n ++ xs) → (x < n) ⊎ (Is x xs)
in_parts n xs x h = ⊎_elim (λ (q : Is x (below n)). inl (ltb-true x n (sym (has-below x n) ∙ q))) (λ (q : Is x xs). inr q) (or_cases _ _ (sym (has-append x (below n) xs) ∙ h))

pub in_low : (n : ℕ) (xs : List ℕ) (x : ℕ) → x < n → Is x (below n ++ xs)
in_low n xs x l = has-append x (below n) xs ∙ or_left _ _ (has-below x n ∙ lt-ltb x n l)

pub in_high : (n : ℕ) (xs : List ℕ) (x : ℕ) → Is x xs → Is x (below n ++ xs)
in_high n xs x h = has-append x (below n) xs ∙ or_right _ _ h

cons_parts : (k x : ℕ) (xs : List ℕ) → Is x (k ∷ xs) → (x ≡ k) ⊎ (Is x xs)
cons_parts k x xs h = ⊎_elim (λ q. inl (eqb-true x k q)) (λ (q : Is x xs). inr q) (or_cases _ _ h)

cons_high : (k x n : ℕ) (xs : List ℕ) → Is x (below n ++ xs) → Is x (below n ++ k ∷ xs)
cons_high k x n xs h = ⊎_elim (λ (l : x < n). in_low n (k ∷ xs) x l) (λ (q : Is x xs). in_high n (k ∷ xs) x (or_right _ _ q)) (in_parts n xs x h)

cons_here : (k n : ℕ) (xs : List ℕ) → Is k (below n ++ k ∷ xs)
cons_here k n xs = in_high n (k ∷ xs) k (or_left _ _ (eq-eqb k k refl))

cons_down : (k x n : ℕ) (xs : List ℕ) → Is x (below n ++ k ∷ xs) → (x ≡ k) ⊎ (Is x (below n ++ xs))
cons_down k x n xs h = ⊎_elim (λ (l : x < n). inr (in_low n xs x l)) (λ (q : Is x (k ∷ xs)). ⊎_elim (λ (e : x ≡ k). inl e) (λ (m : Is x xs). inr (in_high n xs x m)) (cons_parts k x xs q)) (in_parts n (k ∷ xs) x h)

pub direction_arrives : (bearer : Rules) (s : Sender) (r : Receiver) (came : List ℕ) (to : ℕ) (line : List Block) (ts : List Status) (k : ℕ) (poll : Bool) (body : Body) → bearer.window ≤ 2048 → Direction bearer s r came to (Payload k poll body ∷ line) ts → Direction bearer s (after_pdu bearer (taken bearer r (wrapped k)) r (wrapped k) poll body) (k ∷ came) to line ts
direction_arrives bearer s r came to line ts k poll body small d =
    ⊎_elim
    (λ (h : has k (got r) ≡ true). subst (λ t. Direction bearer s (after_pdu bearer t r (wrapped k) poll body) (k ∷ came) to line ts) (sym (read.again h)) record {
      flow = flow_arrives bearer.window s.acked s.requested (length s.bodies) (got r) (payloads line) (ts ++ pending r.ack) k (got r) d.flow (λ x q. q) (λ x q. inr q);
      discard_is = d.discard_is;
      line_is = d.line_is.2;
      arrived_is = d.arrived_is;
      come_in = λ x q. ⊎_elim (λ (e : x ≡ k). subst (λ y. Is y (got r)) (sym e) h) (λ m. d.come_in x m) (cons_down k x to came q);
      got_in = λ x q. cons_high k x to came (d.got_in x q);
      cut = d.cut;
    })
    (λ (h : has k (got r) ≡ false). subst (λ t. Direction bearer s (after_pdu bearer t r (wrapped k) poll body) (k ∷ came) to line ts) (sym (read.first h)) (subst (λ n. Direction bearer s (after_kept n) (k ∷ came) to line ts) (sym (read.number h)) record {
      flow = flow_arrives bearer.window s.acked s.requested (length s.bodies) (got r) (payloads line) (ts ++ pending r.ack) k (below r.passed ++ k ∷ numbers r.arrived) d.flow (λ x q. cons_high k x r.passed (numbers r.arrived) q) (λ x q. ⊎_elim (λ (e : x ≡ k). inl (omega arith)) (λ m. inr m) (cons_down k x r.passed (numbers r.arrived) q));
      discard_is = d.discard_is;
      line_is = d.line_is.2;
      arrived_is = (d.line_is.0, d.line_is.1, d.arrived_is);
      come_in = λ x q. ⊎_elim (λ (e : x ≡ k). subst (λ y. Is y (below r.passed ++ k ∷ numbers r.arrived)) (sym e) (cons_here k r.passed (numbers r.arrived))) (λ m. cons_high k x r.passed (numbers r.arrived) (d.come_in x m)) (cons_down k x to came q);
      got_in = λ x q. ⊎_elim (λ (e : x ≡ k). subst (λ y. Is y (below to ++ k ∷ came)) (sym e) (cons_here k to came)) (λ m. cons_high k x to came (d.got_in x m)) (cons_down k x r.passed (numbers r.arrived) q);
      cut = d.cut;
    }))
    (cases_Bool (has k (got r)))
  where
    read : IsRead bearer r k
    read = pdu_is_read bearer s.acked s.requested (length s.bodies) r (payloads line) (ts ++ pending r.ack) k small d.flow

    after_kept : ℕ → Receiver
    after_kept n = read_on (with_pdu bearer r n poll body) (vr_r r)

-- The front MRW comes.
pub direction_moves : (bearer : Rules) (s : Sender) (r : Receiver) (came : List ℕ) (to : ℕ) (line : List Block) (ts : List Status) (k n end_of_discard : ℕ) → bearer.window ≤ 2048 → Direction bearer s r came to (Mrw k n end_of_discard ∷ line) ts → Direction bearer s (after_move (obeyed_mrw bearer r (wrapped k)) r (wrapped k) n) came (max to k) line ts
direction_moves bearer s r came to line ts k n end_of_discard small d =
    ⊎_elim
    (λ (l : k < vr_r r). subst (λ t. Direction bearer s (after_move t r (wrapped k) n) came (max to k) line ts) (sym (read.old l)) record {
      flow = flow_tells bearer.window s.acked s.requested (length s.bodies) (got r) (payloads line) ts (as_status (vr_r r)) (flow_withdraws bearer.window s.acked s.requested (length s.bodies) (got r) (payloads line) ts (pending r.ack) (flow_loses bearer.window s.acked s.requested (length s.bodies) (got r) (payloads line) (ts ++ pending r.ack) k d.flow)) (ack_right (got r));
      discard_is = d.discard_is;
      line_is = d.line_is.1;
      arrived_is = d.arrived_is;
      come_in = λ x q. ⊎_elim (λ (m : x < max to k). ⊎_elim (λ (j : x < to). d.come_in x (in_low to came x j)) (λ (j : to ≤ x). run_in (got r) (vr_h r) x (omega arith)) (cases_lt x to)) (λ m. d.come_in x (in_high to came x m)) (in_parts (max to k) came x q);
      got_in = λ x q. widen x (d.got_in x q);
      cut = d.cut;
    })
    (λ (l : vr_r r ≤ k). subst (λ t. Direction bearer s (after_move t r (wrapped k) n) came (max to k) line ts) (sym (read.obeyed l)) (subst (λ m. Direction bearer s (after_obeyed m) came (max to k) line ts) (sym (read.exact l)) record {
      flow = flow_tells bearer.window s.acked s.requested (length s.bodies) now (payloads line) ts (as_status (run_of now (top now))) (flow_withdraws bearer.window s.acked s.requested (length s.bodies) now (payloads line) ts (pending r.ack) (flow_arrives bearer.window s.acked s.requested (length s.bodies) (got r) (payloads line) (ts ++ pending r.ack) k now d.flow up (λ x q. ⊎_elim (λ (m : x < max r.passed k). ⊎_elim (λ (j : x < r.passed). inr (in_low r.passed (numbers r.arrived) x j)) (λ (j : r.passed ≤ x). inl (omega arith)) (cases_lt x r.passed)) (λ m. inr (in_high r.passed (numbers r.arrived) x m)) (in_parts (max r.passed k) (numbers r.arrived) x q)))) (ack_right now);
      discard_is = d.discard_is;
      line_is = d.line_is.1;
      arrived_is = d.arrived_is;
      come_in = λ x q. ⊎_elim (λ (m : x < max to k). ⊎_elim (λ (j : x < to). up x (d.come_in x (in_low to came x j))) (λ (j : to ≤ x). in_low (max r.passed k) (numbers r.arrived) x (omega arith)) (cases_lt x to)) (λ m. up x (d.come_in x (in_high to came x m))) (in_parts (max to k) came x q);
      got_in = λ x q. ⊎_elim (λ (m : x < max r.passed k). ⊎_elim (λ (j : x < r.passed). widen x (d.got_in x (in_low r.passed (numbers r.arrived) x j))) (λ (j : r.passed ≤ x). in_low (max to k) came x (omega arith)) (cases_lt x r.passed)) (λ m. widen x (d.got_in x (in_high r.passed (numbers r.arrived) x m))) (in_parts (max r.passed k) (numbers r.arrived) x q);
      cut = d.cut;
    }))
    (cases_lt k (vr_r r))
  where
    read : IsRead bearer r k
    read = pdu_is_read bearer s.acked s.requested (length s.bodies) r (payloads line) (ts ++ pending r.ack) k small d.flow

    after_obeyed : ℕ → Receiver
    after_obeyed m = with_ack (read_on (with_move r m n) m) (wrapped k) n

    now : List ℕ
    now = below (max r.passed k) ++ numbers r.arrived

    up : (x : ℕ) → Is x (got r) → Is x now
    up x h = ⊎_elim (λ (m : x < r.passed). in_low (max r.passed k) (numbers r.arrived) x (omega arith)) (λ m. in_high (max r.passed k) (numbers r.arrived) x m) (in_parts r.passed (numbers r.arrived) x h)

    widen : (x : ℕ) → Came came to x → Came came (max to k) x
    widen x h = ⊎_elim (λ (m : x < to). in_low (max to k) came x (omega arith)) (λ m. in_high (max to k) came x m) (in_parts to came x h)

-- How the front status is read: its numbers come back.
unwrap-append : (base : ℕ) (xs ys : List ℕ) → unwrap base (xs ++ ys) ≡ unwrap base xs ++ unwrap base ys
unwrap-append base [] ys = refl
unwrap-append base (x ∷ xs) ys = ap (λ zs. (base + ahead base (wrapped x)) ∷ zs) (unwrap-append base xs ys)

unwrap-range : (base x y n : ℕ) → wrapped x ≡ wrapped y → base ≤ y → y + n ≤ base + 4096 → unwrap base (range x n) ≡ range y n
unwrap-range base x y zero e le lt = refl
unwrap-range base x y (suc n) e le lt =
    let step : wrapped (x + 1) ≡ wrapped (y + 1) = omega arith in
    ap (λ z. (base + ahead base z) ∷ unwrap base (range (x + 1) n)) e
    ∙ ap (λ z. z ∷ unwrap base (range (x + 1) n)) (ahead_exact base y le (omega arith))
    ∙ ap (λ zs. y ∷ zs) (unwrap-range base (x + 1) (y + 1) n step (omega arith) (omega arith))

unwrap-named : (base bound : ℕ) (ps : List (ℕ × ℕ)) → bound ≤ base + 4096 → ((x : ℕ) → Is x (named ps) → (base ≤ x) × (x < bound)) → unwrap base (named (map wrapped_pair ps)) ≡ named ps
unwrap-named base bound [] le all = refl
unwrap-named base bound (p ∷ ps) le all =
    unwrap-append base (range (wrapped p.0) (p.1 + 1)) (named (map wrapped_pair ps))
    ∙ ap (λ xs. xs ++ unwrap base (named (map wrapped_pair ps))) (unwrap-range base (wrapped p.0) p.0 (p.1 + 1) (omega arith) low high)
    ∙ ap (λ xs. range p.0 (p.1 + 1) ++ xs) (unwrap-named base bound ps le (λ x h. all x (has-append x (range p.0 (p.1 + 1)) (named ps) ∙ or_right _ _ h)))
  where
    at : (x : ℕ) → Is x (range p.0 (p.1 + 1)) → (base ≤ x) × (x < bound)
    at x h = all x (has-append x (range p.0 (p.1 + 1)) (named ps) ∙ or_left _ _ h)

    low : base ≤ p.0
    low = (at p.0 (in_range p.0 p.0 (p.1 + 1) (omega arith) (omega arith))).0

    high : p.0 + (p.1 + 1) ≤ base + 4096
    high = omega (arith, (at (p.0 + p.1) (in_range (p.0 + p.1) p.0 (p.1 + 1) (omega arith) (omega arith))).1)

none_reach : (n : ℕ) (xs : List ℕ) → ((x : ℕ) → Is x xs → x < n) → reaches n xs ≡ false
none_reach n [] all = refl
none_reach n (x ∷ xs) all = or_from _ _ (lt-leb n x (all x (or_left _ _ (eq-eqb x x refl)))) (none_reach n xs (λ y h. all y (or_right _ _ h)))

wrapped_twice : (x : ℕ) → wrapped (wrapped x) ≡ wrapped x
wrapped_twice x = omega arith

pub record IsReadStatus (s : Sender) (t : Status) : Type 0 where
  pub inside : is_outside s (wrapped_status t) ≡ false
  pub names : unwrap (vt_a s) (named (wrapped_status t).pairs) ≡ named t.pairs
  pub lsn : read_from (vt_a s) (wrapped_status t).lsn ≡ t.lsn

pub status_is_read : (bearer : Rules) (s : Sender) (r : Receiver) (came : List ℕ) (to : ℕ) (line : List Block) (t : Status) (ts : List Status) → bearer.window ≤ 2048 → Direction bearer s r came to line (t ∷ ts) → IsReadStatus s t
status_is_read bearer s r came to line t ts small d = record {
  inside = or_from _ _ (le-ltb _ _ (omega (arith, lsn, near.1))) (subst (λ xs. reaches (vt_s s) xs ≡ false) (sym names) (none_reach (vt_s s) (named t.pairs) (λ x h. (near.2 x h).1)));
  names = names;
  lsn = lsn;
}
  where
    near : (vt_a s ≤ t.lsn) × (t.lsn ≤ vt_s s) × ((x : ℕ) → Is x (named t.pairs) → (vt_a s ≤ x) × (x < vt_s s))
    near = flow_front_status bearer.window s.acked s.requested (length s.bodies) (got r) (payloads line) (ts ++ pending r.ack) t d.flow

    lsn : read_from (vt_a s) (wrapped t.lsn) ≡ t.lsn
    lsn = ap (λ x. vt_a s + ahead (vt_a s) x) (wrapped_twice t.lsn) ∙ ahead_exact (vt_a s) t.lsn near.0 (omega (arith, near.1, d.flow.room))

    names : unwrap (vt_a s) (named (map wrapped_pair t.pairs)) ≡ named t.pairs
    names = unwrap-named (vt_a s) (vt_s s) t.pairs (omega (arith, d.flow.room)) near.2

ended_is : (bodies : List Body) (low now : ℕ) (d : Option Discard) → DiscardIs bodies low d → DiscardIs bodies now (ended_by now d)
ended_is bodies low now None f = tt
ended_is bodies low now (Some d) f = cond_both (nat_lt d.k now) _ _ (DiscardIs bodies now) (λ _. tt) (λ e. (ltb-false _ _ e, f.1, f.2))

told_direction : (bearer : Rules) (s : Sender) (r : Receiver) (came : List ℕ) (to : ℕ) (line : List Block) (t : Status) (ts : List Status) → Direction bearer s r came to line (t ∷ ts) → Direction bearer (told s (named t.pairs) t.lsn) r came to line ts
told_direction bearer s r came to line t ts d = record {
  flow = flow_told bearer.window s.acked s.requested (length s.bodies) (got r) (payloads line) (ts ++ pending r.ack) t now still_requested d.flow acked_is is_open from;
  discard_is = ended_is s.bodies (vt_a s) (run_of now (length s.bodies)) s.discard d.discard_is;
  line_is = d.line_is;
  arrived_is = d.arrived_is;
  come_in = d.come_in;
  got_in = d.got_in;
  cut = d.cut;
}
  where
    names : List ℕ
    names = named t.pairs

    now : List ℕ
    now = now_acked s.acked names t.lsn

    first : List ℕ
    first = less (names ++ s.requested) now

    still_requested : List ℕ
    still_requested = less first (below (floor s.discard))

    acked_is : (x : ℕ) → has x now ≡ (acks t x || has x s.acked)
    acked_is x = has-append x (less (below t.lsn) names) s.acked ∙ ap (λ b. b || has x s.acked) (has-less x (below t.lsn) names ∙ ap (λ b. b && not (has x names)) (has-below x t.lsn))

    in_first : (x : ℕ) → Is x still_requested → Is x first
    in_first x h = (and_parts (has x first) (not (has x (below (floor s.discard)))) (sym (has-less x first (below (floor s.discard))) ∙ h)).0

    is_open : (x : ℕ) → Is x still_requested → has x now ≡ false
    is_open x h = not-true (has x now) (and_parts (has x (names ++ s.requested)) (not (has x now)) (sym (has-less x (names ++ s.requested) now) ∙ in_first x h)).1

    from : (x : ℕ) → Is x still_requested → (Is x names) ⊎ (Is x s.requested)
    from x h = or_cases _ _ (sym (has-append x names s.requested) ∙ (and_parts (has x (names ++ s.requested)) (not (has x now)) (sym (has-less x (names ++ s.requested) now) ∙ in_first x h)).0)

direction_status : (bearer : Rules) (s : Sender) (r : Receiver) (came : List ℕ) (to : ℕ) (line : List Block) (t : Status) (ts : List Status) → bearer.window ≤ 2048 → Direction bearer s r came to line (t ∷ ts) → Direction bearer (after_status s (wrapped_status t)) r came to line ts
direction_status bearer s r came to line t ts small d =
    let read = status_is_read bearer s r came to line t ts small d in
    let same : after_status s (wrapped_status t) ≡ told s (named t.pairs) t.lsn = λ i. told s (read.names i) (read.lsn i) in
    subst (λ x. Direction bearer x r came to line ts) (sym same) (told_direction bearer s r came to line t ts d)

-- How an MRW_ACK is read: where it ends the discard, its number comes back.
ahead_below : (base x : ℕ) → x < base → base < x + 4096 → base + ahead base (wrapped x) ≡ x + 4096
ahead_below base x lt le = omega arith

ended_number : (next k x n o m : ℕ) (p q r : Bool) → o ≡ ahead k (wrapped x) → (o == 0) ≡ p → nat_lt 0 o ≡ q → nat_le (k + o) next ≡ r → k < next → x ≤ next → next ≤ k + 2048 → next ≤ x + 2048 → (e f : Bool) → cond (p && e) (Some k) (cond (q && r && f) (Some (k + o)) None) ≡ Some m → m ≡ x
ended_number next k x n o m true q r eo ep eq er l1 l2 l3 l4 true f h =
    let z : o ≡ 0 = eqb-true o 0 ep in
    let s : k ≡ m = cc in
    ⊎_elim (λ (l : x < k). absurd (omega (arith, ahead_below k x l (omega arith)))) (λ (l : k ≤ x). omega (arith, ahead_exact k x l (omega arith))) (cases_lt x k)
ended_number next k x n o m true true true eo ep eq er l1 l2 l3 l4 false true h = absurd (omega (arith, eqb-true o 0 ep, ltb-true 0 o eq))
ended_number next k x n o m true true true eo ep eq er l1 l2 l3 l4 false false h = absurd (cc)
ended_number next k x n o m true true false eo ep eq er l1 l2 l3 l4 false f h = absurd (cc)
ended_number next k x n o m true false r eo ep eq er l1 l2 l3 l4 false f h = absurd (cc)
ended_number next k x n o m false true true eo ep eq er l1 l2 l3 l4 e true h =
    let s : k + o ≡ m = cc in
    let t : k + o ≤ next = leb-true _ _ er in
    ⊎_elim (λ (l : x < k). absurd (omega (arith, ahead_below k x l (omega arith)))) (λ (l : k ≤ x). omega (arith, ahead_exact k x l (omega arith))) (cases_lt x k)
ended_number next k x n o m false true true eo ep eq er l1 l2 l3 l4 e false h = absurd (cc)
ended_number next k x n o m false true false eo ep eq er l1 l2 l3 l4 e f h = absurd (cc)
ended_number next k x n o m false false r eo ep eq er l1 l2 l3 l4 e f h = absurd (cc)

ack_number : (bodies : List Body) (low window : ℕ) (d : Option Discard) (a : MrwAck) (m : ℕ) → window ≤ 2048 → DiscardIs bodies low d → length bodies ≤ low + window → low ≤ a.number → a.number ≤ length bodies → ended_at (length bodies) d (wrapped_ack a) ≡ Some m → m ≡ a.number
ack_number bodies low window None a m small f room l1 l2 e = absurd (cc)
ack_number bodies low window (Some d) a m small f room l1 l2 e = ended_number (length bodies) d.k a.number a.n (ahead d.k (wrapped a.number)) m _ _ _ refl refl refl refl f.1 l2 (omega (arith, f.0)) (omega arith) _ _ e

ack_by : (bearer : Rules) (s : Sender) (r : Receiver) (came : List ℕ) (to : ℕ) (line : List Block) (a : MrwAck) (ts : List Status) (o : Option ℕ) → ((m : ℕ) → o ≡ Some m → m ≡ a.number) → Direction bearer s r came to line (as_status a.number ∷ ts) → Direction bearer (ends_discard s o) r came to line ts
ack_by bearer s r came to line a ts None e d = direction_forgets bearer s r came to line (as_status a.number) ts d
ack_by bearer s r came to line a ts (Some m) e d = subst (λ x. Direction bearer (told (record s { discard = None }) [] x) r came to line ts) (sym (e m refl)) (told_direction bearer (record s { discard = None }) r came to line (as_status a.number) ts (record {
  flow = d.flow;
  discard_is = tt;
  line_is = d.line_is;
  arrived_is = d.arrived_is;
  come_in = d.come_in;
  got_in = d.got_in;
  cut = d.cut;
}))

direction_ack : (bearer : Rules) (s : Sender) (r : Receiver) (came : List ℕ) (to : ℕ) (line : List Block) (a : MrwAck) (ts : List Status) → bearer.window ≤ 2048 → Direction bearer s r came to line (as_status a.number ∷ ts) → Direction bearer (after_ack s (wrapped_ack a)) r came to line ts
direction_ack bearer s r came to line a ts small d =
    let near = flow_front_status bearer.window s.acked s.requested (length s.bodies) (got r) (payloads line) (ts ++ pending r.ack) (as_status a.number) d.flow in
    ack_by bearer s r came to line a ts (ended_at (vt_s s) s.discard (wrapped_ack a)) (λ m e. ack_number s.bodies (vt_a s) bearer.window s.discard a m small d.discard_is d.flow.room near.0 near.1 e) d

-- What the receiver tells is never Outside, and keeps the direction.
pub told_inside : (bearer : Rules) (s : Sender) (r : Receiver) (came : List ℕ) (to : ℕ) (line : List Block) (t : Told) (ts : List Status) → bearer.window ≤ 2048 → Direction bearer s r came to line (tells_of t ++ ts) → told_outside s t ≡ false
told_inside bearer s r came to line (OnlyAck a) ts small d = refl
told_inside bearer s r came to line (OnlyStatus t) ts small d = (status_is_read bearer s r came to line t ts small d).inside
told_inside bearer s r came to line (AckAndStatus a t) ts small d = (status_is_read bearer (after_ack s (wrapped_ack a)) r came to line t ts small (direction_ack bearer s r came to line a (t ∷ ts) small d)).inside

inside_direction : (bearer : Rules) (s : Sender) (r : Receiver) (came : List ℕ) (to : ℕ) (line : List Block) (t : Told) (ts : List Status) → bearer.window ≤ 2048 → Direction bearer s r came to line (tells_of t ++ ts) → Direction bearer (after_inside s t) r came to line ts
inside_direction bearer s r came to line (OnlyAck a) ts small d = direction_ack bearer s r came to line a ts small d
inside_direction bearer s r came to line (OnlyStatus t) ts small d = direction_status bearer s r came to line t ts small d
inside_direction bearer s r came to line (AckAndStatus a t) ts small d = direction_status bearer (after_ack s (wrapped_ack a)) r came to line t ts small (direction_ack bearer s r came to line a (t ∷ ts) small d)

pub direction_told : (bearer : Rules) (s : Sender) (r : Receiver) (came : List ℕ) (to : ℕ) (line : List Block) (t : Told) (ts : List Status) → bearer.window ≤ 2048 → Direction bearer s r came to line (tells_of t ++ ts) → Direction bearer (after_told s t) r came to line ts
direction_told bearer s r came to line t ts small d = subst (λ x. Direction bearer x r came to line ts) (sym (ap (λ c. cond c s (after_inside s t)) (told_inside bearer s r came to line t ts small d))) (inside_direction bearer s r came to line t ts small d)

pub direction_begins : (bearer : Rules) → Direction bearer opened_sender (opened_receiver bearer) [] 0 [] []
direction_begins bearer = record { flow = flow_begins bearer.window; discard_is = tt; line_is = tt; arrived_is = tt; come_in = λ x h. h; got_in = λ x h. h; cut = cut_begins }
