-- Every history of two ends keeps both directions.
use Rattle.std.proofs.Common.{◌≡◌, ◌+◌, ◌-◌, ◌*◌, ◌<◌, ◌≤◌, ℕ, zero, suc, List, [], ◌∷◌, ◌++◌, true, false, ◌||◌, is_some, length, take, max, Option, Some, None, arith, refl, sym, ap, ◌∙◌, subst, ⊎_elim}
use Rattle.std.specs.Prelude.{◌==◌}
use Rattle.std.proofs.lemmas.Bool.{cases_lt, cases_Bool, cond_both}
use Rattle.std.proofs.lemmas.List.{append-nil}
use Rattle.dch_am.specs.Numbers.{has, wrapped}
use Rattle.dch_am.specs.Status.{Status, Told, OnlyAck, OnlyStatus, AckAndStatus, fields_of, wrapped_ack}
use Rattle.dch_am.specs.Bodies.{Body, next_body, ends}
use Rattle.dch_am.specs.Building.{anew, Choice, Again, New, Last, NoPdu, after_choice, body_at, choice, again_polls, anew_polls, once_more_polls}
use Rattle.dch_am.specs.Rules.{Rules}
use Rattle.dch_am.specs.Sender.{Discard, Sender, vt_a, vt_s, offered, after_offer}
use Rattle.dch_bits.specs.declared.offer.Offer.{Offer as OfferAnswer}
use Rattle.dch_bits.specs.declared.offer.Offer.TheVariants.{Accepted, Full, WrongSize}
use Rattle.dch_am.specs.Acknowledging.{after_fields, ends_discard, ended_at}
use Rattle.dch_amlaw.proofs.Heard.{fields_answer, fields_effect, told_outside, told_still, after_inside, after_told}
use Rattle.dch_am.specs.Discards.{after_moving, can_take, discards_at, discards, after_tick, tick_sender, place_from}
use Rattle.dch_am.specs.Receiver.{Receiver, got, vr_r, taken}
use Rattle.dch_am.specs.Moves.{after_move_in, obeyed_mrw}
use Rattle.dch_am.specs.Telling.{tells_now, plain_due, after_telling, tick_receiver}
use Rattle.dch_am.specs.Entities.{Turn, Tells, Moves, Sends, Rests, receiver_after, sender_after, turn, with_sides}
use Rattle.dch_am.proofs.Turns.{tells_due, told_due}
use Rattle.dch_amlaw.specs.Pair.{Block, Payload, Mrw, Report, End, Pair, turned, opened, Event, Offer, Build, Arrive, Lose, Tick, all_handed, arrives, block_of, loses, happens_near, mrw_of, payload_of, report_of, sent_on, with_entity, At, Near, Far, happens, after, is_outside_answer, is_beyond, front_outside, arrived_or_passed, IsKept, IsSafe}
use Rattle.dch_amlaw.proofs.Flow.{flow_acked_le_arrived, flow_arrived_le_next}
use Rattle.dch_amlaw.proofs.Lost.{DiscardLow, Lost, lost_push, lost_spans, lost_line, lost_body, lost_told, lost_ticks, none_lost, lost_begins}
use Rattle.dch_amlaw.proofs.Hands.{Hands, missing_is, same_run, hands_arrives, hands_moves, hands_anew, hands_unit, hands_begins}
use Rattle.dch_amlaw.proofs.Direction.{payloads, reports, tells_of, pending, reports-append, Direction, direction_offers, Good, choice_good, direction_again, direction_last, direction_anew, direction_mrw, direction_ticks, direction_past_told, direction_tells, direction_loses_pdu, direction_loses_mrw, direction_skips_told, direction_loses_told, IsRead, pdu_is_read, direction_arrives, direction_moves, told_inside, direction_told, direction_begins}

pub record Both (bearer : Rules) (p : Pair) : Type 0 where
  pub out : Direction bearer p.near.entity.sender p.far.entity.receiver p.far.came p.far.moved_to p.out (reports p.back)
  pub back : Direction bearer p.far.entity.sender p.near.entity.receiver p.near.came p.near.moved_to p.back (reports p.out)
  pub out_hands : Hands p.near.entity.sender.bodies p.near.entity.sender.accepted p.far.entity.receiver p.far.moved_past p.far.spans
  pub back_hands : Hands p.far.entity.sender.bodies p.far.entity.sender.accepted p.near.entity.receiver p.near.moved_past p.near.spans
  pub out_lost : Lost p.near.entity.sender p.out p.far.moved_past p.far.spans
  pub back_lost : Lost p.far.entity.sender p.back p.near.moved_past p.near.spans

pub both_turned : (bearer : Rules) (p : Pair) → Both bearer p → Both bearer (turned p)
both_turned bearer p b = record { out = b.back; back = b.out; out_hands = b.back_hands; back_hands = b.out_hands; out_lost = b.back_lost; back_lost = b.out_lost }

-- what changes neither PDUs nor units of the sender, nor what the receiver has read
discard_same : (s : Sender) (o : Option ℕ) → ((ends_discard s o).bodies ≡ s.bodies) × ((ends_discard s o).accepted ≡ s.accepted)
discard_same s None = (refl, refl)
discard_same s (Some m) = (refl, refl)

inside_same : (s : Sender) (t : Told) → ((after_inside s t).bodies ≡ s.bodies) × ((after_inside s t).accepted ≡ s.accepted)
inside_same s (OnlyAck a) = discard_same s (ended_at (vt_s s) s.discard (wrapped_ack a))
inside_same s (OnlyStatus t) = (refl, refl)
inside_same s (AckAndStatus a t) = discard_same s (ended_at (vt_s s) s.discard (wrapped_ack a))

pub told_same : (s : Sender) (t : Told) → ((after_told s t).bodies ≡ s.bodies) × ((after_told s t).accepted ≡ s.accepted)
told_same s t = cond_both (told_outside s t) s (after_inside s t) (λ (x : Sender). (x.bodies ≡ s.bodies) × (x.accepted ≡ s.accepted)) (λ _. (refl, refl)) (λ _. inside_same s t)

place_same : (s : Sender) (i : ℕ) (o : Option (ℕ × ℕ)) → ((discards_at s i o).bodies ≡ s.bodies) × ((discards_at s i o).accepted ≡ s.accepted)
place_same s i None = (refl, refl)
place_same s i (Some q) = (refl, refl)

discards_same : (bearer : Rules) (s : Sender) (n : ℕ) → ((discards bearer s n).bodies ≡ s.bodies) × ((discards bearer s n).accepted ≡ s.accepted)
discards_same bearer s zero = (refl, refl)
discards_same bearer s (suc i) = cond_both (can_take bearer s i (place_from s.bodies 0 i)) (discards_at s i (place_from s.bodies 0 i)) (discards bearer s i) (λ (x : Sender). (x.bodies ≡ s.bodies) × (x.accepted ≡ s.accepted)) (λ _. place_same s i (place_from s.bodies 0 i)) (λ _. discards_same bearer s i)

pub tick_same : (bearer : Rules) (s : Sender) (d : Option Discard) → ((after_tick bearer s d).bodies ≡ s.bodies) × ((after_tick bearer s d).accepted ≡ s.accepted)
tick_same bearer s None = discards_same bearer s (length s.accepted)
tick_same bearer s (Some d) = (refl, refl)

hands_at : (s now : Sender) (r : Receiver) (past : ℕ) (spans : List (ℕ × ℕ)) → (now.bodies ≡ s.bodies) × (now.accepted ≡ s.accepted) → Hands s.bodies s.accepted r past spans → Hands now.bodies now.accepted r past spans
hands_at s now r past spans e h = subst (λ bs. Hands bs now.accepted r past spans) (sym e.0) (subst (λ us. Hands s.bodies us r past spans) (sym e.1) h)

offer_hands : (bearer : Rules) (s : Sender) (r : Receiver) (came : List ℕ) (to past : ℕ) (spans : List (ℕ × ℕ)) (line : List Block) (ts : List Status) (unit : List ℕ) (o : OfferAnswer) → Direction bearer s r came to line ts → Hands s.bodies s.accepted r past spans → Hands (after_offer o s unit).bodies (after_offer o s unit).accepted r past spans
offer_hands bearer s r came to past spans line ts unit Accepted d h = hands_unit s.bodies s.accepted s.unsent unit r past spans d.cut h
offer_hands bearer s r came to past spans line ts unit Full d h = h
offer_hands bearer s r came to past spans line ts unit WrongSize d h = h

offer_lost : (s : Sender) (line : List Block) (past : ℕ) (spans : List (ℕ × ℕ)) (unit : List ℕ) (o : OfferAnswer) → Lost s line past spans → Lost (after_offer o s unit) line past spans
offer_lost s line past spans unit Accepted f = record { known = f.known; past_le = f.past_le; line_le = f.line_le; discard_le = f.discard_le }
offer_lost s line past spans unit Full f = f
offer_lost s line past spans unit WrongSize f = f

hands_told : (bearer : Rules) (bodies : List Body) (accepted : List (List ℕ)) (r : Receiver) (past : ℕ) (spans : List (ℕ × ℕ)) → Hands bodies accepted r past spans → Hands bodies accepted (after_telling bearer r) past spans
hands_told bearer bodies accepted r past spans h = record { units = h.units; inside = h.inside; covered = h.covered; low = h.low; stands = h.stands }

hands_ticks : (bearer : Rules) (bodies : List Body) (accepted : List (List ℕ)) (r : Receiver) (past : ℕ) (spans : List (ℕ × ℕ)) → Hands bodies accepted r past spans → Hands bodies accepted (tick_receiver bearer r) past spans
hands_ticks bearer bodies accepted r past spans h = record { units = h.units; inside = h.inside; covered = h.covered; low = h.low; stands = h.stands }

pub sent_all : (bearer : Rules) (s : Sender) (r : Receiver) (came : List ℕ) (to : ℕ) (line : List Block) (ts : List Status) → Direction bearer s r came to line ts → vr_r r ≤ length s.bodies
sent_all bearer s r came to line ts d = flow_arrived_le_next bearer.window s.acked s.requested (length s.bodies) (got r) (payloads line) (ts ++ pending r.ack) d.flow

-- what the near end sends of its own data tells nothing
past_block : (bearer : Rules) (p : Pair) (b : Block) → reports (b ∷ []) ≡ [] → Both bearer p → Direction bearer p.far.entity.sender p.near.entity.receiver p.near.came p.near.moved_to p.back (reports (p.out ++ b ∷ []))
past_block bearer p b e both = subst (λ ts. Direction bearer p.far.entity.sender p.near.entity.receiver p.near.came p.near.moved_to p.back ts) (sym (reports-append p.out (b ∷ []) ∙ ap (λ ts. reports p.out ++ ts) e ∙ append-nil (reports p.out))) both.back

new_lost : (bearer : Rules) (p : Pair) → Both bearer p → Lost (anew (p.near.octets - 2) p.near.entity.sender) p.out p.far.moved_past p.far.spans
new_lost bearer p b = lost_body p.near.entity.sender (anew (p.near.octets - 2) p.near.entity.sender) (next_body (p.near.octets - 2) p.near.entity.sender.unsent) p.out p.far.moved_past (vr_r p.far.entity.receiver) p.far.spans (sent_all bearer p.near.entity.sender p.far.entity.receiver p.far.came p.far.moved_to p.out (reports p.back) b.out) b.out_hands.low refl refl refl refl b.out_lost

-- the near end's entity is changed, and what it built is sent
abbrev pub sends : Pair → Sender → Receiver → Option Block → Pair
sends p s r block = record { near = with_entity p.near (with_sides p.near.entity s r); far = p.far; out = sent_on p.out block; back = p.back }

-- the PDU that is last
body_new : (bodies : List Body) (b : Body) → body_at (bodies ++ b ∷ []) (length bodies) ≡ b
body_new [] b = refl
body_new (x ∷ bodies) b = body_new bodies b

anew_direction : (bearer : Rules) (p : Pair) → vt_s p.near.entity.sender < vt_a p.near.entity.sender + bearer.window → Both bearer p → Direction bearer (after_choice New bearer (p.near.octets - 2) p.near.entity.sender) p.far.entity.receiver p.far.came p.far.moved_to (sent_on p.out (payload_of New bearer p.near)) (reports p.back)
anew_direction bearer p good b =
    subst (λ body. Direction bearer (after_choice New bearer (p.near.octets - 2) p.near.entity.sender) p.far.entity.receiver p.far.came p.far.moved_to (p.out ++ Payload (vt_s p.near.entity.sender) (anew_polls bearer (p.near.octets - 2) p.near.entity.sender) body ∷ []) (reports p.back))
    (body_new p.near.entity.sender.bodies (next_body (p.near.octets - 2) p.near.entity.sender.unsent))
    (direction_anew bearer (p.near.octets - 2) p.near.entity.sender p.far.entity.receiver p.far.came p.far.moved_to p.out (reports p.back) (anew_polls bearer (p.near.octets - 2) p.near.entity.sender) good b.out)

-- a data PDU
both_sends : (bearer : Rules) (p : Pair) (c : Choice) → Good bearer p.near.entity.sender c → Both bearer p → Both bearer (sends p (after_choice c bearer (p.near.octets - 2) p.near.entity.sender) p.near.entity.receiver (payload_of c bearer p.near))
both_sends bearer p (Again k) good b = record {
  out = direction_again bearer p.near.entity.sender p.far.entity.receiver p.far.came p.far.moved_to p.out (reports p.back) k (again_polls bearer p.near.entity.sender k) good b.out;
  back = past_block bearer p (Payload k _ _) refl b;
  out_hands = b.out_hands;
  back_hands = b.back_hands;
  out_lost = record { known = b.out_lost.known; past_le = b.out_lost.past_le; line_le = lost_push p.out (Payload k _ _) p.near.entity.sender.dropped tt b.out_lost.line_le; discard_le = b.out_lost.discard_le };
  back_lost = b.back_lost;
}
both_sends bearer p New good b = record {
  out = anew_direction bearer p good b;
  back = past_block bearer p (Payload (vt_s p.near.entity.sender) _ _) refl b;
  out_hands = hands_anew p.near.entity.sender.bodies _ p.near.entity.sender.accepted p.far.entity.receiver p.far.moved_past p.far.spans (sent_all bearer p.near.entity.sender p.far.entity.receiver p.far.came p.far.moved_to p.out (reports p.back) b.out) b.out_hands;
  back_hands = b.back_hands;
  out_lost = record { known = (new_lost bearer p b).known; past_le = b.out_lost.past_le; line_le = lost_push p.out (Payload (vt_s p.near.entity.sender) _ _) p.near.entity.sender.dropped tt b.out_lost.line_le; discard_le = b.out_lost.discard_le };
  back_lost = b.back_lost;
}
both_sends bearer p (Last k) good b = record {
  out = direction_last bearer p.near.entity.sender p.far.entity.receiver p.far.came p.far.moved_to p.out (reports p.back) k (once_more_polls bearer p.near.entity.sender) good b.out;
  back = past_block bearer p (Payload k _ _) refl b;
  out_hands = b.out_hands;
  back_hands = b.back_hands;
  out_lost = record { known = b.out_lost.known; past_le = b.out_lost.past_le; line_le = lost_push p.out (Payload k _ _) p.near.entity.sender.dropped tt b.out_lost.line_le; discard_le = b.out_lost.discard_le };
  back_lost = b.back_lost;
}
both_sends bearer p NoPdu good b = b

-- an MRW
upto_low : (bearer : Rules) (p : Pair) (d : Discard) → p.near.entity.sender.discard ≡ Some d → Both bearer p → d.end_of_discard ≤ p.near.entity.sender.dropped
upto_low bearer p d e b = subst (λ x. DiscardLow x p.near.entity.sender.dropped) e b.out_lost.discard_le

both_moves : (bearer : Rules) (p : Pair) (d : Option Discard) → p.near.entity.sender.discard ≡ d → Both bearer p → Both bearer (sends p (after_moving bearer p.near.entity.sender d) p.near.entity.receiver (mrw_of d))
both_moves bearer p None e b = b
both_moves bearer p (Some d) e b = record {
  out = direction_mrw bearer p.near.entity.sender p.far.entity.receiver p.far.came p.far.moved_to p.out (reports p.back) d e b.out;
  back = past_block bearer p (Mrw d.k d.n d.end_of_discard) refl b;
  out_hands = b.out_hands;
  back_hands = b.back_hands;
  out_lost = record { known = b.out_lost.known; past_le = b.out_lost.past_le; line_le = lost_push p.out (Mrw d.k d.n d.end_of_discard) p.near.entity.sender.dropped (upto_low bearer p d e b, tt) b.out_lost.line_le; discard_le = upto_low bearer p d e b };
  back_lost = b.back_lost;
}

-- a status
both_tells : (bearer : Rules) (p : Pair) (t : Option Told) → is_some t ≡ true → tells_now (8 * p.near.octets) p.near.entity.receiver ≡ t → Both bearer p → Both bearer (sends p p.near.entity.sender (after_telling bearer p.near.entity.receiver) (report_of t))
both_tells bearer p None some e b = absurd (cc)
both_tells bearer p (Some t) some e b = record {
  out = direction_past_told bearer p.near.entity.sender p.far.entity.receiver p.far.came p.far.moved_to p.out (reports p.back) t b.out;
  back = subst (λ ts. Direction bearer p.far.entity.sender (after_telling bearer p.near.entity.receiver) p.near.came p.near.moved_to p.back ts) (sym (reports-append p.out (Report t ∷ []) ∙ ap (λ ts. reports p.out ++ ts) (append-nil (tells_of t)))) (direction_tells bearer (8 * p.near.octets) p.far.entity.sender p.near.entity.receiver p.near.came p.near.moved_to p.back (reports p.out) p.near.entity.receiver.ack (plain_due p.near.entity.receiver) t refl e b.back);
  out_hands = b.out_hands;
  back_hands = hands_told bearer p.far.entity.sender.bodies p.far.entity.sender.accepted p.near.entity.receiver p.near.moved_past p.near.spans b.back_hands;
  out_lost = record { known = b.out_lost.known; past_le = b.out_lost.past_le; line_le = lost_push p.out (Report t) p.near.entity.sender.dropped tt b.out_lost.line_le; discard_le = b.out_lost.discard_le };
  back_lost = b.back_lost;
}

-- what is built at a turn
both_built : (bearer : Rules) (p : Pair) (t : Turn) → turn bearer p.near.entity.sender p.near.entity.receiver ≡ t → Both bearer p → Both bearer (sends p (sender_after t bearer p.near.octets p.near.entity.sender) (receiver_after t bearer p.near.entity.receiver) (block_of t bearer p.near))
both_built bearer p Tells e b = both_tells bearer p (tells_now (8 * p.near.octets) p.near.entity.receiver) (told_due (8 * p.near.octets) p.near.entity.receiver ∙ tells_due bearer p.near.entity.sender p.near.entity.receiver e) refl b
both_built bearer p Moves e b = both_moves bearer p p.near.entity.sender.discard refl b
both_built bearer p Sends e b = both_sends bearer p (choice bearer p.near.entity.sender) (choice_good bearer p.near.entity.sender) b
both_built bearer p Rests e b = b

out_at : (bearer : Rules) (p : Pair) (line : List Block) → p.back ≡ line → Both bearer p → Direction bearer p.near.entity.sender p.far.entity.receiver p.far.came p.far.moved_to p.out (reports line)
out_at bearer p line e b = subst (λ l. Direction bearer p.near.entity.sender p.far.entity.receiver p.far.came p.far.moved_to p.out (reports l)) e b.out

back_at : (bearer : Rules) (p : Pair) (line : List Block) → p.back ≡ line → Both bearer p → Direction bearer p.far.entity.sender p.near.entity.receiver p.near.came p.near.moved_to line (reports p.out)
back_at bearer p line e b = subst (λ l. Direction bearer p.far.entity.sender p.near.entity.receiver p.near.came p.near.moved_to l (reports p.out)) e b.back

lost_at : (bearer : Rules) (p : Pair) (line : List Block) → p.back ≡ line → Both bearer p → Lost p.far.entity.sender line p.near.moved_past p.near.spans
lost_at bearer p line e b = subst (λ l. Lost p.far.entity.sender l p.near.moved_past p.near.spans) e b.back_lost

-- a status that came left this sender and this receiver
abbrev heard : Pair → List Block → Sender → Receiver → Pair
heard p line s r = record { near = with_entity p.near (all_handed (with_sides p.near.entity s r)); far = p.far; out = p.out; back = line }

pub both_arrives : (bearer : Rules) (p : Pair) (line : List Block) → bearer.window ≤ 2048 → p.back ≡ line → Both bearer p → Both bearer (arrives bearer p line)
both_arrives bearer p [] small e b = b
both_arrives bearer p (Payload k poll body ∷ line) small e b = record {
  out = out_at bearer p (Payload k poll body ∷ line) e b;
  back = direction_arrives bearer p.far.entity.sender p.near.entity.receiver p.near.came p.near.moved_to line (reports p.out) k poll body small (back_at bearer p (Payload k poll body ∷ line) e b);
  out_hands = b.out_hands;
  back_hands = hands_arrives bearer p.far.entity.sender p.near.entity.receiver p.near.came p.near.moved_to p.near.moved_past p.near.spans line (reports p.out) k poll body small (back_at bearer p (Payload k poll body ∷ line) e b) b.back_hands;
  out_lost = b.out_lost;
  back_lost = lost_spans p.far.entity.sender line p.near.moved_past p.near.moved_past p.near.spans _ b.back_lost.past_le (lost_line p.far.entity.sender (Payload k poll body ∷ line) line p.near.moved_past p.near.spans (lost_at bearer p (Payload k poll body ∷ line) e b).line_le (lost_at bearer p (Payload k poll body ∷ line) e b));
}
both_arrives bearer p (Mrw k n end_of_discard ∷ line) small e b = record {
  out = out_at bearer p (Mrw k n end_of_discard ∷ line) e b;
  back = direction_moves bearer p.far.entity.sender p.near.entity.receiver p.near.came p.near.moved_to line (reports p.out) k n end_of_discard small (back_at bearer p (Mrw k n end_of_discard ∷ line) e b);
  out_hands = b.out_hands;
  back_hands = hands_moves bearer p.far.entity.sender p.near.entity.receiver p.near.came p.near.moved_to p.near.moved_past p.near.spans line (reports p.out) k n end_of_discard small (back_at bearer p (Mrw k n end_of_discard ∷ line) e b) b.back_hands;
  out_lost = b.out_lost;
  back_lost = lost_spans p.far.entity.sender line p.near.moved_past (max p.near.moved_past end_of_discard) p.near.spans _ (omega (arith, b.back_lost.past_le, (lost_at bearer p (Mrw k n end_of_discard ∷ line) e b).line_le.0)) (lost_line p.far.entity.sender (Mrw k n end_of_discard ∷ line) line p.near.moved_past p.near.spans (lost_at bearer p (Mrw k n end_of_discard ∷ line) e b).line_le.1 (lost_at bearer p (Mrw k n end_of_discard ∷ line) e b));
}
both_arrives bearer p (Report t ∷ line) small e b = subst (λ x. Both bearer (heard p line (after_fields bearer p.near.entity.sender (fields_of t)) x)) (sym (ap (after_move_in bearer p.near.entity.receiver) (told_still t))) (subst (λ x. Both bearer (heard p line x p.near.entity.receiver)) (sym (fields_effect bearer p.near.entity.sender t)) (record {
  out = direction_told bearer p.near.entity.sender p.far.entity.receiver p.far.came p.far.moved_to p.out t (reports line) small (out_at bearer p (Report t ∷ line) e b);
  back = direction_skips_told bearer p.far.entity.sender p.near.entity.receiver p.near.came p.near.moved_to line (reports p.out) t (back_at bearer p (Report t ∷ line) e b);
  out_hands = hands_at p.near.entity.sender (after_told p.near.entity.sender t) p.far.entity.receiver p.far.moved_past p.far.spans (told_same p.near.entity.sender t) b.out_hands;
  back_hands = b.back_hands;
  out_lost = lost_told p.near.entity.sender p.out p.far.moved_past p.far.spans t b.out_lost;
  back_lost = lost_line p.far.entity.sender (Report t ∷ line) line p.near.moved_past p.near.spans (lost_at bearer p (Report t ∷ line) e b).line_le (lost_at bearer p (Report t ∷ line) e b);
}))

both_loses : (bearer : Rules) (p : Pair) (line : List Block) → p.back ≡ line → Both bearer p → Both bearer (loses p line)
both_loses bearer p [] e b = b
both_loses bearer p (Payload k poll body ∷ line) e b = record {
  out = out_at bearer p (Payload k poll body ∷ line) e b;
  back = direction_loses_pdu bearer p.far.entity.sender p.near.entity.receiver p.near.came p.near.moved_to line (reports p.out) k poll body (back_at bearer p (Payload k poll body ∷ line) e b);
  out_hands = b.out_hands;
  back_hands = b.back_hands;
  out_lost = b.out_lost;
  back_lost = lost_line p.far.entity.sender (Payload k poll body ∷ line) line p.near.moved_past p.near.spans (lost_at bearer p (Payload k poll body ∷ line) e b).line_le (lost_at bearer p (Payload k poll body ∷ line) e b);
}
both_loses bearer p (Mrw k n end_of_discard ∷ line) e b = record {
  out = out_at bearer p (Mrw k n end_of_discard ∷ line) e b;
  back = direction_loses_mrw bearer p.far.entity.sender p.near.entity.receiver p.near.came p.near.moved_to line (reports p.out) k n end_of_discard (back_at bearer p (Mrw k n end_of_discard ∷ line) e b);
  out_hands = b.out_hands;
  back_hands = b.back_hands;
  out_lost = b.out_lost;
  back_lost = lost_line p.far.entity.sender (Mrw k n end_of_discard ∷ line) line p.near.moved_past p.near.spans (lost_at bearer p (Mrw k n end_of_discard ∷ line) e b).line_le.1 (lost_at bearer p (Mrw k n end_of_discard ∷ line) e b);
}
both_loses bearer p (Report t ∷ line) e b = record {
  out = direction_loses_told bearer p.near.entity.sender p.far.entity.receiver p.far.came p.far.moved_to p.out t (reports line) (out_at bearer p (Report t ∷ line) e b);
  back = direction_skips_told bearer p.far.entity.sender p.near.entity.receiver p.near.came p.near.moved_to line (reports p.out) t (back_at bearer p (Report t ∷ line) e b);
  out_hands = b.out_hands;
  back_hands = b.back_hands;
  out_lost = b.out_lost;
  back_lost = lost_line p.far.entity.sender (Report t ∷ line) line p.near.moved_past p.near.spans (lost_at bearer p (Report t ∷ line) e b).line_le (lost_at bearer p (Report t ∷ line) e b);
}

both_ticks : (bearer : Rules) (p : Pair) → Both bearer p → Both bearer (happens_near bearer p Tick)
both_ticks bearer p b = record {
  out = direction_ticks bearer p.near.entity.sender p.far.entity.receiver p.far.came p.far.moved_to p.out (reports p.back) b.out;
  back = record { flow = b.back.flow; discard_is = b.back.discard_is; line_is = b.back.line_is; arrived_is = b.back.arrived_is; come_in = b.back.come_in; got_in = b.back.got_in; cut = b.back.cut };
  out_hands = hands_at p.near.entity.sender (tick_sender bearer p.near.entity.sender) p.far.entity.receiver p.far.moved_past p.far.spans (tick_same bearer (record p.near.entity.sender { poll_timer = p.near.entity.sender.poll_timer - 1; owed = p.near.entity.sender.owed || (p.near.entity.sender.poll_timer == 1); ticks = p.near.entity.sender.ticks + 1 }) p.near.entity.sender.discard) b.out_hands;
  back_hands = hands_ticks bearer p.far.entity.sender.bodies p.far.entity.sender.accepted p.near.entity.receiver p.near.moved_past p.near.spans b.back_hands;
  out_lost = lost_ticks bearer p.near.entity.sender p.far.entity.receiver p.far.came p.far.moved_to p.out (reports p.back) p.far.moved_past p.far.spans b.out b.out_hands b.out_lost;
  back_lost = b.back_lost;
}

pub both_near : (bearer : Rules) (p : Pair) (e : Event) → bearer.window ≤ 2048 → Both bearer p → Both bearer (happens_near bearer p e)
both_near bearer p (Offer unit) small b = record { out = direction_offers bearer p.near.entity.sender p.far.entity.receiver p.far.came p.far.moved_to p.out (reports p.back) unit b.out; back = b.back; out_hands = offer_hands bearer p.near.entity.sender p.far.entity.receiver p.far.came p.far.moved_to p.far.moved_past p.far.spans p.out (reports p.back) unit (offered bearer p.near.entity.sender unit) b.out b.out_hands; back_hands = b.back_hands; out_lost = offer_lost p.near.entity.sender p.out p.far.moved_past p.far.spans unit (offered bearer p.near.entity.sender unit) b.out_lost; back_lost = b.back_lost }
both_near bearer p Build small b = both_built bearer p (turn bearer p.near.entity.sender p.near.entity.receiver) refl b
both_near bearer p Arrive small b = both_arrives bearer p p.back small refl b
both_near bearer p Lose small b = both_loses bearer p p.back refl b
both_near bearer p Tick small b = both_ticks bearer p b

both_happens : (bearer : Rules) (p : Pair) (e : At) → bearer.window ≤ 2048 → Both bearer p → Both bearer (happens bearer p e)
both_happens bearer p (Near e) small b = both_near bearer p e small b
both_happens bearer p (Far e) small b = both_turned bearer (happens_near bearer (turned p) e) (both_near bearer (turned p) e small (both_turned bearer p b))

pub both_after : (bearer : Rules) (events : List At) (p : Pair) → bearer.window ≤ 2048 → Both bearer p → Both bearer (after bearer p events)
both_after bearer [] p small b = b
both_after bearer (e ∷ events) p small b = both_after bearer events (happens bearer p e) small (both_happens bearer p e small b)

pub kept : (bearer : Rules) (a b : End) (line : List Block) (ts : List Status) → Direction bearer a.entity.sender b.entity.receiver b.came b.moved_to line ts → Hands a.entity.sender.bodies a.entity.sender.accepted b.entity.receiver b.moved_past b.spans → Lost a.entity.sender line b.moved_past b.spans → IsKept bearer a b
kept bearer a b line ts d h f = record {
  none_lost = λ i l. none_lost a.entity.sender b.entity.receiver line b.moved_past b.spans i h f (subst (λ g. i < ends (take g a.entity.sender.bodies)) (missing_is bearer a.entity.sender b.entity.receiver b.came b.moved_to line ts d) l);
  in_order = h.units;
  acked_le_expected = flow_acked_le_arrived bearer.window a.entity.sender.acked a.entity.sender.requested (length a.entity.sender.bodies) (got b.entity.receiver) (payloads line) (ts ++ pending b.entity.receiver.ack) d.flow;
  expected_le_next = flow_arrived_le_next bearer.window a.entity.sender.acked a.entity.sender.requested (length a.entity.sender.bodies) (got b.entity.receiver) (payloads line) (ts ++ pending b.entity.receiver.ack) d.flow;
  next_le_window = d.flow.room;
  acked_arrived = λ k h. d.got_in k (d.flow.acked_arrived k h);
  expected_is = omega (arith, same_run (arrived_or_passed b) (got b.entity.receiver) d.come_in, same_run (got b.entity.receiver) (arrived_or_passed b) d.got_in);
}

-- The front block is never Outside.
pdu_inside : (bearer : Rules) (r : Receiver) (k : ℕ) → IsRead bearer r k → is_outside_answer (taken bearer r (wrapped k)) ≡ false
pdu_inside bearer r k read = ⊎_elim (λ (h : has k (got r) ≡ true). ap is_outside_answer (read.again h)) (λ (h : has k (got r) ≡ false). ap is_outside_answer (read.first h)) (cases_Bool (has k (got r)))

mrw_inside : (bearer : Rules) (r : Receiver) (k : ℕ) → IsRead bearer r k → is_beyond (obeyed_mrw bearer r (wrapped k)) ≡ false
mrw_inside bearer r k read = ⊎_elim (λ (l : k < vr_r r). ap is_beyond (read.old l)) (λ (l : vr_r r ≤ k). ap is_beyond (read.obeyed l)) (cases_lt k (vr_r r))

pub inside : (bearer : Rules) (p : Pair) (line : List Block) → bearer.window ≤ 2048 → p.back ≡ line → Both bearer p → front_outside bearer p.near line ≡ false
inside bearer p [] small e b = refl
inside bearer p (Payload k poll body ∷ line) small e b = pdu_inside bearer p.near.entity.receiver k (pdu_is_read bearer p.far.entity.sender.acked p.far.entity.sender.requested (length p.far.entity.sender.bodies) p.near.entity.receiver (payloads line) (reports p.out ++ pending p.near.entity.receiver.ack) k small (back_at bearer p (Payload k poll body ∷ line) e b).flow)
inside bearer p (Mrw k n end_of_discard ∷ line) small e b = mrw_inside bearer p.near.entity.receiver k (pdu_is_read bearer p.far.entity.sender.acked p.far.entity.sender.requested (length p.far.entity.sender.bodies) p.near.entity.receiver (payloads line) (reports p.out ++ pending p.near.entity.receiver.ack) k small (back_at bearer p (Mrw k n end_of_discard ∷ line) e b).flow)
inside bearer p (Report t ∷ line) small e b = fields_answer bearer p.near.entity.sender t ∙ told_inside bearer p.near.entity.sender p.far.entity.receiver p.far.came p.far.moved_to p.out t (reports line) small (out_at bearer p (Report t ∷ line) e b)

safe : (bearer : Rules) (p : Pair) → bearer.window ≤ 2048 → Both bearer p → IsSafe bearer p
safe bearer p small b = record {
  near_far = kept bearer p.near p.far p.out (reports p.back) b.out b.out_hands b.out_lost;
  far_near = kept bearer p.far p.near p.back (reports p.out) b.back b.back_hands b.back_lost;
  near_inside = inside bearer p p.back small refl b;
  far_inside = inside bearer (turned p) p.out small refl (both_turned bearer p b);
}

pub opened_both : (bearer : Rules) (first second : ℕ) → Both bearer (opened bearer first second)
opened_both bearer first second = record { out = direction_begins bearer; back = direction_begins bearer; out_hands = hands_begins bearer; back_hands = hands_begins bearer; out_lost = lost_begins; back_lost = lost_begins }

pub always_safe : (bearer : Rules) (first second : ℕ) (events : List At) → bearer.window ≤ 2048 → IsSafe bearer (after bearer (opened bearer first second) events)
always_safe bearer first second events small = safe bearer _ small (both_after bearer events (opened bearer first second) small (opened_both bearer first second))
