-- What a sender and a receiver are after a list of events, and that the PDUs of a sender are those of the list of PDUs
-- of its units.
use Rattle.std.proofs.Common.{◌≡◌, ◌+◌, ◌-◌, ◌<◌, ◌≤◌, ◌&&◌, ℕ, zero, suc, List, [], ◌∷◌, ◌++◌, Option, Some, None, Bool, true, length, arith, refl, sym, ap, ap₂, ◌∙◌, subst, length-append}
use Rattle.std.specs.Prelude.{nat_lt, slice_index_or}
use Rattle.std.proofs.lemmas.Bool.{and_parts, cond_both, ltb-true}
use Rattle.std.proofs.lemmas.List.{get_or_append_left}
use Rattle.std.proofs.Math.Seq.{get_or-append_seam}
use Rattle.dch_bits.specs.declared.offer.Offer.{Offer as Answer}
use Rattle.dch_bits.specs.declared.offer.Offer.TheVariants.{Accepted, Full, WrongSize}
use Rattle.dch_rlcpdu.specs.Am.{am_pdu}
use Rattle.dch_rlcpdu.specs.Fields.{Field}
use Rattle.dch_sar.specs.Pdus.{Pdu}
use Rattle.dch_am.specs.Bodies.{Body, carried, indicators_of, is_left, joined, next_body, no_body}
use Rattle.dch_am.specs.Building.{Choice, Again, New, Last, NoPdu, after_build, after_choice, body_at, choice, gives, is_pdu, number_of, polls_at}
use Rattle.dch_am.specs.Acknowledging.{status_answer}
use Rattle.dch_am.specs.Discards.{after_moving}
use Rattle.dch_am.specs.Entities.{Build as Builds, Come, Entity, Event, HandUp, Offer as Offers, Tick as Ticks, Pdu as CamePdu, DataPdu, StatusPdu, ResetPdu, ResetAckPdu, Turn, Tells, Moves, Sends, Rests, after_riding, entity_after, opened_entity, sender_after as sender_at, sender_by, step, steps, turn}
use Rattle.dch_am.specs.Listed.{AreBodies, IsBody, IsListed, listed_pdu, listed_text, no_pdu}
use Rattle.dch_am.specs.Numbers.{lowest, wrapped}
use Rattle.dch_am.specs.ReceiverHistory.{ReceiverEvent, ReceivingSide, receiver_step, receiver_steps}
use Rattle.dch_am.specs.Rules.{Rules}
use Rattle.dch_am.specs.Sender.{Discard, Sender, after_offer, offered, opened_sender, vt_a, vt_s}
use Rattle.dch_am.specs.SenderHistory.{SenderEvent, Offer, Build, Hear, Move, Tick, Restart, sender_after, sender_step, sender_steps}
use Rattle.dch_am.specs.Texts.{next_pdu, pdu_of_choice}
use Rattle.dch_am.proofs.Listing.{alike_answer, alike_ticks, listed_builds, listed_hears, listed_mrw, listed_offers, listed_opens, listed_ticks}
use Rattle.dch_am.proofs.Restarting.{listed_restarts}

-- one event more
pub sender-append : (rules : Rules) (d : ℕ) (s : Sender) (events : List SenderEvent) (event : SenderEvent) → sender_steps rules d s (events ++ event ∷ []) ≡ sender_step rules d (sender_steps rules d s events) event
sender-append rules d s [] event = refl
sender-append rules d s (x ∷ events) event = sender-append rules d (sender_step rules d s x) events event

pub receiver-append : (rules : Rules) (side : ReceivingSide) (events : List ReceiverEvent) (event : ReceiverEvent) → receiver_steps rules side (events ++ event ∷ []) ≡ receiver_step rules (receiver_steps rules side events) event
receiver-append rules side [] event = refl
receiver-append rules side (x ∷ events) event = receiver-append rules (receiver_step rules side x) events event

-- each event leaves a sender listed
listed_moves : (rules : Rules) (d : ℕ) (s : Sender) (o : Option Discard) → IsListed d s → IsListed d (after_moving rules s o)
listed_moves rules d s None is = is
listed_moves rules d s (Some x) is = listed_mrw rules d s x is

listed_step : (rules : Rules) (d : ℕ) (s : Sender) (event : SenderEvent) → 1 ≤ d → IsListed d s → IsListed d (sender_step rules d s event)
listed_step rules d s (Offer unit) one is = listed_offers rules d s unit one is
listed_step rules d s Build one is = listed_builds rules d s one is
listed_step rules d s (Hear fields) one is = listed_hears rules d s fields is
listed_step rules d s Move one is = listed_moves rules d s s.discard is
listed_step rules d s Tick one is = listed_ticks rules d s is
listed_step rules d s Restart one is = listed_restarts d s is

listed_steps : (rules : Rules) (d : ℕ) (s : Sender) (events : List SenderEvent) → 1 ≤ d → IsListed d s → IsListed d (sender_steps rules d s events)
listed_steps rules d s [] one is = is
listed_steps rules d s (event ∷ events) one is = listed_steps rules d (sender_step rules d s event) events one (listed_step rules d s event one is)

pub listed_after : (rules : Rules) (d : ℕ) (events : List SenderEvent) → 1 ≤ d → IsListed d (sender_after rules d events)
listed_after rules d events one = listed_steps rules d opened_sender events one (listed_opens d)

-- and so does each event at an entity
listed_turn : (rules : Rules) (size : ℕ) (s : Sender) (t : Turn) → 3 ≤ size → IsListed (size - 2) s → IsListed (size - 2) (sender_at t rules size s)
listed_turn rules size s Tells some is = is
listed_turn rules size s Moves some is = listed_moves rules (size - 2) s s.discard is
listed_turn rules size s Sends some is = listed_builds rules (size - 2) s (omega arith) is
listed_turn rules size s Rests some is = is

listed_riding : (rules : Rules) (d : ℕ) (s : Sender) (rides : Option (List Field)) → IsListed d s → IsListed d (after_riding rules rides s)
listed_riding rules d s None is = is
listed_riding rules d s (Some fields) is = listed_hears rules d s fields is

listed_by : (rules : Rules) (d : ℕ) (s : Sender) (pdu : CamePdu) → IsListed d s → IsListed d (sender_by rules pdu s)
listed_by rules d s (DataPdu sn poll body rides) is = listed_riding rules d s rides is
listed_by rules d s (StatusPdu fields) is = listed_hears rules d s fields is
listed_by rules d s (ResetPdu rsn) is = is
listed_by rules d s (ResetAckPdu rsn) is = is

pub listed_entity : (rules : Rules) (size : ℕ) (e : Entity) (event : Event) → 3 ≤ size → IsListed (size - 2) e.sender → IsListed (size - 2) (step rules size e event).sender
listed_entity rules size e (Offers unit) some is = listed_offers rules (size - 2) e.sender unit (omega arith) is
listed_entity rules size e Ticks some is = listed_ticks rules (size - 2) e.sender is
listed_entity rules size e Builds some is = listed_turn rules size e.sender (turn rules e.sender e.receiver) some is
listed_entity rules size e (Come pdu) some is = listed_by rules (size - 2) e.sender pdu is
listed_entity rules size e HandUp some is = is

listed_entities : (rules : Rules) (size : ℕ) (e : Entity) (events : List Event) → 3 ≤ size → IsListed (size - 2) e.sender → IsListed (size - 2) (steps rules size e events).sender
listed_entities rules size e [] some is = is
listed_entities rules size e (event ∷ events) some is = listed_entities rules size (step rules size e event) events some (listed_entity rules size e event some is)

pub listed_entity_after : (rules : Rules) (size : ℕ) (events : List Event) → 3 ≤ size → IsListed (size - 2) (entity_after rules size events).sender
listed_entity_after rules size events some = listed_entities rules size (opened_entity rules) events some (listed_opens (size - 2))

-- the PDU of a number is that of the list
body_is : (d : ℕ) (row : List ℕ) (ps : List Pdu) (bs : List Body) (k : ℕ) → AreBodies d row ps bs → k < length bs → IsBody d row (slice_index_or ps k no_pdu) (slice_index_or bs k no_body)
body_is d row [] [] k are l = absurd (omega arith)
body_is d row [] (b ∷ bs) k are l = absurd are
body_is d row (p ∷ ps) [] k are l = absurd are
body_is d row (p ∷ ps) (b ∷ bs) zero are l = are.0
body_is d row (p ∷ ps) (b ∷ bs) (suc k) are l = body_is d row ps bs k are.1 (omega arith)

pub listed_body : (d : ℕ) (s : Sender) (k : ℕ) → IsListed d s → k < vt_s s → IsBody d (joined s.accepted) (listed_pdu d s k) (body_at s.bodies k)
listed_body d s k is l = body_is d (joined s.accepted) _ s.bodies k is.bodies l

-- a PDU that is built again was built before
abbrev WasBuilt : Sender → Choice → Type 0
WasBuilt s (Again k) = k < vt_s s
WasBuilt s New = Unit {0}
WasBuilt s (Last k) = k < vt_s s
WasBuilt s NoPdu = Unit {0}

choice_built : (rules : Rules) (s : Sender) → WasBuilt s (choice rules s)
choice_built rules s =
    cond_both (nat_lt (lowest (vt_s s) s.requested) (vt_s s)) _ _ (WasBuilt s)
    (λ e. ltb-true _ _ e)
    (λ _. cond_both (nat_lt (vt_s s) (vt_a s + rules.window) && is_left s.unsent) _ _ (WasBuilt s)
    (λ _. tt)
    (λ _. cond_both (s.owed && nat_lt (vt_a s) (vt_s s)) _ _ (WasBuilt s)
    (λ (e : (s.owed && nat_lt (vt_a s) (vt_s s)) ≡ true). less (vt_a s) (vt_s s) (ltb-true _ _ (and_parts _ _ e).1))
    (λ _. tt)))
  where
    less : (a n : ℕ) → a < n → n - 1 < n
    less a n l = omega arith

-- what is written is that PDU of the list
text_is : (d : ℕ) (s : Sender) (k : ℕ) (poll : Bool) (b : Body) → body_at s.bodies k ≡ b → k < vt_s s → IsListed d s → am_pdu (wrapped k) poll (indicators_of d b) (carried b) (d + 2) ≡ listed_text d s k poll
text_is d s k poll b e l is =
    let here : IsBody d (joined s.accepted) (listed_pdu d s k) b = subst (IsBody d (joined s.accepted) (listed_pdu d s k)) e (listed_body d s k is l) in
    ap₂ (λ ms xs. am_pdu (wrapped k) poll ms xs (d + 2)) here.indicators here.octets

written_choice : (rules : Rules) (d : ℕ) (s : Sender) (c : Choice) → WasBuilt s c → is_pdu c ≡ true → IsListed d (after_choice c rules d s) → pdu_of_choice rules d s c ≡ listed_text d (after_choice c rules d s) (number_of c s) (polls_at c rules d s)
written_choice rules d s (Again k) built some is = text_is d (after_choice (Again k) rules d s) k _ (body_at s.bodies k) refl built is
written_choice rules d s New built some is = text_is d (after_choice New rules d s) (vt_s s) _ (next_body d s.unsent) (get_or-append_seam s.bodies (next_body d s.unsent) [] no_body) (omega (arith, length-append s.bodies (next_body d s.unsent ∷ []))) is
written_choice rules d s (Last k) built some is = text_is d (after_choice (Last k) rules d s) k _ (body_at s.bodies k) refl built is
written_choice rules d s NoPdu built some is = absurd (cc)

pub written_listed : (rules : Rules) (d : ℕ) (s : Sender) → 1 ≤ d → gives rules s ≡ true → IsListed d s → next_pdu rules d s ≡ listed_text d (after_build rules d s) (number_of (choice rules s) s) (polls_at (choice rules s) rules d s)
written_listed rules d s one some is = written_choice rules d s (choice rules s) (choice_built rules s) some (listed_builds rules d s one is)

-- a PDU that was built stays, and its text with it
record Stays (s now : Sender) (k : ℕ) : Type 0 where
  below : k < vt_s now
  body : body_at now.bodies k ≡ body_at s.bodies k

stays_same : (s now : Sender) (k : ℕ) → k < vt_s s → now.bodies ≡ s.bodies → Stays s now k
stays_same s now k l e = record { below = omega (arith, l, ap length e); body = ap (λ bs. body_at bs k) e }

stays_longer : (s now : Sender) (k : ℕ) (b : Body) → k < vt_s s → now.bodies ≡ s.bodies ++ b ∷ [] → Stays s now k
stays_longer s now k b l e = record {
  below = omega (arith, l, ap length e, length-append s.bodies (b ∷ []));
  body = ap (λ bs. body_at bs k) e ∙ get_or_append_left s.bodies (b ∷ []) no_body k l;
}

stays_offer : (s : Sender) (unit : List ℕ) (k : ℕ) (o : Answer) → k < vt_s s → Stays s (after_offer o s unit) k
stays_offer s unit k Accepted l = stays_same s _ k l refl
stays_offer s unit k Full l = stays_same s _ k l refl
stays_offer s unit k WrongSize l = stays_same s _ k l refl

stays_choice : (rules : Rules) (d : ℕ) (s : Sender) (k : ℕ) (c : Choice) → k < vt_s s → Stays s (after_choice c rules d s) k
stays_choice rules d s k (Again n) l = stays_same s _ k l refl
stays_choice rules d s k New l = stays_longer s _ k (next_body d s.unsent) l refl
stays_choice rules d s k (Last n) l = stays_same s _ k l refl
stays_choice rules d s k NoPdu l = stays_same s _ k l refl

stays_moves : (rules : Rules) (s : Sender) (k : ℕ) (o : Option Discard) → k < vt_s s → Stays s (after_moving rules s o) k
stays_moves rules s k None l = stays_same s _ k l refl
stays_moves rules s k (Some x) l = stays_same s _ k l refl

stays_step : (rules : Rules) (d : ℕ) (s : Sender) (k : ℕ) (event : SenderEvent) → k < vt_s s → (event ≡ Restart → ⊥) → Stays s (sender_step rules d s event) k
stays_step rules d s k (Offer unit) l goes = stays_offer s unit k (offered rules s unit) l
stays_step rules d s k Build l goes = stays_choice rules d s k (choice rules s) l
stays_step rules d s k (Hear fields) l goes = stays_same s _ k l (alike_answer s fields (status_answer rules s fields)).bodies
stays_step rules d s k Move l goes = stays_moves rules s k s.discard l
stays_step rules d s k Tick l goes = stays_same s _ k l (alike_ticks rules s).bodies
stays_step rules d s k Restart l goes = absurd (goes refl)

pub text_stays : (rules : Rules) (d : ℕ) (s : Sender) (event : SenderEvent) (k : ℕ) (poll : Bool) → 1 ≤ d → IsListed d s → k < vt_s s → (event ≡ Restart → ⊥) → listed_text d (sender_step rules d s event) k poll ≡ listed_text d s k poll
text_stays rules d s event k poll one is l goes =
    let stays : Stays s (sender_step rules d s event) k = stays_step rules d s k event l goes in
    sym (text_is d (sender_step rules d s event) k poll (body_at s.bodies k) stays.body stays.below (listed_step rules d s event one is)) ∙ text_is d s k poll (body_at s.bodies k) refl l is
