-- What each call does is what its event does.
use Rattle.std.proofs.Common.{◌≡◌, ◌*◌, ℕ, Bool, true, false, cond, ◌&&◌, not, Option, Some, None, is_some, refl, sym, ap, ◌∙◌}
use Rattle.std.specs.Prelude.{◌==◌}
use Rattle.dch_am.specs.Acknowledging.{status_answer}
use Rattle.dch_am.specs.Building.{Choice, Again as Repeats, New, Last, NoPdu, choice, gives, is_pdu}
use Rattle.dch_am.specs.Discards.{mrw_due}
use Rattle.dch_am.specs.Entities.{Entity, Come as Comes, Turn, Tells, Moves, Sends, Rests, step as entity_step, turn as entity_turn, writes as entity_writes}
use Rattle.dch_am.specs.Moves.{answer_to, obeyed_mrw}
use Rattle.dch_am.specs.Numbers.{wrapped}
use Rattle.dch_am.specs.Receiver.{taken}
use Rattle.dch_am.specs.Rules.{Rules}
use Rattle.dch_am.specs.Sender.{Discard}
use Rattle.dch_am.specs.Status.{Told, fields_of}
use Rattle.dch_am.specs.Telling.{is_due, tells_now}
use Rattle.dch_am.specs.declared.answers.MrwTaken.{MrwTaken}
use Rattle.dch_am.specs.declared.answers.MrwTaken.TheVariants.{Nothing, Obeyed, Old, Outside as Beyond}
use Rattle.dch_am.specs.declared.answers.StatusTaken.{StatusTaken}
use Rattle.dch_am.specs.declared.answers.StatusTaken.TheVariants.{Taken as Inside, Outside as Unknown}
use Rattle.dch_am.specs.declared.answers.Taken.{Taken as PduTaken}
use Rattle.dch_am.specs.declared.answers.Taken.TheVariants.{Kept, Duplicate as Again, Outside as NotInside}
use Rattle.dch_am.proofs.Turns.{sends_gives, tells_due, told_due}
use Rattle.dch_amlaw.specs.Pair.{Block, Payload, Mrw, Report, End, all_handed, answers_outside as block_outside, block_of, built, is_beyond, is_outside_answer, is_refused, mrw_of, payload_of, pdu_in, report_of, takes}
use Rattle.dch_amlaw.proofs.Heard.{told_still}
use Rattle.dch_pair.specs.Answers.{received}
use Rattle.dch_reset.specs.Ends.{Built, Pending, ResetEnd, Sent, Data, ResetPdu, ResetAckPdu, builds_by, hears, hears_data, hfni_of, is_asked, is_heard, labelled, resets_by, restarted as history_restarted}
use Rattle.dch_reset.specs.Law.{answers_outside}
use Rattle.dch_reset.specs.Answers.{answer, data_answer, entity_answer, move_answer, unless_pending, unless_unknown}
use Rattle.dch_reset.specs.History.{IsAllHanded, handed_up, is_outside, pdu_sent, state_of}
use Rattle.dch_reset.specs.State.{Asks, Come, State, Turn as ResetTurn, Waits, after_turn, asked_again, came, reset_by, restarted, step, taken_by, turn_by, writes}
use Rattle.dch_reset.specs.declared.answers.Got.{Got}
use Rattle.dch_reset.specs.declared.answers.Got.TheVariants.{Restarted, Repeated, Ignored, Taken}

pub resets_is : (e : ResetEnd) (q : Option Pending) → state_of (resets_by e q) ≡ reset_by (state_of e) q
resets_is e None = refl
resets_is e (Some p) = refl

-- Something is built where something is due.
is_moves : (a b e : Bool) → ◌≡◌ {A = Turn} (cond a Tells (cond b Moves (cond e Sends Rests))) Moves → b ≡ true
is_moves true b e q = absurd (cc)
is_moves false true e q = refl
is_moves false false true q = absurd (cc)
is_moves false false false q = absurd (cc)

some_told : (o : Option Told) → is_some (report_of o) ≡ is_some o
some_told None = refl
some_told (Some t) = refl

some_mrw : (o : Option Discard) → mrw_due o ≡ true → is_some (mrw_of o) ≡ true
some_mrw None e = absurd (cc)
some_mrw (Some d) e = refl

some_pdu : (c : Choice) (rules : Rules) (e : End) → is_pdu c ≡ true → is_some (payload_of c rules e) ≡ true
some_pdu (Repeats k) rules e q = refl
some_pdu New rules e q = refl
some_pdu (Last k) rules e q = refl
some_pdu NoPdu rules e q = absurd (cc)

some_block : (t : Turn) (rules : Rules) (e : End) → entity_turn rules e.entity.sender e.entity.receiver ≡ t → is_some (block_of t rules e) ≡ entity_writes t
some_block Tells rules e q = some_told (tells_now (8 * e.octets) e.entity.receiver) ∙ told_due (8 * e.octets) e.entity.receiver ∙ tells_due rules e.entity.sender e.entity.receiver q
some_block Moves rules e q = some_mrw e.entity.sender.discard (is_moves (is_due e.entity.receiver) (mrw_due e.entity.sender.discard) (gives rules e.entity.sender) q)
some_block Sends rules e q = some_pdu (choice rules e.entity.sender) rules e (sends_gives rules e.entity.sender e.entity.receiver q)
some_block Rests rules e q = refl

some_labelled : (n : ℕ) (o : Option Block) → is_some (labelled n o) ≡ is_some o
some_labelled n None = refl
some_labelled n (Some b) = refl

-- what is built, and the end after it
pub record IsBuilt (rules : Rules) (e : ResetEnd) (b : Built) (t : ResetTurn) : Type 0 where
  pub state : state_of b.after ≡ after_turn t rules e.sides.octets (state_of e)
  pub some : is_some b.sent ≡ writes t

reset_built : (rules : Rules) (e : ResetEnd) (p : Pending) (t : Bool) → e.pending ≡ Some p → IsBuilt rules e (cond t (record { after = record e { pending = Some (record p { rst_timer = 30 }) }; sent = Some (ResetPdu p.rsn (hfni_of e.restarts)) }) (record { after = e; sent = None })) (cond t Asks Waits)
reset_built rules e p true s = record { state = ap (λ x. record (state_of e) { pending = asked_again x }) (sym s); some = refl }
reset_built rules e p false s = record { state = refl; some = refl }

pub built_is : (rules : Rules) (e : ResetEnd) (owes : Bool) (q : Option Pending) → e.pending ≡ q → IsBuilt rules e (builds_by rules e owes q) (turn_by rules e.sides.entity owes q)
built_is rules e true q s = record { state = refl; some = refl }
built_is rules e false (Some p) s = reset_built rules e p (p.rst_timer == 0) s
built_is rules e false None s = record {
  state = refl;
  some = some_labelled e.restarts (built rules e.sides) ∙ some_block (entity_turn rules e.sides.entity.sender e.sides.entity.receiver) rules e.sides refl;
}

-- What comes.
pub all_same : (e : State) → IsAllHanded e → e ≡ handed_up e
all_same e is = ap (λ n. record e { entity = record { sender = e.entity.sender; receiver = e.entity.receiver; handed = n } }) is

-- what an end takes of a block is what its entity does
takes_is : (rules : Rules) (e : End) (b : Block) → (takes rules e b).entity ≡ all_handed (entity_step rules e.octets e.entity (Comes (pdu_in b)))
takes_is rules e (Payload k poll body) = refl
takes_is rules e (Mrw k n end_of_discard) = refl
takes_is rules e (Report t) = refl

pub came_block : (rules : Rules) (size : ℕ) (e : State) (b : Block) → came rules size e (pdu_in b) ≡ taken_by rules size e e.pending (pdu_in b)
came_block rules size e (Payload k poll body) = refl
came_block rules size e (Mrw k n end_of_discard) = refl
came_block rules size e (Report t) = refl

data_is : (rules : Rules) (e : ResetEnd) (label : ℕ) (b : Block) (q : Option Pending) → IsAllHanded (state_of e) → state_of (hears_data rules e q label b) ≡ handed_up (taken_by rules e.sides.octets (state_of e) q (pdu_in b))
data_is rules e label b (Some p) is = all_same (state_of e) is
data_is rules e label b None is = ap (λ (x : Entity). record (state_of e) { entity = x }) (takes_is rules e.sides b)

reset_is : (rules : Rules) (e : ResetEnd) (rsn t : Bool) → IsAllHanded (state_of e) → state_of (cond t (record e { owes = true }) (record (history_restarted rules e) { heard = Some rsn; owes = true })) ≡ handed_up (cond t (record (state_of e) { owes = true }) (record (restarted rules (state_of e)) { heard = Some rsn; owes = true }))
reset_is rules e rsn true is = all_same (record (state_of e) { owes = true }) is
reset_is rules e rsn false is = refl

reset_ack_is : (rules : Rules) (e : ResetEnd) (t : Bool) → IsAllHanded (state_of e) → state_of (cond t (record (history_restarted rules e) { pending = None }) e) ≡ handed_up (cond t (record (restarted rules (state_of e)) { pending = None }) (state_of e))
reset_ack_is rules e true is = refl
reset_ack_is rules e false is = all_same (state_of e) is

pub hears_is : (rules : Rules) (e : ResetEnd) (s : Sent) → IsAllHanded (state_of e) → state_of (hears rules e s) ≡ handed_up (step rules e.sides.octets (state_of e) (Come (pdu_sent s)))
hears_is rules e (Data label b) is = data_is rules e label b e.pending is ∙ ap handed_up (sym (came_block rules e.sides.octets (state_of e) b))
hears_is rules e (ResetPdu rsn hfni) is = reset_is rules e rsn (is_heard e.heard rsn) is
hears_is rules e (ResetAckPdu rsn hfni) is = reset_ack_is rules e (is_asked e.pending rsn) is

-- What is answered.
pdu_outside : (t : PduTaken) → is_outside (data_answer t None) ≡ is_outside_answer t
pdu_outside Kept = refl
pdu_outside Again = refl
pdu_outside NotInside = refl

move_outside : (t : MrwTaken) → is_outside (move_answer t) ≡ is_beyond t
move_outside Nothing = refl
move_outside Obeyed = refl
move_outside Old = refl
move_outside (Beyond i) = refl

status_outside : (t : StatusTaken) → is_outside (unless_unknown t Taken) ≡ is_refused t
status_outside Inside = refl
status_outside (Unknown i) = refl

block_answer : (rules : Rules) (e : End) (b : Block) → is_outside (entity_answer (received rules e.entity (pdu_in b))) ≡ block_outside rules e b
block_answer rules e (Payload k poll body) = pdu_outside (taken rules e.entity.receiver (wrapped k))
block_answer rules e (Mrw k n end_of_discard) = move_outside (obeyed_mrw rules e.entity.receiver (wrapped k))
block_answer rules e (Report t) = ap (λ o. is_outside (unless_unknown (status_answer rules e.entity.sender (fields_of t)) (move_answer (answer_to rules e.entity.receiver o)))) (told_still t) ∙ status_outside (status_answer rules e.entity.sender (fields_of t))

answer_block : (rules : Rules) (e : State) (b : Block) → answer rules e (pdu_in b) ≡ unless_pending e.pending (entity_answer (received rules e.entity (pdu_in b)))
answer_block rules e (Payload k poll body) = refl
answer_block rules e (Mrw k n end_of_discard) = refl
answer_block rules e (Report t) = refl

data_outside : (q : Option Pending) (got : Got) → is_outside (unless_pending q got) ≡ (not (is_some q) && is_outside got)
data_outside None got = refl
data_outside (Some p) got = refl

never_outside : (t : Bool) (a b : Got) → is_outside a ≡ false → is_outside b ≡ false → is_outside (cond t a b) ≡ false
never_outside true a b x y = x
never_outside false a b x y = y

pub answer_is : (rules : Rules) (e : ResetEnd) (s : Sent) → is_outside (answer rules (state_of e) (pdu_sent s)) ≡ answers_outside rules e s
answer_is rules e (Data label b) =
    ap is_outside (answer_block rules (state_of e) b)
    ∙ (data_outside e.pending (entity_answer (received rules e.sides.entity (pdu_in b))) ∙ ap (λ t. not (is_some e.pending) && t) (block_answer rules e.sides b))
answer_is rules e (ResetPdu rsn hfni) = never_outside (is_heard e.heard rsn) Repeated Restarted refl refl
answer_is rules e (ResetAckPdu rsn hfni) = never_outside (is_asked e.pending rsn) Restarted Ignored refl refl
