-- Accepted units have at most 1,500 octets, and so have those that are handed up.
use Rattle.std.proofs.Common.{◌≡◌, ◌+◌, ◌-◌, ◌≤◌, ℕ, zero, suc, List, [], ◌∷◌, ◌++◌, Bool, true, false, ◌||◌, cond, Option, Some, None, length, refl, sym, ◌∙◌, subst}
use Rattle.std.specs.Prelude.{nat_lt, ◌==◌}
use Rattle.std.proofs.lemmas.Bool.{ltb-false}
use Rattle.dch_am.specs.Acknowledging.{after_ack, after_acks, after_answer, after_fields, after_telling_of, all_names, ended_at, ends_discard, lsn_of, status_answer, reports, told}
use Rattle.dch_am.specs.Bodies.{Body, is_empty}
use Rattle.dch_am.specs.Building.{Choice, Again, New, Last, NoPdu, after_choice, choice}
use Rattle.dch_am.specs.Discards.{after_moving, after_tick, can_take, discards, discards_at, place_from, tick_sender}
use Rattle.dch_am.specs.Entities.{Turn, Tells, Moves, Sends, Rests, sender_after, turn}
use Rattle.dch_am.specs.Rules.{Rules}
use Rattle.dch_am.specs.Sender.{Discard, Sender, after_offer, blocks, vt_a, held, vt_s}
use Rattle.dch_am.specs.Status.{fields_of}
use Rattle.dch_am.specs.declared.answers.StatusTaken.{StatusTaken}
use Rattle.dch_am.specs.declared.answers.StatusTaken.TheVariants.{Taken as Inside, Outside as Unknown}
use Rattle.dch_bits.specs.declared.offer.Offer.TheVariants.{Accepted, Full, WrongSize}
use Rattle.dch_rlcpdu.specs.Fields.{Field, NoMoreField, WindowField, AckField, ListField, BitmapField, MrwField, MrwAckField}
use Rattle.dch_amlaw.specs.Pair.{Arrive, At, Block, Build, End, Event, Far, IsSafe, Lose, Mrw, Near, Offer, Pair, Payload, Report, Tick, after, arrives, happens, happens_near, in_span, loses, opened, picked, takes, turned}
use Rattle.dch_amlaw.proofs.History.{always_safe}

-- each has at most 1,500 octets
abbrev pub AreShort : List (List ℕ) → Type 0
AreShort [] = Unit {0}
AreShort (u ∷ us) = (length u ≤ 1500) × AreShort us

short-append : (us : List (List ℕ)) (u : List ℕ) → AreShort us → length u ≤ 1500 → AreShort (us ++ u ∷ [])
short-append [] u f l = (l, tt)
short-append (x ∷ us) u f l = (f.0, short-append us u f.1 l)

-- neither a build, nor a status, nor a tick changes which units were accepted
choice_same : (rules : Rules) (d : ℕ) (s : Sender) (c : Choice) → (after_choice c rules d s).accepted ≡ s.accepted
choice_same rules d s (Again k) = refl
choice_same rules d s New = refl
choice_same rules d s (Last k) = refl
choice_same rules d s NoPdu = refl

moving_same : (rules : Rules) (s : Sender) (d : Option Discard) → (after_moving rules s d).accepted ≡ s.accepted
moving_same rules s None = refl
moving_same rules s (Some d) = refl

pub turn_same : (t : Turn) (rules : Rules) (size : ℕ) (s : Sender) → (sender_after t rules size s).accepted ≡ s.accepted
turn_same Tells rules size s = refl
turn_same Moves rules size s = moving_same rules s s.discard
turn_same Sends rules size s = choice_same rules (size - 2) s (choice rules s)
turn_same Rests rules size s = refl

ended_same : (s : Sender) (o : Option ℕ) → (ends_discard s o).accepted ≡ s.accepted
ended_same s None = refl
ended_same s (Some m) = refl

acks_same : (s : Sender) (fields : List Field) → (after_acks s fields).accepted ≡ s.accepted
acks_same s [] = refl
acks_same s (MrwAckField n sn ∷ fields) = acks_same (after_ack s (record { number = sn; n = n })) fields ∙ ended_same s (ended_at (vt_s s) s.discard (record { number = sn; n = n }))
acks_same s (NoMoreField ∷ fields) = acks_same s fields
acks_same s (WindowField size ∷ fields) = acks_same s fields
acks_same s (AckField lsn ∷ fields) = acks_same s fields
acks_same s (ListField pairs ∷ fields) = acks_same s fields
acks_same s (BitmapField first bits ∷ fields) = acks_same s fields
acks_same s (MrwField last n ∷ fields) = acks_same s fields

telling_same : (s : Sender) (fields : List Field) → (after_telling_of s fields).accepted ≡ s.accepted
telling_same s fields = go (reports fields)
  where
    go : (b : Bool) → (cond b (told s (all_names (vt_a s) (vt_s s) fields) (lsn_of (vt_a s) fields)) s).accepted ≡ s.accepted
    go true = refl
    go false = refl

answer_same : (a : StatusTaken) (s : Sender) (fields : List Field) → (after_answer a s fields).accepted ≡ s.accepted
answer_same Inside s fields = telling_same (after_acks s fields) fields ∙ acks_same s fields
answer_same (Unknown i) s fields = refl

pub fields_same : (rules : Rules) (s : Sender) (fields : List Field) → (after_fields rules s fields).accepted ≡ s.accepted
fields_same rules s fields = answer_same (status_answer rules s fields) s fields

place_same : (s : Sender) (i : ℕ) (o : Option (ℕ × ℕ)) → (discards_at s i o).accepted ≡ s.accepted
place_same s i None = refl
place_same s i (Some p) = refl

discards_same : (rules : Rules) (s : Sender) (n : ℕ) → (discards rules s n).accepted ≡ s.accepted
discards_same rules s zero = refl
discards_same rules s (suc i) = go (can_take rules s i (place_from s.bodies 0 i)) (discards_same rules s i)
  where
    go : (b : Bool) → (discards rules s i).accepted ≡ s.accepted → (cond b (discards_at s i (place_from s.bodies 0 i)) (discards rules s i)).accepted ≡ s.accepted
    go true h = place_same s i (place_from s.bodies 0 i)
    go false h = h

tick_by : (rules : Rules) (s : Sender) (d : Option Discard) → (after_tick rules s d).accepted ≡ s.accepted
tick_by rules s None = discards_same rules s (length s.accepted)
tick_by rules s (Some d) = refl

pub tick_same : (rules : Rules) (s : Sender) → (tick_sender rules s).accepted ≡ s.accepted
tick_same rules s = tick_by rules (record s { poll_timer = s.poll_timer - 1; owed = s.owed || (s.poll_timer == 1); ticks = s.ticks + 1 }) s.discard

short_picked : (bodies : List Body) (spans : List (ℕ × ℕ)) (i : ℕ) (us : List (List ℕ)) → AreShort us → AreShort (picked bodies spans i us)
short_picked bodies spans i [] f = tt
short_picked bodies spans i (u ∷ us) f = go (in_span bodies spans i) (short_picked bodies spans (i + 1) us f.1)
  where
    go : (b : Bool) → AreShort (picked bodies spans (i + 1) us) → AreShort (cond b (u ∷ picked bodies spans (i + 1) us) (picked bodies spans (i + 1) us))
    go true h = (f.0, h)
    go false h = h

-- what an offer is answered, by whether the size is wrong and the room is short
offer_short : (s : Sender) (unit : List ℕ) (empty long full : Bool) → nat_lt 1500 (length unit) ≡ long → AreShort s.accepted → AreShort (after_offer (cond (empty || long) WrongSize (cond full Full Accepted)) s unit).accepted
offer_short s unit true long full e f = f
offer_short s unit false true full e f = f
offer_short s unit false false true e f = f
offer_short s unit false false false e f = short-append s.accepted unit f (ltb-false 1500 (length unit) e)

-- of both ends
pub record BothShort (p : Pair) : Type 0 where
  pub near : AreShort p.near.entity.sender.accepted
  pub far : AreShort p.far.entity.sender.accepted

takes_same : (rules : Rules) (e : End) (b : Block) → (takes rules e b).entity.sender.accepted ≡ e.entity.sender.accepted
takes_same rules e (Payload k poll body) = refl
takes_same rules e (Mrw k n end_of_discard) = refl
takes_same rules e (Report t) = fields_same rules e.entity.sender (fields_of t)

short_arrives : (rules : Rules) (p : Pair) (line : List Block) → BothShort p → BothShort (arrives rules p line)
short_arrives rules p [] f = f
short_arrives rules p (b ∷ line) f = record { near = subst AreShort (sym (takes_same rules p.near b)) f.near; far = f.far }

short_loses : (p : Pair) (line : List Block) → BothShort p → BothShort (loses p line)
short_loses p [] f = f
short_loses p (b ∷ line) f = record { near = f.near; far = f.far }

short_near : (rules : Rules) (p : Pair) (e : Event) → BothShort p → BothShort (happens_near rules p e)
short_near rules p (Offer unit) f = record { near = offer_short p.near.entity.sender unit (is_empty unit) (nat_lt 1500 (length unit)) (nat_lt rules.buffer (blocks (held p.near.entity.sender) + blocks (unit ∷ []))) refl f.near; far = f.far }
short_near rules p Build f = record { near = subst AreShort (sym (turn_same (turn rules p.near.entity.sender p.near.entity.receiver) rules p.near.octets p.near.entity.sender)) f.near; far = f.far }
short_near rules p Arrive f = short_arrives rules p p.back f
short_near rules p Lose f = short_loses p p.back f
short_near rules p Tick f = record { near = subst AreShort (sym (tick_same rules p.near.entity.sender)) f.near; far = f.far }

short_turned : (p : Pair) → BothShort p → BothShort (turned p)
short_turned p f = record { near = f.far; far = f.near }

short_happens : (rules : Rules) (p : Pair) (e : At) → BothShort p → BothShort (happens rules p e)
short_happens rules p (Near e) f = short_near rules p e f
short_happens rules p (Far e) f = short_turned (happens_near rules (turned p) e) (short_near rules (turned p) e (short_turned p f))

short_after : (rules : Rules) (p : Pair) (events : List At) → BothShort p → BothShort (after rules p events)
short_after rules p [] f = f
short_after rules p (e ∷ events) f = short_after rules (happens rules p e) events (short_happens rules p e f)

-- the units that both ends have read
pub record BothRead (p : Pair) : Type 0 where
  pub near : AreShort p.near.entity.receiver.reading.units
  pub far : AreShort p.far.entity.receiver.reading.units

-- what is handed up, too
pub always_short : (rules : Rules) (first second : ℕ) (events : List At) → rules.window ≤ 2048 → BothRead (after rules (opened rules first second) events)
always_short rules first second events window =
    go (after rules (opened rules first second) events) (always_safe rules first second events window) (short_after rules (opened rules first second) events (record { near = tt; far = tt }))
  where
    go : (p : Pair) → IsSafe rules p → BothShort p → BothRead p
    go p safe f = record {
      near = subst AreShort (sym safe.far_near.in_order) (short_picked p.far.entity.sender.bodies p.near.spans 0 p.far.entity.sender.accepted f.far);
      far = subst AreShort (sym safe.near_far.in_order) (short_picked p.near.entity.sender.bodies p.far.spans 0 p.near.entity.sender.accepted f.near);
    }
