-- What an acknowledged bearer makes of a PDU that was read.
use Rattle.std.proofs.Common.{◌≡◌, ◌≤◌, ◌<◌, ◌+◌, ◌++◌, ◌∙◌, ℕ, List, [], ◌∷◌, Bool, true, false, cond, ◌||◌, Some, None, Ok, length, map, take, drop, arith, refl, sym, ap, ap₂, subst, length-take}
use Rattle.std.specs.Prelude.{nat_eq, nat_lt}
use Rattle.std.proofs.lemmas.Bool.{le-ltb, lt-ltb, ltb-false, ltb-true, ne_eqb}
use Rattle.std.proofs.lemmas.List.{append-nil, take_all}
use Rattle.dch_types.specs.declared.channel.Dir.{Dir}
use Rattle.dch_rlcpdu.specs.declared.am.AmView.{AmView}
use Rattle.dch_rlcpdu.specs.declared.am.AmView.TheVariants.{Payload, Status, Reset as ResetView, ResetAck as ResetAckView}
use Rattle.dch_am.specs.Acknowledging.{status_answer}
use Rattle.dch_am.specs.Entities.{Build, Come, Entity, HandUp, Turn, Tells, Moves, Sends, Rests, pdu_of, receiver_after, receiver_by, sender_after, step, turn}
use Rattle.dch_am.specs.Moves.{control_answer}
use Rattle.dch_am.specs.Receiver.{Receiver, taken}
use Rattle.dch_am.specs.Rules.{Rules}
use Rattle.dch_am.specs.Sender.{Sender}
use Rattle.dch_rlcpdu.specs.declared.handed.Handed.{Handed}
use Rattle.dch_am.specs.declared.answers.Taken.{Taken}
use Rattle.dch_am.specs.declared.answers.Taken.TheVariants.{Kept, Duplicate, Outside as OutsidePdu}
use Rattle.dch_amlaw.specs.Pair.{all_handed, is_beyond, is_outside_answer}
use Rattle.dch_pair.specs.Answers.{is_outside, is_unknown, received}
use Rattle.dch_pair.specs.EntityStanding.{AreSizes, IsSame, Represents, Running, is_settled, size_of, waiting_in}
use Rattle.dch_pair.specs.declared.answers.Received.{Received}
use Rattle.dch_pair.proofs.Peers.{handed_to}
use Rattle.dch_sar.specs.Taking.{handed_of}
use Rattle.dch_indication.specs.Lines.{Line, Outside}
use Rattle.dch_indication.specs.Told.{Told}
use Rattle.dch_indication.proofs.Telling.{told-append}
use Rattle.dch_layer2.specs.Hearing.{lines_by, new_units}
use Rattle.dch_layer2.specs.UnitLines.{line_if, unit_line, unit_lines}
use Rattle.dch_layer2.specs.Acknowledged.{IsAmShape, entity_of, lines_on, outside_first, outside_last, received_lines}
use Rattle.dch_layer2.specs.declared.shape.Shape.{Shape}

-- more than 1,501 octets of a unit aren't wanted
pub lines-cut : (dir : Dir) (b : ℕ) (us : List (List ℕ)) → unit_lines dir b (map (take 1501) us) ≡ unit_lines dir b us
lines-cut dir b [] = refl
lines-cut dir b (u ∷ us) = ap₂ (λ line lines. line ∷ lines) (go (nat_lt 1500 (length u)) refl) (lines-cut dir b us)
  where
    go : (c : Bool) → nat_lt 1500 (length u) ≡ c → unit_line dir b (take 1501 u) ≡ unit_line dir b u
    go true e =
        let l : 1500 < length u = ltb-true 1500 (length u) e in
        let long : nat_lt 1500 (length (take 1501 u)) ≡ true = lt-ltb 1500 (length (take 1501 u)) (omega (arith, length-take 1501 u)) in
        rw (e, long) refl
    go false e =
        let l : length u ≤ 1500 = ltb-false 1500 (length u) e in
        ap (unit_line dir b) (take_all 1501 u (omega arith))

-- nothing is behind all
none_new : (us : List (List ℕ)) → drop (length us) us ≡ []
none_new [] = refl
none_new (u ∷ us) = none_new us

outside_same : (t : Taken) → is_outside_answer t ≡ is_outside t
outside_same Kept = refl
outside_same Duplicate = refl
outside_same OutsidePdu = refl

-- the lines on a PDU, by its answer
lines_by_answer : (rules : Rules) (dir : Dir) (b : ℕ) (view : AmView) (s : Sender) (r : Receiver) →
    lines_by rules dir b (Ok view) s r (new_units r (receiver_by rules (pdu_of view) r)) ≡ received_lines dir b (received rules (entity_of s r) (pdu_of view)) (new_units r (receiver_by rules (pdu_of view) r))
lines_by_answer rules dir b (Payload sn poll c None) s r = ap (λ o. line_if o (Outside dir b) ++ unit_lines dir b (new_units r (receiver_by rules (pdu_of (Payload sn poll c None)) r)) ++ []) (outside_same (taken rules r sn))
lines_by_answer rules dir b (Payload sn poll c (Some fields)) s r = ap (λ o. line_if o (Outside dir b) ++ unit_lines dir b (new_units r (receiver_by rules (pdu_of (Payload sn poll c (Some fields))) r)) ++ line_if (is_unknown (status_answer rules s fields)) (Outside dir b)) (outside_same (taken rules r sn))
lines_by_answer rules dir b (Status fields) s r = sym (append-nil (line_if (is_unknown (status_answer rules s fields) || is_beyond (control_answer rules r fields)) (Outside dir b) ++ unit_lines dir b (new_units r (receiver_by rules (pdu_of (Status fields)) r))))
lines_by_answer rules dir b (ResetView rsn hfni) s r = sym (ap (λ us. unit_lines dir b us ++ []) (none_new r.reading.units))
lines_by_answer rules dir b (ResetAckView rsn hfni) s r = sym (ap (λ us. unit_lines dir b us ++ []) (none_new r.reading.units))

-- where an entity came to stand for what a PDU makes of it
pub heard_lines : (rules : Rules) (dir : Dir) (b size : ℕ) (view : AmView) (s : Sender) (r : Receiver) (mid : Running) (answer : Received) →
    answer ≡ received rules (entity_of s r) (pdu_of view) → Represents rules mid (step rules size (entity_of s r) (Come (pdu_of view))) →
    lines_on rules dir b (Ok view) s r ≡ received_lines dir b answer (waiting_in mid)
heard_lines rules dir b size view s r mid answer is stands =
    lines_by_answer rules dir b view s r
    ∙ (ap (λ x. received_lines dir b x (new_units r (receiver_by rules (pdu_of view) r))) (sym is)
    ∙ ap (λ lines. line_if (outside_first answer) (Outside dir b) ++ lines ++ line_if (outside_last answer) (Outside dir b))
    (sym (lines-cut dir b (new_units r (receiver_by rules (pdu_of view) r))) ∙ ap (unit_lines dir b) (sym stands.receiver.units.waiting)))

-- whoever is told all three parts is told the lines by its answer
pub heard_told : {S : Type 0} (shows : S → Line → S → Type 0) (dir : Dir) (b : ℕ) (answer : Received) (waiting : List (List ℕ)) (old one two new : S) (first last : Bool) → first ≡ outside_first answer → last ≡ outside_last answer →
    Told shows old (line_if first (Outside dir b)) one → Told shows one (unit_lines dir b waiting) two → Told shows two (line_if last (Outside dir b)) new →
    Told shows old (received_lines dir b answer waiting) new
heard_told shows dir b answer waiting old one two new first last f l a c d =
    let front : List Line = line_if (outside_first answer) (Outside dir b) in
    told-append shows old two new (front ++ unit_lines dir b waiting) (line_if (outside_last answer) (Outside dir b))
    (told-append shows old one two front (unit_lines dir b waiting) (subst (λ x. Told shows old (line_if x (Outside dir b)) one) f a) c)
    (subst (λ x. Told shows two (line_if x (Outside dir b)) new) l d)

-- what is written at a turn doesn't change which units were read
pub read_same : (t : Turn) (rules : Rules) (r : Receiver) → (receiver_after t rules r).reading.units ≡ r.reading.units
read_same Tells rules r = refl
read_same Moves rules r = refl
read_same Sends rules r = refl
read_same Rests rules r = refl

-- the last unit was handed up
none_more : (n : ℕ) → nat_lt n n ≡ false
none_more n = le-ltb n n (omega arith)

no_units : (us : List (List ℕ)) → handed_of us ≡ None → us ≡ []
no_units [] e = refl
no_units (u ∷ us) e = absurd (cc)

pub none_left : (us : List (List ℕ)) → handed_of us ≡ None → drop 1 us ≡ []
none_left us e = ap (drop 1) (no_units us e)

pub last_handed : (rules : Rules) (size : ℕ) (v now : Running) (e : Entity) → handed_of (waiting_in v) ≡ None → (is_settled v ≡ true → Represents rules v (all_handed e)) →
    ((x : Entity) → Represents rules v x → Represents rules now (step rules size x HandUp)) → Represents rules now (all_handed e)
last_handed rules size v now e none before hands =
    let n : ℕ = length e.receiver.reading.units in
    let settled : is_settled v ≡ true = ap (λ (us : List (List ℕ)). nat_eq (length us) 0) (no_units (waiting_in v) none) in
    subst (λ m. Represents rules now (handed_to m e)) (ap (λ c. cond c (n + 1) n) (none_more n)) (hands (all_handed e) (before settled))

-- the shape of a bearer stays
pub shape_same : (shape : Shape) (a b : Running) → IsAmShape shape a → IsSame a b → IsAmShape shape b
shape_same shape a b is same = record {
  octets = same.sizes.out ∙ is.octets;
  whole = is.whole;
  settled = ap (λ (us : List (List ℕ)). nat_eq (length us) 0) same.waiting ∙ is.settled;
}

pub shape_on : (shape : Shape) (a b : Running) → IsAmShape shape a → AreSizes a b → is_settled b ≡ true → IsAmShape shape b
shape_on shape a b is sizes settled = record { octets = sizes.out ∙ is.octets; whole = is.whole; settled = settled }

-- after a build
pub built_sides : (rules : Rules) (s : Sender) (r : Receiver) (octets : ℕ) (v now : Running) → size_of v ≡ octets → Represents rules now (step rules (size_of v) (entity_of s r) Build) →
    Represents rules now (entity_of (sender_after (turn rules s r) rules octets s) (receiver_after (turn rules s r) rules r))
built_sides rules s r octets v now size is =
    subst (λ n. Represents rules now (record { sender = sender_after (turn rules s r) rules octets s; receiver = receiver_after (turn rules s r) rules r; handed = n })) (ap length (sym (read_same (turn rules s r) rules r)))
    (subst (λ n. Represents rules now (record { sender = sender_after (turn rules s r) rules n s; receiver = receiver_after (turn rules s r) rules r; handed = length r.reading.units })) size is)

pub sizes_on : (a b c : Running) → AreSizes a b → AreSizes b c → AreSizes a c
sizes_on a b c first then = record { out = then.out ∙ first.out; in_ = then.in_ ∙ first.in_ }

-- where one is handed up some wait
pub some_waits : (us : List (List ℕ)) (h : Handed) → Some h ≡ handed_of us → nat_eq (length us) 0 ≡ false
some_waits [] h e = absurd (cc)
some_waits (u ∷ us) h e = ne_eqb (length (u ∷ us)) 0 (λ q. omega (arith, q))
