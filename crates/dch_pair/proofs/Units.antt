-- Units that wait are handed up.
use Rattle.std.proofs.Common.{◌≡◌, ◌+◌, ◌-◌, ◌<◌, ◌≤◌, ℕ, zero, suc, List, [], ◌∷◌, ◌++◌, Bool, true, false, cond, Option, Some, None, Result, Ok, Err, length, map, take, drop, arith, refl, sym, ap, ◌∙◌, append_assoc, length-take}
use Rattle.std.specs.Prelude.{◌==◌, nat_lt, IfOk, is_ok}
use Rattle.std.proofs.lemmas.Bool.{lt-ltb, ltb-true, ltb-false}
use Rattle.std.proofs.lemmas.List.{append-nil, take_all}
use Rattle.dch_am.specs.Bodies.{Body, Reading, ended, read_body, read_full, read_pieces}
use Rattle.dch_am.specs.Entities.{Pdu, DataPdu, StatusPdu, ResetPdu, ResetAckPdu, receiver_by}
use Rattle.dch_am.specs.Moves.{after_control, after_move, after_move_in, move_in, obeyed_mrw, with_move}
use Rattle.dch_am.specs.Receiver.{Receiver, after_pdu, body_of, dead_pieces, vr_r, read_on, read_one, read_run, read_trimmed, taken, with_pdu}
use Rattle.dch_am.specs.Numbers.{ahead}
use Rattle.dch_am.specs.Rules.{Rules}
use Rattle.dch_am.specs.declared.answers.MrwTaken.{MrwTaken}
use Rattle.dch_am.specs.declared.answers.MrwTaken.TheVariants.{Nothing, Obeyed, Old, Outside as Beyond}
use Rattle.dch_am.specs.declared.answers.Taken.{Taken}
use Rattle.dch_am.specs.declared.answers.Taken.TheVariants.{Kept, Duplicate, Outside}
use Rattle.dch_rlcpdu.specs.Fields.{Field}
use Rattle.dch_pair.specs.Standing.{whole}

pub whole-append : (xs ys : List (List ℕ)) → whole (xs ++ ys) ≡ whole xs ++ whole ys
whole-append [] ys = refl
whole-append (x ∷ xs) ys = go (nat_lt 1500 (length x)) (whole-append xs ys)
  where
    go : (b : Bool) → whole (xs ++ ys) ≡ whole xs ++ whole ys → cond b (whole (xs ++ ys)) (x ∷ whole (xs ++ ys)) ≡ cond b (whole xs) (x ∷ whole xs) ++ whole ys
    go true h = h
    go false h = ap (λ us. x ∷ us) h

-- one unit is handed up
pub whole-front : (xs : List (List ℕ)) → whole (take 1 xs) ++ whole (drop 1 xs) ≡ whole xs
whole-front [] = refl
whole-front (x ∷ xs) = sym (whole-append (x ∷ []) xs)

pub handed_front : (given : List (List ℕ)) (xs : List (List ℕ)) → (given ++ whole (take 1 xs)) ++ whole (drop 1 xs) ≡ given ++ whole xs
handed_front given xs = append_assoc given (whole (take 1 xs)) (whole (drop 1 xs)) ∙ ap (λ us. given ++ us) (whole-front xs)

-- more than 1,501 octets of a unit aren't wanted
pub whole-map : (xs : List (List ℕ)) → whole (map (take 1501) xs) ≡ whole xs
whole-map [] = refl
whole-map (x ∷ xs) = go (nat_lt 1500 (length x)) refl (whole-map xs)
  where
    go : (b : Bool) → nat_lt 1500 (length x) ≡ b → whole (map (take 1501) xs) ≡ whole xs → whole (map (take 1501) (x ∷ xs)) ≡ whole (x ∷ xs)
    go true e h =
        let l : 1500 < length x = ltb-true 1500 (length x) e in
        let long : nat_lt 1500 (length (take 1501 x)) ≡ true = lt-ltb 1500 (length (take 1501 x)) (omega (arith, length-take 1501 x)) in
        rw (e, long) h
    go false e h =
        let l : length x ≤ 1500 = ltb-false 1500 (length x) e in
        let same : take 1501 x ≡ x = take_all 1501 x (omega arith) in
        rw (same, e) (ap (λ us. x ∷ us) h)

-- of what is done one thing more is known
pub ok_more : {T E : Type 0} → (r : Result T E) (P Q : T → Type 0) → ((x : T) → P x → Q x) → IfOk r P → IfOk r Q
ok_more (Ok x) P Q f h = f x h
ok_more (Err e) P Q f h = h

-- units are only added behind others
pub record Grown (xs ys : List (List ℕ)) : Type 0 where
  pub more : List (List ℕ)
  pub is : ys ≡ xs ++ more

grown_none : (xs : List (List ℕ)) → Grown xs xs
grown_none xs = record { more = []; is = sym (append-nil xs) }

grown_by : (xs ys zs : List (List ℕ)) → Grown xs ys → Grown ys zs → Grown xs zs
grown_by xs ys zs f g = record { more = f.more ++ g.more; is = g.is ∙ (ap (λ us. us ++ g.more) f.is ∙ append_assoc xs f.more g.more) }

grown_ended : (units : List (List ℕ)) (part : List ℕ) → Grown units (ended units part).units
grown_ended units [] = grown_none units
grown_ended units (x ∷ xs) = record { more = (x ∷ xs) ∷ []; is = refl }

grown_pieces : (r : Reading) (ps : List (List ℕ)) → Grown r.units (read_pieces r ps).units
grown_pieces r [] = grown_none r.units
grown_pieces r (p ∷ ps) = grown_by r.units (ended r.units (r.part ++ p)).units (read_pieces r (p ∷ ps)).units (grown_ended r.units (r.part ++ p)) (grown_pieces (ended r.units (r.part ++ p)) ps)

grown_full : (r : Reading) (full : Bool) → Grown r.units (read_full r full).units
grown_full r true = grown_ended r.units r.part
grown_full r false = grown_none r.units

grown_body : (r : Reading) (b : Body) → Grown r.units (read_body r b).units
grown_body r b = grown_by r.units (read_full r b.full).units (read_pieces (read_full r b.full) b.pieces).units (grown_full r b.full) (grown_pieces (read_full r b.full) b.pieces)

grown_trimmed : (r : Reading) (n : ℕ) (b : Body) → Grown r.units (read_trimmed r n b).units
grown_trimmed r n b = grown_pieces (record { units = r.units; part = [] }) (drop (dead_pieces n b) b.pieces)

grown_one : (trim : Option (ℕ × ℕ)) (r : Reading) (k : ℕ) (b : Body) → Grown r.units (read_one trim r k b).units
grown_one None r k b = grown_body r b
grown_one (Some t) r k b = go (k == t.0) refl
  where
    go : (c : Bool) → (k == t.0) ≡ c → Grown r.units (read_one (Some t) r k b).units
    go true e = rw e (grown_trimmed r t.1 b)
    go false e = rw e (grown_body r b)

grown_run : (trim : Option (ℕ × ℕ)) (arrived : List (ℕ × Body)) (r : Reading) (from n : ℕ) → Grown r.units (read_run trim arrived r from n).units
grown_run trim arrived r from zero = grown_none r.units
grown_run trim arrived r from (suc n) = grown_by r.units (read_one trim r from (body_of arrived from)).units (read_run trim arrived r from (suc n)).units (grown_one trim r from (body_of arrived from)) (grown_run trim arrived (read_one trim r from (body_of arrived from)) (from + 1) n)

grown_on : (r : Receiver) (from : ℕ) → Grown r.reading.units (read_on r from).reading.units
grown_on r from = grown_run r.trim r.arrived r.reading from (vr_r r - from)

-- by a data PDU
grown_pdu : (rules : Rules) (t : Taken) (r : Receiver) (sn : ℕ) (poll : Bool) (b : Body) → Grown r.reading.units (after_pdu rules t r sn poll b).reading.units
grown_pdu rules Kept r sn poll b = grown_on (with_pdu rules r (vr_r r + ahead (vr_r r) sn) poll b) (vr_r r)
grown_pdu rules Duplicate r sn poll b = grown_none r.reading.units
grown_pdu rules Outside r sn poll b = grown_none r.reading.units

grown_move : (t : MrwTaken) (r : Receiver) (sn n : ℕ) → Grown r.reading.units (after_move t r sn n).reading.units
grown_move Obeyed r sn n = grown_on (with_move r (vr_r r + ahead (vr_r r) sn) n) (vr_r r + ahead (vr_r r) sn)
grown_move Old r sn n = grown_none r.reading.units
grown_move (Beyond i) r sn n = grown_none r.reading.units
grown_move Nothing r sn n = grown_none r.reading.units

grown_move_in : (rules : Rules) (r : Receiver) (o : Option (ℕ × ℕ)) → Grown r.reading.units (after_move_in rules r o).reading.units
grown_move_in rules r None = grown_none r.reading.units
grown_move_in rules r (Some p) = grown_move (obeyed_mrw rules r p.0) r p.0 p.1

-- by a status
grown_control : (rules : Rules) (r : Receiver) (fields : List Field) → Grown r.reading.units (after_control rules r fields).reading.units
grown_control rules r fields = grown_move_in rules r (move_in fields)

-- by a PDU that came
pub grown_by_pdu : (rules : Rules) (pdu : Pdu) (r : Receiver) → Grown r.reading.units (receiver_by rules pdu r).reading.units
grown_by_pdu rules (DataPdu sn poll body rides) r = grown_pdu rules (taken rules r sn) r sn poll body
grown_by_pdu rules (StatusPdu fields) r = grown_control rules r fields
grown_by_pdu rules (ResetPdu rsn) r = grown_none r.reading.units
grown_by_pdu rules (ResetAckPdu rsn) r = grown_none r.reading.units

-- a result that is a value, and one that is an error
pub ok_value : {T E : Type 0} → (r : Result T E) (P : Type 0) → IfOk r (λ _. P) → is_ok r ≡ true → P
ok_value (Ok x) P f e = f
ok_value (Err x) P f e = absurd (cc)

pub ok_none : {T E : Type 0} → (r : Result T E) (P : T → Type 0) → is_ok r ≡ false → IfOk r P
ok_none (Ok x) P e = absurd (cc)
ok_none (Err x) P e = tt
