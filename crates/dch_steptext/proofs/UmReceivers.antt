-- What a receiver of the unacknowledged mode tells comes out of the bytes of what it holds and of what comes.
use Rattle.std.proofs.Common.{◌≡◌, ◌≤◌, ◌+◌, ◌-◌, ◌*◌, ◌%◌, ◌++◌, ◌&&◌, ◌||◌, ℕ, zero, suc, List, [], ◌∷◌, Bool, true, false, cond, Result, Ok, Err, length, take, arith, refl, length-take}
use Rattle.std.specs.Prelude.{◌==◌}
use Rattle.std.proofs.lemmas.Bool.{cond_both}
use Rattle.dch_rlcpdu.specs.declared.handed.PduError.{PduError}
use Rattle.dch_rlcpdu.specs.declared.indicators.Mode.TheVariants.{Unacknowledged}
use Rattle.dch_rlcpdu.specs.declared.um.UmView.{UmView}
use Rattle.dch_rlcpdu.specs.Indicators.{indicator_of}
use Rattle.dch_rlcpdu.specs.Parts.{Content, begins_with, leading, parts_of, total_of}
use Rattle.dch_rlcpdu.specs.Split.{body_reading}
use Rattle.dch_rlcpdu.specs.Um.{um_reading, um_view}
use Rattle.dch_layer2.specs.Receiving.{Receiving, added, after_first, after_number, after_parts, after_pdu, dropped, ended, is_some}
use Rattle.dch_steptext.specs.ReceiverBytes.{part_bytes, units_bytes}
use Rattle.dch_steptext.proofs.PieceBytes.{part_more}
use Rattle.dch_steptext.proofs.UnitBytes.{unit_paid, units_more}
use Rattle.dch_amlaw.proofs.Views.{IsContent, content_read}

-- what is told of the units that wait, and what can still come
abbrev pub held : Receiving → ℕ
held r = units_bytes r.waiting + part_bytes r.part

part_take : (n : ℕ) (xs : List ℕ) → part_bytes (take n xs) ≤ part_bytes xs
part_take zero xs = omega arith
part_take (suc n) [] = omega arith
part_take (suc n) (x ∷ xs) = omega (arith, length-take n xs)

held_added : (p : List ℕ) (r : Receiving) → held (added p r) ≤ held r + 9 * length p
held_added p r = cond_both {A = Receiving} r.known (record { vr_us = r.vr_us; known = true; part = take 1501 (r.part ++ p); waiting = r.waiting }) r (λ q. held q ≤ held r + 9 * length p)
    (λ _. omega (arith, part_take 1501 (r.part ++ p), part_more r.part p))
    (λ _. omega arith)

ended_by : (known : Bool) (part : List ℕ) (waiting : List (List ℕ)) → units_bytes (cond (known && is_some part) (waiting ++ part ∷ []) waiting) ≤ units_bytes waiting + part_bytes part + 6
ended_by true [] waiting = omega arith
ended_by true (x ∷ xs) waiting = omega (arith, units_more waiting ((x ∷ xs) ∷ []), unit_paid x xs)
ended_by false part waiting = omega arith

held_ended : (r : Receiving) → held (ended r) ≤ held r + 6
held_ended r = omega (arith, ended_by r.known r.part r.waiting)

held_numbered : (sn : ℕ) (r : Receiving) → held (after_number sn r) ≤ held r
held_numbered sn r = cond_both {A = Receiving} (sn == r.vr_us) r (dropped false r) (λ q. held q ≤ held r) (λ _. omega arith) (λ _. omega arith)

held_first : (indicators : List ℕ) (r : Receiving) → held (after_first indicators r) ≤ held r + 6 * leading indicators
held_first indicators r = go (begins_with 0 indicators) (begins_with 124 indicators)
  where
    go : (c e : Bool) → held (cond c (ended r) (cond e (dropped true r) r)) ≤ held r + 6 * cond (c || e) 1 0
    go true e = omega (arith, held_ended r)
    go false true = omega arith
    go false false = omega arith

held_parts : (ps : List (List ℕ)) (r : Receiving) → held (after_parts ps r) ≤ held r + 9 * total_of ps + 6 * (length ps - 1)
held_parts [] r = omega arith
held_parts (p ∷ []) r = omega (arith, held_added p r)
held_parts (p ∷ q ∷ ps) r = omega (arith, held_parts (q ∷ ps) (ended (added p r)), held_ended (added p r), held_added p r)

-- a PDU comes
pub held_pdu : (size : ℕ) (v : UmView) (r : Receiving) → IsContent size v.body → held (after_pdu v r) ≤ held r + 9 * size
held_pdu size v r is =
    let numbered : Receiving = after_number v.sn r in
    let first : Receiving = after_first v.body.indicators numbered in
    omega (arith, held_numbered v.sn r, held_first v.body.indicators numbered, held_parts (parts_of v.body) first, is.parts, is.octets, is.indicators, is.few)

-- what a PDU of at most 125 octets holds
abbrev pub IsFew : Result UmView PduError → Type 0
IsFew (Ok view) = IsContent 124 view.body
IsFew (Err e) = Unit {0}

pub reading_few : (p : List ℕ) → length p ≤ 125 → IsFew (um_reading p)
reading_few [] few = tt
reading_few (octet ∷ p) few = go (body_reading Unacknowledged (octet % 2 == 1) p) refl
  where
    go : (r : Result Content PduError) → body_reading Unacknowledged (octet % 2 == 1) p ≡ r → IsFew (um_view (indicator_of octet) r)
    go (Err e) is = tt
    go (Ok c) is = content_read Unacknowledged (octet % 2 == 1) p c 124 (omega arith) is
