-- What a receiver of the acknowledged mode tells comes out of the bytes of what it holds and of what comes.
use Rattle.std.proofs.Common.{◌≡◌, ◌<◌, ◌≤◌, ◌+◌, ◌-◌, ◌*◌, ℕ, List, [], ◌∷◌, Bool, Option, Some, None, Ok, max, arith, refl, ap, sym}
use Rattle.std.proofs.lemmas.List.{append-nil}
use Rattle.dch_rlcpdu.specs.declared.am.AmView.{AmView}
use Rattle.dch_rlcpdu.specs.declared.am.AmView.TheVariants.{Payload, Status, Reset, ResetAck}
use Rattle.dch_rlcpdu.specs.Fields.{Field}
use Rattle.dch_am.specs.declared.answers.Taken.{Taken}
use Rattle.dch_am.specs.declared.answers.Taken.TheVariants.{Kept, Duplicate, Outside}
use Rattle.dch_am.specs.declared.answers.MrwTaken.{MrwTaken}
use Rattle.dch_am.specs.declared.answers.MrwTaken.TheVariants.{Nothing, Obeyed, Old, Outside as Beyond}
use Rattle.dch_am.specs.Bodies.{Body}
use Rattle.dch_am.specs.Contents.{body_in}
use Rattle.dch_am.specs.Entities.{pdu_of, receiver_by}
use Rattle.dch_am.specs.Moves.{after_control, after_move, after_move_in, move_in, obeyed_mrw, trimmed, with_ack, with_move}
use Rattle.dch_am.specs.Numbers.{ahead, top}
use Rattle.dch_am.specs.Receiver.{Receiver, after_pdu, vr_r, got, numbers, read_on, taken, with_pdu}
use Rattle.dch_am.specs.Rules.{Rules}
use Rattle.dch_amlaw.proofs.Hands.{passed_le}
use Rattle.dch_amlaw.specs.Bounded.{IsBoundedReceiver, body_octets}
use Rattle.dch_amlaw.proofs.Receivers.{IsLightView, grows, more_passed, near_by, one_more}
use Rattle.dch_steptext.specs.ReceiverBytes.{Takes, part_bytes, receiver_bytes, run_bytes}
use Rattle.dch_steptext.proofs.PieceBytes.{GoesOn, run_on}
use Rattle.dch_steptext.proofs.PlaceBytes.{body_few, put_le, run_light, run_moves, run_split}

pub keeps : (window : ℕ) (r : Receiver) (bytes : ℕ) → Takes window r r bytes
keeps window r bytes = record { more = []; units = sym (append-nil r.reading.units); paid = omega arith }

-- a PDU is kept
kept : (rules : Rules) (r : Receiver) (ahead_by : ℕ) (poll : Bool) (body : Body) → ahead_by < rules.window → body_octets body ≤ 124 → IsBoundedReceiver rules.window r →
    Takes rules.window r (read_on (with_pdu rules r (vr_r r + ahead_by) poll body) (vr_r r)) 1116
kept rules r ahead_by poll body near light is =
    let k : ℕ = vr_r r + ahead_by in
    let now : Receiver = with_pdu rules r k poll body in
    let d : ℕ = vr_r now - vr_r r in
    let grow : vr_r r ≤ vr_r now = grows (got r) (got now) (one_more r.passed k (numbers r.arrived)) in
    let place : vr_r r + d ≡ vr_r now = omega arith in
    let on : GoesOn r.reading (read_on now (vr_r r)).reading (run_bytes now.arrived (vr_r r) d) = run_on r.trim now.arrived r.reading (vr_r r) d in
    let high : top (numbers now.arrived) ≤ vr_r r + rules.window = omega (arith, is.inside, near) in
    let advances : run_bytes now.arrived (vr_r r) d + run_bytes now.arrived (vr_r r + d) rules.window ≡ run_bytes now.arrived (vr_r r) rules.window = run_moves now.arrived (vr_r r) d rules.window high in
    let at : run_bytes now.arrived (vr_r r + d) rules.window ≡ run_bytes now.arrived (vr_r now) rules.window = ap (λ n. run_bytes now.arrived n rules.window) place in
    record {
      more = on.more;
      units = on.units;
      paid = omega (arith, on.paid, advances, at, put_le k body r.arrived (vr_r r) rules.window, body_few body, light);
    }

pub pdu_taken : (rules : Rules) (r : Receiver) (sn : ℕ) (poll : Bool) (body : Body) → body_octets body ≤ 124 → IsBoundedReceiver rules.window r → Takes rules.window r (after_pdu rules (taken rules r sn) r sn poll body) 1116
pdu_taken rules r sn poll body light is = go (taken rules r sn) refl
  where
    go : (t : Taken) → taken rules r sn ≡ t → Takes rules.window r (after_pdu rules t r sn poll body) 1116
    go Kept e = kept rules r (ahead (vr_r r) sn) poll body (near_by rules r sn e) light is
    go Duplicate e = record { more = []; units = sym (append-nil r.reading.units); paid = omega arith }
    go Outside e = keeps rules.window r 1116

-- an MRW is obeyed
obeyed : (window : ℕ) (r : Receiver) (ahead_by sn n : ℕ) → IsBoundedReceiver window r → Takes window r (with_ack (read_on (with_move r (vr_r r + ahead_by) n) (vr_r r + ahead_by)) sn n) 0
obeyed window r ahead_by sn n is =
    let k : ℕ = vr_r r + ahead_by in
    let now : Receiver = with_move r k n in
    let d : ℕ = vr_r now - k in
    let grow : vr_r r ≤ vr_r now = grows (got r) (got now) (λ x h. more_passed r.passed (max r.passed k) (numbers r.arrived) x (omega arith) h) in
    let reach : k ≤ vr_r now = omega (arith, passed_le now) in
    let place : vr_r r + (ahead_by + d) ≡ vr_r now = omega arith in
    let on : GoesOn (record { units = r.reading.units; part = [] }) (read_on now k).reading (run_bytes r.arrived k d) = run_on (trimmed r.trim k n) r.arrived (record { units = r.reading.units; part = [] }) k d in
    let advances : run_bytes r.arrived (vr_r r) (ahead_by + d) + run_bytes r.arrived (vr_r r + (ahead_by + d)) window ≡ run_bytes r.arrived (vr_r r) window = run_moves r.arrived (vr_r r) (ahead_by + d) window is.inside in
    let at : run_bytes r.arrived (vr_r r + (ahead_by + d)) window ≡ run_bytes r.arrived (vr_r now) window = ap (λ m. run_bytes r.arrived m window) place in
    record {
      more = on.more;
      units = on.units;
      paid = omega (arith, on.paid, advances, at, run_split r.arrived (vr_r r) ahead_by d);
    }

pub move_taken : (window : ℕ) (r : Receiver) (t : MrwTaken) (sn n : ℕ) → IsBoundedReceiver window r → Takes window r (after_move t r sn n) 0
move_taken window r Obeyed sn n is = obeyed window r (ahead (vr_r r) sn) sn n is
move_taken window r Old sn n is = record { more = []; units = sym (append-nil r.reading.units); paid = omega arith }
move_taken window r (Beyond i) sn n is = keeps window r 0
move_taken window r Nothing sn n is = keeps window r 0

pub control_taken : (rules : Rules) (r : Receiver) (fields : List Field) → IsBoundedReceiver rules.window r → Takes rules.window r (after_control rules r fields) 0
control_taken rules r fields is = go (move_in fields)
  where
    go : (o : Option (ℕ × ℕ)) → Takes rules.window r (after_move_in rules r o) 0
    go None = keeps rules.window r 0
    go (Some p) = move_taken rules.window r (obeyed_mrw rules r p.0) p.0 p.1 is

-- a PDU that was read comes
pub view_taken : (rules : Rules) (r : Receiver) (view : AmView) → IsLightView (Ok view) → IsBoundedReceiver rules.window r → Takes rules.window r (receiver_by rules (pdu_of view) r) 1116
view_taken rules r (Payload sn poll c piggyback) light is = pdu_taken rules r sn poll (body_in c) light is
view_taken rules r (Status fields) light is =
    let t : Takes rules.window r (after_control rules r fields) 0 = control_taken rules r fields is in
    record { more = t.more; units = t.units; paid = omega (arith, t.paid) }
view_taken rules r (Reset rsn hfni) light is = keeps rules.window r 1116
view_taken rules r (ResetAck rsn hfni) light is = keeps rules.window r 1116

-- how much can come of it
pub receiver_most : (window : ℕ) (r : Receiver) → IsBoundedReceiver window r → receiver_bytes window r ≤ 3009 + window * 1116
receiver_most window r is = omega (arith, part_most r.reading.part, run_light r.arrived (vr_r r) window is.light)
  where
    part_most : (part : List ℕ) → part_bytes part ≤ 3009
    part_most [] = omega arith
    part_most (x ∷ xs) = omega arith
