-- A receiver of the acknowledged mode stays limited, whatever comes.
use Rattle.std.proofs.Common.{◌≡◌, ◌<◌, ◌≤◌, ◌+◌, ◌-◌, ◌∙◌, ◌++◌, ◌||◌, ℕ, List, ◌∷◌, Bool, true, false, cond, Option, Some, None, Result, Ok, Err, max, arith, refl, sym, ⊎_elim}
use Rattle.std.specs.Prelude.{nat_le}
use Rattle.std.proofs.lemmas.Bool.{leb-false, lt-ltb, ltb-true, or_cases, or_left, or_right}
use Rattle.std.proofs.lemmas.List.Elements.{All-cons, All-nil}
use Rattle.dch_rlcpdu.specs.declared.am.AmView.{AmView}
use Rattle.dch_rlcpdu.specs.declared.am.AmView.TheVariants.{Payload, Status, Reset, ResetAck}
use Rattle.dch_rlcpdu.specs.declared.handed.PduError.{PduError}
use Rattle.dch_rlcpdu.specs.Fields.{Field}
use Rattle.dch_am.specs.declared.answers.Taken.{Taken}
use Rattle.dch_am.specs.declared.answers.Taken.TheVariants.{Kept, Duplicate, Outside}
use Rattle.dch_am.specs.declared.answers.MrwTaken.{MrwTaken}
use Rattle.dch_am.specs.declared.answers.MrwTaken.TheVariants.{Nothing, Obeyed, Old, Outside as Beyond}
use Rattle.dch_am.specs.Bodies.{Body}
use Rattle.dch_am.specs.Contents.{body_in}
use Rattle.dch_am.specs.Entities.{pdu_of, receiver_by}
use Rattle.dch_am.specs.Moves.{after_control, after_move, after_move_in, move_in, obeyed_mrw, with_ack, with_move}
use Rattle.dch_am.specs.Numbers.{ahead, below, has, run_of, top}
use Rattle.dch_am.specs.Receiver.{Receiver, after_pdu, vr_r, got, numbers, opened_receiver, read_on, taken, with_pdu}
use Rattle.dch_am.specs.Rules.{Rules}
use Rattle.dch_am.proofs.Lists.{Is, has-append, has-below, run_grows, top_above, top_least}
use Rattle.dch_amlaw.specs.Bounded.{IsBoundedReceiver, IsLight, body_octets}

-- more numbers are there
pub grows : (old new : List ℕ) → ((x : ℕ) → Is x old → Is x new) → run_of old (top old) ≤ run_of new (top new)
grows old new sub = run_grows old new (top old) (top new) (top_least old (top new) (λ x h. top_above new x (sub x h))) sub

pub one_more : (passed k : ℕ) (ns : List ℕ) (x : ℕ) → Is x (below passed ++ ns) → Is x (below passed ++ (k ∷ ns))
one_more passed k ns x h = has-append x (below passed) (k ∷ ns) ∙ ⊎_elim (λ q. or_left _ _ q) (λ q. or_right _ _ (or_right _ _ q)) (or_cases (has x (below passed)) (has x ns) (sym (has-append x (below passed) ns) ∙ h))

pub more_passed : (passed later : ℕ) (ns : List ℕ) (x : ℕ) → passed ≤ later → Is x (below passed ++ ns) → Is x (below later ++ ns)
more_passed passed later ns x le h = has-append x (below later) ns ∙ ⊎_elim (λ q. or_left _ _ (has-below x later ∙ lt-ltb x later (omega (arith, le, ltb-true x passed (sym (has-below x passed) ∙ q))))) (λ q. or_right _ _ q) (or_cases (has x (below passed)) (has x ns) (sym (has-append x (below passed) ns) ∙ h))

-- a PDU is kept
kept : (rules : Rules) (r : Receiver) (ahead_by : ℕ) (poll : Bool) (body : Body) → ahead_by < rules.window → body_octets body ≤ 124 → IsBoundedReceiver rules.window r →
    IsBoundedReceiver rules.window (read_on (with_pdu rules r (vr_r r + ahead_by) poll body) (vr_r r))
kept rules r ahead_by poll body near light is =
    let k : ℕ = vr_r r + ahead_by in
    let now : Receiver = with_pdu rules r k poll body in
    let grow : vr_r r ≤ vr_r now = grows (got r) (got now) (one_more r.passed k (numbers r.arrived)) in
    record { light = All-cons IsLight (k, body) r.arrived light is.light; inside = omega (arith, is.inside, near, grow) }

pub near_by : (rules : Rules) (r : Receiver) (sn : ℕ) → taken rules r sn ≡ Kept → ahead (vr_r r) sn < rules.window
near_by rules r sn is = go (nat_le (4096 - rules.window) (ahead (vr_r r) sn) || has (vr_r r + ahead (vr_r r) sn) (got r)) (nat_le rules.window (ahead (vr_r r) sn)) refl is
  where
    go : (c e : Bool) → nat_le rules.window (ahead (vr_r r) sn) ≡ e → cond c Duplicate (cond e Outside Kept) ≡ Kept → ahead (vr_r r) sn < rules.window
    go true e h q = absurd (cc)
    go false true h q = absurd (cc)
    go false false h q = leb-false _ _ h

pdu_bounded : (rules : Rules) (r : Receiver) (sn : ℕ) (poll : Bool) (body : Body) → body_octets body ≤ 124 → IsBoundedReceiver rules.window r → IsBoundedReceiver rules.window (after_pdu rules (taken rules r sn) r sn poll body)
pdu_bounded rules r sn poll body light is = go (taken rules r sn) refl
  where
    go : (t : Taken) → taken rules r sn ≡ t → IsBoundedReceiver rules.window (after_pdu rules t r sn poll body)
    go Kept e = kept rules r (ahead (vr_r r) sn) poll body (near_by rules r sn e) light is
    go Duplicate e = record { light = is.light; inside = is.inside }
    go Outside e = is

-- an MRW is obeyed
obeyed : (window : ℕ) (r : Receiver) (ahead_by sn n : ℕ) → IsBoundedReceiver window r → IsBoundedReceiver window (with_ack (read_on (with_move r (vr_r r + ahead_by) n) (vr_r r + ahead_by)) sn n)
obeyed window r ahead_by sn n is =
    let k : ℕ = vr_r r + ahead_by in
    let now : Receiver = with_move r k n in
    let grow : vr_r r ≤ vr_r now = grows (got r) (got now) (λ x h. more_passed r.passed (max r.passed k) (numbers r.arrived) x (omega arith) h) in
    record { light = is.light; inside = omega (arith, is.inside, grow) }

move_bounded : (window : ℕ) (r : Receiver) (t : MrwTaken) (sn n : ℕ) → IsBoundedReceiver window r → IsBoundedReceiver window (after_move t r sn n)
move_bounded window r Obeyed sn n is = obeyed window r (ahead (vr_r r) sn) sn n is
move_bounded window r Old sn n is = record { light = is.light; inside = is.inside }
move_bounded window r (Beyond i) sn n is = is
move_bounded window r Nothing sn n is = is

control_bounded : (rules : Rules) (r : Receiver) (fields : List Field) → IsBoundedReceiver rules.window r → IsBoundedReceiver rules.window (after_control rules r fields)
control_bounded rules r fields is = go (move_in fields)
  where
    go : (o : Option (ℕ × ℕ)) → IsBoundedReceiver rules.window (after_move_in rules r o)
    go None = is
    go (Some p) = move_bounded rules.window r (obeyed_mrw rules r p.0) p.0 p.1 is

-- what a PDU holds is light
abbrev pub IsLightView : Result AmView PduError → Type 0
IsLightView (Ok (Payload sn poll c piggyback)) = body_octets (body_in c) ≤ 124
IsLightView (Ok (Status fields)) = Unit {0}
IsLightView (Ok (Reset rsn hfni)) = Unit {0}
IsLightView (Ok (ResetAck rsn hfni)) = Unit {0}
IsLightView (Err e) = Unit {0}

-- a PDU that was read comes
pub view_bounded : (rules : Rules) (r : Receiver) (view : AmView) → IsLightView (Ok view) → IsBoundedReceiver rules.window r → IsBoundedReceiver rules.window (receiver_by rules (pdu_of view) r)
view_bounded rules r (Payload sn poll c piggyback) light is = pdu_bounded rules r sn poll (body_in c) light is
view_bounded rules r (Status fields) light is = control_bounded rules r fields is
view_bounded rules r (Reset rsn hfni) light is = is
view_bounded rules r (ResetAck rsn hfni) light is = is

-- a receiver that was opened
pub receiver_opened : (rules : Rules) → IsBoundedReceiver rules.window (opened_receiver rules)
receiver_opened rules = record { light = All-nil IsLight; inside = omega arith }
