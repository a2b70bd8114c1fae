-- Where the octets of a PDU in flight stand in the buffer.
use Rattle.std.proofs.Common.{◌≡◌, ◌+◌, ◌-◌, ◌<◌, ◌≤◌, ℕ, zero, suc, List, [], ◌∷◌, cond, length, get_or, take, drop, arith, sym, ap, ap₂, ◌∙◌, subst, length-drop}
use Rattle.std.specs.Prelude.{◌%◌}
use Rattle.std.proofs.lemmas.List.{drop-drop, get_or-drop}
use Rattle.dch_am.specs.Bodies.{Body, ends, ends_of}
use Rattle.dch_am.specs.Building.{body_at}
use Rattle.dch_am.specs.Sender.{Sender, held, vt_a, vt_s}
use Rattle.dch_am.specs.Short.{IsShort}
use Rattle.dch_am.proofs.Reading.{ends_split}
use Rattle.dch_txbuf.specs.declared.taken.Start.{Start}
use Rattle.dch_txbuf.specs.Cuts.{IsStart, IsThere, body_of, has_padding, left_at, trimmed}
use Rattle.dch_retx.specs.declared.sent_pdu.Extent.{Extent}
use Rattle.dch_retx.specs.declared.sent_pdu.SentPdu.{SentPdu}
use Rattle.dch_amsend.specs.BufferStanding.{HasBody, BufferStands, Takes, first_in, start_of}
use Rattle.dch_amsend.specs.DiscardStanding.{released}
use Rattle.dch_amsend.specs.TxBuffer.{IsHere, TxBuffer, body_in, start_in, taken_by}

-- ends in the first PDUs
pub ends_rise : (j k : ℕ) (bs : List Body) → j ≤ k → ends (take j bs) ≤ ends (take k bs)
ends_rise zero k bs l = omega arith
ends_rise (suc j) zero bs l = absurd (omega (arith, l))
ends_rise (suc j) (suc k) [] l = omega arith
ends_rise (suc j) (suc k) (b ∷ bs) l = omega (arith, ends_rise j k bs (omega (arith, l)))

pub ends_most : (k : ℕ) (bs : List Body) → ends (take k bs) ≤ ends bs
ends_most k bs = omega (arith, ends_split k bs)

pub ends_with : (k : ℕ) (bs : List Body) → k < length bs → ends (take k bs) + ends_of (body_at bs k) ≤ ends bs
ends_with k [] l = absurd (omega (arith, l))
ends_with zero (b ∷ bs) l = omega arith
ends_with (suc k) (b ∷ bs) l = omega (arith, ends_with k bs (omega (arith, l)))

full_ends : (b : Body) → cond b.full 1 0 ≤ ends_of b
full_ends b = omega arith

-- numbers of 16 bits that count from the same SDU
wrap_back : (first freed at start : ℕ) → at ≡ first % 65536 → start ≡ freed % 65536 → freed ≤ first → first ≤ freed + 65535 → (at + (65536 - start)) % 65536 ≡ first - freed
wrap_back first freed at start e f l m = omega (arith, e, f, l, m)

-- the same SDUs, without those that left
pub left_same : (first freed used : ℕ) (us : List (List ℕ)) → freed ≤ first → left_at (record { sdu = first - freed; used = used }) (drop freed us) ≡ left_at (record { sdu = first; used = used }) us
left_same first freed used us l = let e : freed + (first - freed) ≡ first = omega (arith, l) in ap (trimmed used) (drop-drop (first - freed) freed us ∙ ap (λ n. drop n us) e)

pub start_same : (first freed used : ℕ) (us : List (List ℕ)) → freed ≤ first → IsStart us (record { sdu = first; used = used }) → IsStart (drop freed us) (record { sdu = first - freed; used = used })
start_same first freed used us l is =
    let e : freed + (first - freed) ≡ first = omega (arith, l) in
    record {
      sdu = omega (arith, is.sdu, length-drop freed us);
      used = omega (arith, is.used, ap (λ (xs : List ℕ). length xs) (get_or-drop freed us (first - freed) []), ap (λ n. length (get_or us n [])) e);
    }

-- where a PDU in flight begins
pub record IsPlace (d : ℕ) (w : TxBuffer) (s : Sender) (k : ℕ) (x : Extent) : Type 0 where
  pub from : released s ≤ ends (take k s.bodies)
  pub place : (start_in w x).sdu ≡ first_in s k - released s
  pub most : first_in s k ≤ released s + w.start.sdu

pub place_is : (d : ℕ) (w : TxBuffer) (s : Sender) (k : ℕ) (x : Extent) → BufferStands d w s → x.sdu ≡ first_in s k % 65536 → vt_a s ≤ k → k < vt_s s → IsPlace d w s k x
place_is d w s k x keeps e low inside =
    let from : released s ≤ ends (take k s.bodies) = ends_rise (vt_a s) k s.bodies low in
    let most : first_in s k ≤ released s + w.start.sdu = omega (arith, keeps.place, ends_with k s.bodies inside, full_ends (body_at s.bodies k)) in
    record {
      from = from;
      place = wrap_back (first_in s k) (released s) x.sdu w.freed e keeps.freed (omega (arith, from)) (omega (arith, most, keeps.small));
      most = most;
    }

-- its octets are there
pub record IsWhole (w : TxBuffer) (f : SentPdu) (b : Body) : Type 0 where
  pub here : IsHere w f
  pub body : body_in w f ≡ b

pub here_is : (d : ℕ) (w : TxBuffer) (s : Sender) (k : ℕ) (f : SentPdu) → BufferStands d w s → Takes s k f.extent → HasBody d f (body_at s.bodies k) → vt_a s ≤ k → k < vt_s s → IsWhole w f (body_at s.bodies k)
here_is d w s k f keeps takes has low inside =
    let p = place_is d w s k f.extent keeps takes.sdu low inside in
    let start : start_in w f.extent ≡ record { sdu = first_in s k - released s; used = f.extent.used } = ap (λ n. record { sdu = n; used = f.extent.used }) p.place in
    let same : left_at (start_in w f.extent) w.sdus ≡ left_at (start_of s k f.extent) s.accepted = ap₂ (λ (a : Start) us. left_at a us) start keeps.sdus ∙ left_same (first_in s k) (released s) f.extent.used s.accepted (omega (arith, p.from)) in
    let body : body_in w f ≡ body_at s.bodies k = ap₂ (λ b us. body_of b (taken_by f.extent f.padded) us) has.full same ∙ takes.body in
    let size : w.size - 2 ≡ d = omega (arith, keeps.size) in
    record {
      here = record {
        start = subst (λ us. IsStart us (start_in w f.extent)) (sym keeps.sdus) (subst (λ (a : Start). IsStart (held s) a) (sym start) (start_same (first_in s k) (released s) f.extent.used s.accepted (omega (arith, p.from)) takes.start));
        there = subst (λ us. IsThere (taken_by f.extent f.padded) us) (sym same) (record { pieces = takes.there.pieces; rest = takes.there.rest });
        short = subst (λ n. IsShort n (body_in w f)) (sym size) (subst (λ b. IsShort d b) (sym body) has.short);
        padded = has.padded ∙ sym (ap₂ has_padding size body);
      };
      body = body;
    }
