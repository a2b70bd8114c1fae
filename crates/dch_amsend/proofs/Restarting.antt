-- What is kept when a sender begins anew.
use Rattle.std.proofs.Common.{◌≡◌, ◌+◌, ◌-◌, ◌<◌, ◌≤◌, ℕ, zero, suc, List, [], ◌∷◌, ◌++◌, Bool, true, false, cond, length, get_or, drop, arith, refl, sym, ap, ◌∙◌, subst, ⊎_elim, length-append, length-drop}
use Rattle.std.specs.Prelude.{◌||◌, nat_lt}
use Rattle.std.proofs.lemmas.Bool.{cases_lt, le-ltb, lt-ltb, ltb-true}
use Rattle.std.proofs.lemmas.List.{drop-drop, drop_at}
use Rattle.dch_am.specs.Bodies.{Reading, TxQueue, ends, is_empty, read_bodies}
use Rattle.dch_am.specs.Cuts.{Fits, IsCut, empty_reading, unread}
use Rattle.dch_am.specs.Restart.{begun, restarted_sender, whole_of}
use Rattle.dch_am.specs.Sender.{Sender}
use Rattle.dch_am.proofs.Restarting.{kept_is}
use Rattle.dch_txbuf.specs.Cuts.{IsStart, first_of, trimmed}
use Rattle.dch_txbuf.proofs.Cutting.{trimmed_none}
use Rattle.dch_amsend.specs.BufferStanding.{BufferStands}
use Rattle.dch_amsend.specs.DiscardStanding.{released}
use Rattle.dch_amsend.specs.TxBuffer.{TxBuffer, begun_in, restarted_buffer}

-- SDUs without the first, where octets of it stand in a PDU
whole_is : (used : ℕ) (us : List (List ℕ)) (part : List ℕ) (owed : Bool) → us ≡ cond owed (trimmed used us) (unread part false (trimmed used us)) → used ≤ length (first_of us) → Fits part owed (trimmed used us) → drop (cond (nat_lt 0 used) 1 0) us ≡ whole_of part (record { owed = owed; units = trimmed used us })
whole_is used [] part owed e few fits = none (nat_lt 0 used) (owed || is_empty part)
  where
    none : (b c : Bool) → drop {A = List ℕ} (cond b 1 0) [] ≡ cond c [] (drop 1 [])
    none true true = refl
    none true false = refl
    none false true = refl
    none false false = refl
whole_is used (u ∷ us) part true e few fits =
    let n : length u ≡ length u - used = ap (λ vs. length (first_of vs)) e ∙ length-drop used u in
    let none : used ≡ 0 = omega (arith, n, few) in
    ap (λ b. drop (cond b 1 0) (u ∷ us)) (le-ltb 0 used (omega (arith, none))) ∙ ap (λ k. drop k u ∷ us) (sym none)
whole_is used (u ∷ us) [] false e few fits =
    let n : length u ≡ length u - used = ap (λ vs. length (first_of vs)) e ∙ length-drop used u in
    let none : used ≡ 0 = omega (arith, n, few) in
    ap (λ b. drop (cond b 1 0) (u ∷ us)) (le-ltb 0 used (omega (arith, none))) ∙ ap (λ k. drop k u ∷ us) (sym none)
whole_is used (u ∷ us) (x ∷ xs) false e few fits =
    let n : length u ≡ length ((x ∷ xs) ++ drop used u) = ap (λ vs. length (first_of vs)) e in
    let some : 0 < used = omega (arith, n, length-append (x ∷ xs) (drop used u), length-drop used u, few) in
    ap (λ b. drop (cond b 1 0) (u ∷ us)) (lt-ltb 0 used some)

-- the SDUs from the place of the next PDU on are those that aren't read yet
behind_place : (d : ℕ) (w : TxBuffer) (s : Sender) → IsCut s.accepted s.unsent s.bodies → BufferStands d w s → drop w.start.sdu w.sdus ≡ cond s.unsent.owed s.unsent.units (unread (read_bodies empty_reading s.bodies).part false s.unsent.units)
behind_place d w s cut keeps =
    ap (λ us. drop w.start.sdu us) keeps.sdus
    ∙ (drop-drop w.start.sdu (released s) s.accepted
    ∙ (ap (λ us. drop (released s + w.start.sdu) us) (sym cut.goes.same)
    ∙ go s.unsent.owed (keeps.place ∙ ap (λ (q : TxQueue). ends s.bodies + cond q.owed 1 0) keeps.unsent)))
  where
    r : Reading
    r = read_bodies empty_reading s.bodies

    go : (owed : Bool) → released s + w.start.sdu ≡ ends s.bodies + cond owed 1 0 → drop (released s + w.start.sdu) (r.units ++ unread r.part owed s.unsent.units) ≡ cond owed s.unsent.units (unread r.part false s.unsent.units)
    go true e =
        let n : released s + w.start.sdu ≡ length r.units + 1 = omega (arith, e, cut.goes.count) in
        ap (λ k. drop k (r.units ++ r.part ∷ s.unsent.units)) n
        ∙ (sym (drop-drop 1 (length r.units) (r.units ++ r.part ∷ s.unsent.units)) ∙ ap (λ us. drop 1 us) (drop_at r.units (r.part ∷ s.unsent.units) (length r.units) refl))
    go false e =
        let n : released s + w.start.sdu ≡ length r.units = omega (arith, e, cut.goes.count) in
        ap (λ k. drop k (r.units ++ unread r.part false s.unsent.units)) n ∙ drop_at r.units (unread r.part false s.unsent.units) (length r.units) refl

first_at : (us : List (List ℕ)) (k : ℕ) → first_of (drop k us) ≡ get_or us k []
first_at [] zero = refl
first_at [] (suc k) = refl
first_at (u ∷ us) zero = refl
first_at (u ∷ us) (suc k) = first_at us k

-- the SDUs of which no octet was built
pub kept_are : (d : ℕ) (w : TxBuffer) (s : Sender) → IsCut s.accepted s.unsent s.bodies → BufferStands d w s → drop (begun_in w) w.sdus ≡ drop (begun s) s.accepted
kept_are d w s cut keeps =
    sym (drop-drop (cond (nat_lt 0 w.start.used) 1 0) w.start.sdu w.sdus)
    ∙ (whole_is w.start.used (drop w.start.sdu w.sdus) r.part s.unsent.owed behind (omega (arith, keeps.start.used, ap (λ (xs : List ℕ). length xs) (first_at w.sdus w.start.sdu))) (subst (Fits r.part s.unsent.owed) (sym units) cut.goes.fits)
    ∙ (ap (λ us. whole_of r.part (record { owed = s.unsent.owed; units = us })) units ∙ sym (kept_is s.accepted s.unsent s.bodies cut)))
  where
    r : Reading
    r = read_bodies empty_reading s.bodies

    units : trimmed w.start.used (drop w.start.sdu w.sdus) ≡ s.unsent.units
    units = ap (λ (q : TxQueue). q.units) keeps.unsent

    behind : drop w.start.sdu w.sdus ≡ cond s.unsent.owed (trimmed w.start.used (drop w.start.sdu w.sdus)) (unread r.part false (trimmed w.start.used (drop w.start.sdu w.sdus)))
    behind = behind_place d w s cut keeps ∙ ap (λ us. cond s.unsent.owed us (unread r.part false us)) (sym units)

pub restart_keeps : (d : ℕ) (w : TxBuffer) (s : Sender) → IsCut s.accepted s.unsent s.bodies → BufferStands d w s → BufferStands d (restarted_buffer w) (restarted_sender s)
restart_keeps d w s cut keeps = record {
  size = keeps.size;
  from = keeps.from;
  start = record { sdu = omega arith; used = omega arith };
  sdus = kept_are d w s cut keeps;
  freed = refl;
  unsent = ap (λ us. record { owed = false; units = us }) (trimmed_none (drop (begun_in w) w.sdus) ∙ kept_are d w s cut keeps);
  place = refl;
  small = omega arith;
}

-- as many SDUs as have an octet in a PDU are there
pub begun_few : (w : TxBuffer) → IsStart w.sdus w.start → begun_in w ≤ length w.sdus
begun_few w is = go (nat_lt 0 w.start.used) refl
  where
    past : (us : List (List ℕ)) (k : ℕ) → length us ≤ k → length (get_or us k []) ≡ 0
    past [] zero l = refl
    past [] (suc k) l = refl
    past (u ∷ us) zero l = absurd (omega (arith, l))
    past (u ∷ us) (suc k) l = past us k (omega (arith, l))

    go : (b : Bool) → nat_lt 0 w.start.used ≡ b → w.start.sdu + cond b 1 0 ≤ length w.sdus
    go true e = ⊎_elim
        (λ (m : w.start.sdu < length w.sdus). omega (arith, m))
        (λ (m : length w.sdus ≤ w.start.sdu). absurd (omega (arith, is.used, past w.sdus w.start.sdu m, ltb-true 0 w.start.used e)))
        (cases_lt w.start.sdu (length w.sdus))
    go false e = omega (arith, is.sdu)
