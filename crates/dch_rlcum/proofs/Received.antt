-- A receiver of a list of PDUs.
use Rattle.std.proofs.Common.{◌≡◌, ◌+◌, ◌-◌, ◌≤◌, ◌++◌, ℕ, List, [], ◌∷◌, Bool, true, false, Option, None, cond, length, drop, arith, refl, sym, ap, ap₂, ◌∙◌, subst, append_assoc, length-append, length-drop}
use Rattle.std.specs.Prelude.{◌==◌}
use Rattle.std.proofs.lemmas.Bool.{eqb-true}
use Rattle.std.proofs.lemmas.Bool.Decides.{nat_tests}
use Rattle.std.proofs.lemmas.List.{append-nil, drop-drop}
use Rattle.dch_rlcpdu.specs.declared.handed.Handed.{Handed}
use Rattle.dch_rlcpdu.specs.declared.um.UmView.{UmView}
use Rattle.dch_rlcum.specs.Handing.{Sent, all_handed, handed_up, view_of}
use Rattle.dch_rlcum.specs.Receiving.{Receiving, after_pdu, after_unit, handed_of, is_settled, opened}
use Rattle.dch_rlcum.specs.Received.{IsReceiverOf, arrived_from, handed_after, received, received_from, units_from, units_in}

-- one PDU more
received-more : (r : Receiving) (ps : List UmView) (p : UmView) → received_from r (ps ++ p ∷ []) ≡ all_handed (after_pdu p (received_from r ps))
received-more r [] p = refl
received-more r (q ∷ ps) p = received-more (all_handed (after_pdu q r)) ps p

units-more : (r : Receiving) (ps : List UmView) (p : UmView) → units_from r (ps ++ p ∷ []) ≡ units_from r ps ++ (after_pdu p (received_from r ps)).waiting
units-more r [] p = append-nil (after_pdu p r).waiting
units-more r (q ∷ ps) p = ap (λ us. (after_pdu q r).waiting ++ us) (units-more (all_handed (after_pdu q r)) ps p) ∙ sym (append_assoc (after_pdu q r).waiting (units_from (all_handed (after_pdu q r)) ps) (after_pdu p (received_from (all_handed (after_pdu q r)) ps)).waiting)

none_waits : (r : Receiving) (ps : List UmView) → r.waiting ≡ [] → (received_from r ps).waiting ≡ []
none_waits r [] e = e
none_waits r (p ∷ ps) e = none_waits (all_handed (after_pdu p r)) ps refl

-- none waits exactly where all were handed up
pub settled_is : (pdus : List UmView) (handed : ℕ) (r : Receiving) → IsReceiverOf pdus handed r → is_settled r ≡ (handed == length (units_in pdus))
settled_is pdus handed r is =
    let count : length r.waiting ≡ length (units_in pdus) - handed = ap length is.waiting ∙ length-drop handed (units_in pdus) in
    same (length r.waiting) (length (units_in pdus)) count is.few
  where
    same : (n m : ℕ) → n ≡ m - handed → handed ≤ m → (n == 0) ≡ (handed == m)
    same n m e le = grind (arith, nat_tests)

no_units : (us : List (List ℕ)) → (length us == 0) ≡ true → us ≡ []
no_units [] e = refl
no_units (u ∷ us) e = absurd (omega (arith, eqb-true (length (u ∷ us)) 0 e))

drop_behind : (us vs : List (List ℕ)) → drop (length us) (us ++ vs) ≡ vs
drop_behind [] vs = refl
drop_behind (u ∷ us) vs = drop_behind us vs

-- a receiver with none that waits is the one that these PDUs make
settled_receiver : (pdus : List UmView) (handed : ℕ) (r : Receiving) → is_settled r ≡ true → IsReceiverOf pdus handed r → r ≡ received pdus
settled_receiver pdus handed r none is = fields r (received pdus) is.vr_us is.known is.part (no_units r.waiting none ∙ sym (none_waits opened pdus refl))
  where
    made : ℕ → Bool → List ℕ → List (List ℕ) → Receiving
    made vr_us known part waiting = record { vr_us = vr_us; known = known; part = part; waiting = waiting }

    fields : (a b : Receiving) → a.vr_us ≡ b.vr_us → a.known ≡ b.known → a.part ≡ b.part → a.waiting ≡ b.waiting → a ≡ b
    fields a b e k p w = ap₂ (λ x y. made x y a.part a.waiting) e k ∙ ap₂ (λ x y. made b.vr_us b.known x y) p w

pub receiver_more : (pdus : List UmView) (handed : ℕ) (r now : Receiving) (p : UmView) → is_settled r ≡ true → now ≡ after_pdu p r → IsReceiverOf pdus handed r → IsReceiverOf (pdus ++ p ∷ []) handed now
receiver_more pdus handed r now p none e is = subst (IsReceiverOf (pdus ++ p ∷ []) handed) (sym e) (record {
  few = omega (arith, is.few, ap length (units-more opened pdus p), length-append (units_in pdus) (after_pdu p (received pdus)).waiting);
  vr_us = ap (λ x. (after_pdu p x).vr_us) same ∙ ap (λ x. x.vr_us) (sym (received-more opened pdus p));
  known = ap (λ x. (after_pdu p x).known) same ∙ ap (λ x. x.known) (sym (received-more opened pdus p));
  part = ap (λ x. (after_pdu p x).part) same ∙ ap (λ x. x.part) (sym (received-more opened pdus p));
  waiting = ap (λ x. (after_pdu p x).waiting) same ∙ sym (ap (drop handed) (units-more opened pdus p) ∙ ap (λ k. drop k (units_in pdus ++ (after_pdu p (received pdus)).waiting)) all ∙ drop_behind (units_in pdus) (after_pdu p (received pdus)).waiting);
})
  where
    same : r ≡ received pdus
    same = settled_receiver pdus handed r none is

    all : handed ≡ length (units_in pdus)
    all = grind (arith, nat_tests, sym (settled_is pdus handed r is) ∙ none)

-- a unit is handed up
pub receiver_handed : (pdus : List UmView) (handed : ℕ) (r now : Receiving) (result : Option Handed) → result ≡ handed_of r.waiting → now ≡ after_unit r → IsReceiverOf pdus handed r → IsReceiverOf pdus (handed_after result handed) now
receiver_handed pdus handed r now result answer e is = subst (λ x. IsReceiverOf pdus (handed_after x handed) now) (sym answer) (subst (IsReceiverOf pdus (handed_after (handed_of r.waiting) handed)) (sym e) (either r.waiting refl))
  where
    count : length r.waiting ≡ length (units_in pdus) - handed
    count = ap length is.waiting ∙ length-drop handed (units_in pdus)

    either : (us : List (List ℕ)) → r.waiting ≡ us → IsReceiverOf pdus (handed_after (handed_of us) handed) (after_unit r)
    either [] none = record { few = is.few; vr_us = is.vr_us; known = is.known; part = is.part; waiting = ap (drop 1) none ∙ (sym none ∙ is.waiting) }
    either (u ∷ us) some = record {
      few = omega (arith, count, ap length some, is.few);
      vr_us = is.vr_us;
      known = is.known;
      part = is.part;
      waiting = ap (drop 1) is.waiting ∙ (drop-drop 1 handed (units_in pdus));
    }

-- where none waits nothing changes
pub none_handed : (r now : Receiving) → handed_of r.waiting ≡ None → now ≡ after_unit r → now ≡ r
none_handed r now none e = e ∙ either r.waiting refl none
  where
    either : (us : List (List ℕ)) → r.waiting ≡ us → handed_of us ≡ None → after_unit r ≡ r
    either [] is none = ap (λ ws. record r { waiting = drop 1 ws }) is ∙ ap (λ ws. record r { waiting = ws }) (sym is)
    either (u ∷ us) is none = absurd (cc)

-- what a list of PDUs that were sent hands up are the units of those that arrived
pub handed_units : (pdu : ℕ) (row : List ℕ) (k : ℕ) (r : Receiving) (xs : List Sent) → handed_up pdu row k r xs ≡ units_from r (arrived_from pdu row k xs)
handed_units pdu row k r [] = refl
handed_units pdu row k r (x ∷ xs) = either x.arrived (handed_units pdu row (k + 1) (all_handed (after_pdu (view_of pdu row k x.pdu) r)) xs) (handed_units pdu row (k + 1) r xs)
  where
    either : (b : Bool) → handed_up pdu row (k + 1) (all_handed (after_pdu (view_of pdu row k x.pdu) r)) xs ≡ units_from (all_handed (after_pdu (view_of pdu row k x.pdu) r)) (arrived_from pdu row (k + 1) xs) → handed_up pdu row (k + 1) r xs ≡ units_from r (arrived_from pdu row (k + 1) xs) → cond b ((after_pdu (view_of pdu row k x.pdu) r).waiting ++ handed_up pdu row (k + 1) (all_handed (after_pdu (view_of pdu row k x.pdu) r)) xs) (handed_up pdu row (k + 1) r xs) ≡ units_from r (cond b (view_of pdu row k x.pdu ∷ arrived_from pdu row (k + 1) xs) (arrived_from pdu row (k + 1) xs))
    either true there none_known = ap (λ us. (after_pdu (view_of pdu row k x.pdu) r).waiting ++ us) there
    either false there none_known = none_known

-- at opening
pub receiver_opened : IsReceiverOf [] 0 opened
receiver_opened = record { few = omega arith; vr_us = refl; known = refl; part = refl; waiting = refl }
