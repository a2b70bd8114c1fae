-- Units that are handed up, and calls that change little.
use Rattle.std.proofs.Common.{◌≡◌, ◌≢◌, ◌+◌, ◌-◌, ◌<◌, ◌≤◌, ◌++◌, ℕ, suc, List, [], ◌∷◌, true, Option, Some, None, cond, length, drop, map, take, arith, refl, sym, ap, ◌∙◌, subst, ⊎_elim, length-drop, length-take}
use Rattle.std.specs.Prelude.{◌==◌, IfNone, nat_lt}
use Rattle.std.proofs.lemmas.Bool.{cases_lt, eqb-true, lt-ltb}
use Rattle.std.proofs.lemmas.Bool.Decides.{nat_tests}
use Rattle.std.proofs.lemmas.List.{take_all}
use Rattle.dch_rlcpdu.specs.declared.handed.Handed.{Handed}
use Rattle.dch_rlcpdu.specs.declared.handed.Handed.TheVariants.{Whole, Overlong}
use Rattle.dch_am.specs.declared.answers.MrwTaken.{MrwTaken}
use Rattle.dch_am.specs.declared.answers.MrwTaken.TheVariants.{Nothing, Obeyed, Old, Outside}
use Rattle.dch_am.specs.Receiver.{Receiver}
use Rattle.dch_sar.specs.Taking.{handed_of, written}
use Rattle.dch_amrecv.specs.Holding.{Holding, after_move, after_unit, is_settled, with_mrw_ack}
use Rattle.dch_amrecv.specs.Standing.{Stands, given_after}
use Rattle.dch_amrecv.proofs.Events.{unit_stands}

-- none waits exactly where all were handed up
length-cut : (units : List (List ℕ)) → length (map (take 1501) units) ≡ length units
length-cut [] = refl
length-cut (u ∷ units) = ap suc (length-cut units)

pub settled_is : (h : Holding) (given : ℕ) (r : Receiver) → Stands h given r → is_settled h ≡ (given == length r.reading.units)
settled_is h given r s = same (length h.kept.units.waiting) (length r.reading.units) (ap length s.units.waiting ∙ (length-cut (drop given r.reading.units) ∙ length-drop given r.reading.units)) s.units.within
  where
    same : (n m : ℕ) → n ≡ m - given → given ≤ m → (n == 0) ≡ (given == m)
    same n m e le = grind (arith, nat_tests)

no_units : (us : List (List ℕ)) → (length us == 0) ≡ true → us ≡ []
no_units [] e = refl
no_units (u ∷ us) e = absurd (omega (arith, eqb-true (length (u ∷ us)) 0 e))

pub none_waits : (h : Holding) → is_settled h ≡ true → h.kept.units.waiting ≡ []
none_waits h e = no_units h.kept.units.waiting e

-- a unit of more than 1,500 octets is overlong whether all of it is kept or 1,501 octets
cut_length : (u : List ℕ) → nat_lt 1500 (length (take 1501 u)) ≡ nat_lt 1500 (length u)
cut_length u = ⊎_elim
    (λ (l : 1500 < length u). lt-ltb 1500 (length (take 1501 u)) (omega (arith, l, length-take 1501 u)) ∙ sym (lt-ltb 1500 (length u) l))
    (λ (l : length u ≤ 1500). ap (λ xs. nat_lt 1500 (length xs)) (take_all 1501 u (omega arith)))
    (cases_lt 1500 (length u))

pub handed_cut : (us : List (List ℕ)) → handed_of (map (take 1501) us) ≡ handed_of us
handed_cut [] = refl
handed_cut (u ∷ us) = ⊎_elim
    (λ (l : 1500 < length u). ap (λ b. Some (cond b Overlong (Whole (length (take 1501 u))))) (cut_length u ∙ lt-ltb 1500 (length u) l) ∙ ap (λ b. Some (cond b Overlong (Whole (length u)))) (sym (lt-ltb 1500 (length u) l)))
    (λ (l : length u ≤ 1500). ap (λ xs. Some (cond (nat_lt 1500 (length xs)) Overlong (Whole (length xs)))) (take_all 1501 u (omega arith)))
    (cases_lt 1500 (length u))

pub written_cut : (us : List (List ℕ)) (out : List ℕ) → written (map (take 1501) us) out ≡ written us out
written_cut [] out = refl
written_cut (u ∷ us) out = ⊎_elim
    (λ (l : 1500 < length u). ap (λ b. cond b out (take 1501 u ++ drop (length (take 1501 u)) out)) (cut_length u ∙ lt-ltb 1500 (length u) l) ∙ ap (λ b. cond b out (u ++ drop (length u) out)) (sym (lt-ltb 1500 (length u) l)))
    (λ (l : length u ≤ 1500). ap (λ xs. cond (nat_lt 1500 (length xs)) out (xs ++ drop (length xs) out)) (take_all 1501 u (omega arith)))
    (cases_lt 1500 (length u))

-- where none waits nothing changes
pub none_same : (h now : Holding) (answer : Option Handed) → answer ≡ handed_of h.kept.units.waiting → now ≡ after_unit h → IfNone answer (now ≡ h)
none_same h now answer e is = subst (λ x. IfNone x (now ≡ h)) (sym e) (either h.kept.units.waiting refl)
  where
    either : (us : List (List ℕ)) → h.kept.units.waiting ≡ us → IfNone (handed_of us) (now ≡ h)
    either [] none = is ∙ (ap (λ ws. record h { kept = record h.kept { units = record { waiting = drop 1 ws; part = h.kept.units.part } } }) none ∙ ap (λ ws. record h { kept = record h.kept { units = record { waiting = ws; part = h.kept.units.part } } }) (sym none))
    either (u ∷ us) some = tt

pub next_stands : (h now : Holding) (given : ℕ) (r : Receiver) (answer : Option Handed) → answer ≡ handed_of h.kept.units.waiting → now ≡ after_unit h → IfNone answer (now ≡ h) → Stands h given r → Stands now (given_after answer given) r
next_stands h now given r answer e is none s = either h.kept.units.waiting refl answer e none
  where
    either : (us : List (List ℕ)) → h.kept.units.waiting ≡ us → (x : Option Handed) → x ≡ handed_of us → IfNone x (now ≡ h) → Stands now (given_after x given) r
    either us w None e n = subst (λ g. Stands g given r) (sym n) s
    either [] w (Some x) e n = absurd (cc)
    either (u ∷ us) w (Some x) e n = subst (λ g. Stands g (given + 1) r) (sym is) (unit_stands h given r (omega (arith, ap length w)) s)

-- a status whose MRW isn't obeyed
pub old_same : (h : Holding) (sn n : ℕ) (answer : MrwTaken) → answer ≡ Old → after_move answer sn n h ≡ with_mrw_ack (after_move answer sn n h).ack h
old_same h sn n answer e = subst (λ x. after_move x sn n h ≡ with_mrw_ack (after_move x sn n h).ack h) (sym e) refl

pub refused_same : (h : Holding) (sn n : ℕ) (answer : MrwTaken) → answer ≢ Obeyed → answer ≢ Old → after_move answer sn n h ≡ h
refused_same h sn n Obeyed a b = absurd (a refl)
refused_same h sn n Old a b = absurd (b refl)
refused_same h sn n (Outside i) a b = refl
refused_same h sn n Nothing a b = refl
