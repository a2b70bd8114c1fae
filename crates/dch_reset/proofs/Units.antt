-- Units at some places, and that nothing is picked where nothing was built.
use Rattle.std.proofs.Common.{◌≡◌, ◌+◌, ◌-◌, ◌<◌, ◌≤◌, ℕ, zero, suc, List, [], ◌∷◌, ◌++◌, Bool, true, false, cond, ◌&&◌, length, take, arith, refl, sym, ap, ◌∙◌}
use Rattle.std.specs.Prelude.{nat_lt, nat_le}
use Rattle.std.proofs.lemmas.Bool.{lt-ltb, le-ltb, both_ways, cond_both, cond-false, cond-true, false_from_ne_true, or_from}
use Rattle.dch_am.specs.Bodies.{Body, ends}
use Rattle.dch_amlaw.specs.Pair.{in_span, picked}
use Rattle.dch_amlaw.proofs.Hands.{picked_none}
use Rattle.dch_reset.specs.Law.{those}

-- Without PDUs nothing is picked.
pub take_nothing : (n : ℕ) → ends (take n []) ≡ 0
take_nothing zero = refl
take_nothing (suc n) = refl

and_never : (b : Bool) → (b && false) ≡ false
and_never true = refl
and_never false = refl

no_span : (spans : List (ℕ × ℕ)) (i : ℕ) → in_span [] spans i ≡ false
no_span [] i = refl
no_span (p ∷ ps) i = or_from _ _ (ap (λ m. nat_le p.1 i && nat_lt i m) (take_nothing p.0) ∙ ap (λ b. nat_le p.1 i && b) (le-ltb i 0 (omega arith)) ∙ and_never (nat_le p.1 i)) (no_span ps i)

pub none_picked : (spans : List (ℕ × ℕ)) (us : List (List ℕ)) → picked [] spans 0 us ≡ []
none_picked spans us = picked_none [] spans 0 0 us (λ j h. absurd (both_ways _ (no_span spans j) h)) (omega arith)

-- Units at some places.
pub picked_those : (bodies : List Body) (spans : List (ℕ × ℕ)) (i : ℕ) (us : List (List ℕ)) → picked bodies spans i us ≡ those (in_span bodies spans) i us
picked_those bodies spans i [] = refl
picked_those bodies spans i (u ∷ us) = ap (λ vs. cond (in_span bodies spans i) (u ∷ vs) vs) (picked_those bodies spans (i + 1) us)

-- none is at a place from the bound on
pub those_none : (at : ℕ → Bool) (bound i : ℕ) (us : List (List ℕ)) → ((j : ℕ) → at j ≡ true → j < bound) → bound ≤ i → those at i us ≡ []
those_none at bound i [] all le = refl
those_none at bound i (u ∷ us) all le = cond-false (at i) _ _ (false_from_ne_true _ (λ (h : at i ≡ true). omega (arith, all i h))) ∙ those_none at bound (i + 1) us all (omega arith)

pub those_push : (at : ℕ → Bool) (bound i : ℕ) (us more : List (List ℕ)) → ((j : ℕ) → at j ≡ true → j < bound) → bound ≤ i + length us → those at i (us ++ more) ≡ those at i us
those_push at bound i [] more all le = those_none at bound i more all (omega arith)
those_push at bound i (u ∷ us) more all le = ap (λ vs. cond (at i) (u ∷ vs) vs) (those_push at bound (i + 1) us more all (omega arith))

-- the same test where it counts
pub those_same : (at now : ℕ → Bool) (i j : ℕ) (us : List (List ℕ)) → ((k : ℕ) → k < length us → at (i + k) ≡ now (j + k)) → those at i us ≡ those now j us
those_same at now i j [] same = refl
those_same at now i j (u ∷ us) same =
    let e : i + 0 ≡ i = omega arith in
    let f : j + 0 ≡ j = omega arith in
    let here : at i ≡ now j = sym (ap at e) ∙ same 0 (omega arith) ∙ ap now f in
    ap (λ b. cond b (u ∷ those at (i + 1) us) (those at (i + 1) us)) here
    ∙ ap (λ vs. cond (now j) (u ∷ vs) vs) (those_same at now (i + 1) (j + 1) us (λ k l. let p : i + 1 + k ≡ i + suc k = omega arith in let q : j + 1 + k ≡ j + suc k = omega arith in ap at p ∙ same (suc k) (omega arith) ∙ sym (ap now q)))

-- two lists, one after the other
pub joint : (ℕ → Bool) → ℕ → (ℕ → Bool) → ℕ → Bool
joint first bound second i = cond (nat_lt i bound) (first i) (second (i - bound))

pub joint_low : (first : ℕ → Bool) (bound : ℕ) (second : ℕ → Bool) (i : ℕ) → i < bound → joint first bound second i ≡ first i
unfolding joint
joint_low first bound second i l = cond-true (nat_lt i bound) _ _ (lt-ltb i bound l)

pub joint_high : (first : ℕ → Bool) (bound : ℕ) (second : ℕ → Bool) (i : ℕ) → bound ≤ i → joint first bound second i ≡ second (i - bound)
unfolding joint
joint_high first bound second i l = cond-false (nat_lt i bound) _ _ (le-ltb i bound l)

those-append : (at : ℕ → Bool) (i : ℕ) (xs ys : List (List ℕ)) → those at i (xs ++ ys) ≡ those at i xs ++ those at (i + length xs) ys
those-append at i [] ys = let e : i ≡ i + 0 = omega arith in ap (λ m. those at m ys) e
those-append at i (x ∷ xs) ys =
    let e : i + 1 + length xs ≡ i + suc (length xs) = omega arith in
    ap (λ vs. cond (at i) (x ∷ vs) vs) (those-append at (i + 1) xs ys ∙ ap (λ m. those at (i + 1) xs ++ those at m ys) e) ∙ cond_both (at i) (x ∷ (those at (i + 1) xs ++ those at (i + suc (length xs)) ys)) (those at (i + 1) xs ++ those at (i + suc (length xs)) ys) (λ (zs : List (List ℕ)). zs ≡ cond (at i) (x ∷ those at (i + 1) xs) (those at (i + 1) xs) ++ those at (i + suc (length xs)) ys) (λ h. sym (ap (λ b. cond b (x ∷ those at (i + 1) xs) (those at (i + 1) xs) ++ those at (i + suc (length xs)) ys) h)) (λ h. sym (ap (λ b. cond b (x ∷ those at (i + 1) xs) (those at (i + 1) xs) ++ those at (i + suc (length xs)) ys) h))

pub those_joint : (first second : ℕ → Bool) (xs ys : List (List ℕ)) → those (joint first (length xs) second) 0 (xs ++ ys) ≡ those first 0 xs ++ those second 0 ys
those_joint first second xs ys =
    those-append (joint first (length xs) second) 0 xs ys
    ∙ ap (λ us. us ++ those (joint first (length xs) second) (0 + length xs) ys) (those_same (joint first (length xs) second) first 0 0 xs (λ k l. let e : 0 + k ≡ k = omega arith in rw e (joint_low first (length xs) second k l)))
    ∙ ap (λ us. those first 0 xs ++ us) (those_same (joint first (length xs) second) second (0 + length xs) 0 ys (λ k l. joint_high first (length xs) second (0 + length xs + k) (omega arith) ∙ ap second (omega arith)))
