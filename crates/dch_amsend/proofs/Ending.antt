-- The SDUs that end in PDUs one after another, and where their length indicators are built.
use Rattle.std.proofs.Common.{◌≡◌, ◌+◌, ◌-◌, ◌<◌, ◌≤◌, ℕ, zero, suc, List, [], ◌∷◌, cond, ◌&&◌, length, take, add-one, arith, refl, sym, ap, ◌∙◌, subst}
use Rattle.std.specs.Prelude.{◌==◌, IfSome, Option, Some, None, nat_lt}
use Rattle.std.proofs.lemmas.Bool.{cond-true, cond-false, cond_both, lt-ltb, le-ltb, ltb-false}
use Rattle.dch_am.specs.Bodies.{Body, ends, ends_of}
use Rattle.dch_am.specs.Building.{body_at}
use Rattle.dch_am.specs.Discards.{place_from}

-- one PDU more
ends-suc : (bodies : List Body) (k : ℕ) → k < length bodies → ends (take (suc k) bodies) ≡ ends (take k bodies) + ends_of (body_at bodies k)
ends-suc [] k l = absurd (omega arith)
ends-suc (b ∷ bodies) zero l = omega arith
ends-suc (b ∷ bodies) (suc k) l = omega (arith, ends-suc bodies k (omega arith))

-- the same, with the place as code counts it
pub ends-step : (bodies : List Body) (k : ℕ) → k < length bodies → ends (take (k + 1) bodies) ≡ ends (take k bodies) + ends_of (body_at bodies k)
ends-step bodies k l = rw add-one (ends-suc bodies k l)

-- no PDU ends an SDU where there is none
ends-none : (a : ℕ) → ends (take a []) ≡ 0
ends-none zero = refl
ends-none (suc a) = refl

-- more PDUs end no fewer SDUs
pub ends_up : (bodies : List Body) (a b : ℕ) → a ≤ b → ends (take a bodies) ≤ ends (take b bodies)
ends_up [] a b l = omega (arith, ends-none a)
ends_up (x ∷ bodies) zero b l = omega arith
ends_up (x ∷ bodies) (suc a) zero l = absurd (omega arith)
ends_up (x ∷ bodies) (suc a) (suc b) l = omega (arith, ends_up bodies a b (omega arith))

-- the place of a length indicator
abbrev pub indicator_in : Body → ℕ → ℕ
indicator_in b j = cond (b.full && (j == 0)) 0 (j + 1)

-- the place of an SDU that ends in a PDU behind j others
pub place-at : (bodies : List Body) (m k j : ℕ) → k < length bodies → j < ends_of (body_at bodies k) → place_from bodies m (ends (take k bodies) + j) ≡ Some (m + k, indicator_in (body_at bodies k) j)
place-at [] m k j l e = absurd (omega arith)
place-at (b ∷ bodies) m zero j l e =
    let none : 0 + j ≡ j = omega arith in
    let same : m ≡ m + 0 = omega arith in
    subst (λ i. place_from (b ∷ bodies) m i ≡ Some (m + 0, indicator_in b j)) (sym none) (cond-true (nat_lt j (ends_of b)) (Some (m, indicator_in b j)) (place_from bodies (m + 1) (j - ends_of b)) (lt-ltb j (ends_of b) e) ∙ ap (λ k. Some (k, indicator_in b j)) same)
place-at (b ∷ bodies) m (suc k) j l e =
    let i : ℕ = ends (take (suc k) (b ∷ bodies)) + j in
    let rest : (ends_of b + ends (take k bodies) + j) - ends_of b ≡ ends (take k bodies) + j = omega arith in
    let number : (m + 1) + k ≡ m + suc k = omega arith in
    cond-false (nat_lt (ends_of b + ends (take k bodies) + j) (ends_of b)) (Some (m, indicator_in b (ends_of b + ends (take k bodies) + j))) (place_from bodies (m + 1) ((ends_of b + ends (take k bodies) + j) - ends_of b)) (le-ltb (ends_of b + ends (take k bodies) + j) (ends_of b) (omega arith))
    ∙ (ap (place_from bodies (m + 1)) rest ∙ (place-at bodies (m + 1) k j (omega arith) e ∙ ap (λ n. Some (n, indicator_in (body_at bodies k) j)) number))

-- past the last end there is none
pub place-past : (bodies : List Body) (m i : ℕ) → ends bodies ≤ i → place_from bodies m i ≡ None
place-past [] m i l = refl
place-past (b ∷ bodies) m i l = cond-false (nat_lt i (ends_of b)) (Some (m, indicator_in b i)) (place_from bodies (m + 1) (i - ends_of b)) (le-ltb i (ends_of b) (omega arith)) ∙ place-past bodies (m + 1) (i - ends_of b) (omega arith)

-- the SDUs of the first PDUs stand in these
pub place_low : (bodies : List Body) (m i g : ℕ) → i < ends (take g bodies) → IfSome (place_from bodies m i) (λ p. p.0 < m + g)
place_low [] m i zero l = absurd (omega arith)
place_low [] m i (suc g) l = absurd (omega arith)
place_low (b ∷ bodies) m i zero l = absurd (omega arith)
place_low (b ∷ bodies) m i (suc g) l = cond_both (nat_lt i (ends_of b)) (Some (m, indicator_in b i)) (place_from bodies (m + 1) (i - ends_of b)) (λ (p : Option (ℕ × ℕ)). IfSome p (λ q. q.0 < m + suc g)) (λ _. omega arith) (λ e. subst (λ n. IfSome (place_from bodies (m + 1) (i - ends_of b)) (λ q. q.0 < n)) (omega arith) (place_low bodies (m + 1) (i - ends_of b) g (omega (arith, ltb-false i (ends_of b) e))))
