-- Counts since the last multiple of a rule.
use Rattle.std.proofs.Common.{◌≡◌, ◌+◌, ◌-◌, ◌*◌, ◌/◌, ◌%◌, ◌<◌, ◌≤◌, ℕ, zero, suc, cond, ◌&&◌, arith, refl, sym, ap, ◌∙◌, ⊎_elim}
use Rattle.std.specs.Prelude.{nat_lt, nat_le}
use Rattle.std.proofs.lemmas.Bool.{cases_lt, lt-ltb, le-ltb, le-leb, lt-leb}
use Rattle.std.proofs.Math.Nat.{add-div_right, add-mul-mod_self_right, div-eq_of_lt}
use Rattle.std.proofs.lemmas.Nat.{div-add-mod'}
use Rattle.std.proofs.Math.Nat.{mul-add-div_right}
use Rattle.dch_am.specs.Building.{passes}
use Rattle.dch_retx.specs.Polling.{counted, crosses}
use Rattle.dch_retx.specs.Standing.{left_of}

whole_none : (m x : ℕ) → 0 < m → nat_le m x ≡ nat_lt 0 (x / m)
whole_none m x some = ⊎_elim
    (λ (l : x < m). lt-leb m x l ∙ sym (ap (nat_lt 0) (div-eq_of_lt l) ∙ le-ltb 0 0 (omega arith)))
    (λ (l : m ≤ x). let e : x ≡ (x - m) + m = omega arith in le-leb m x l ∙ sym (ap (λ k. nat_lt 0 (k / m)) e ∙ (ap (nat_lt 0) (add-div_right (x - m) some) ∙ lt-ltb 0 ((x - m) / m + 1) (omega arith))))
    (cases_lt x m)

past : (q t : ℕ) → nat_lt q (q + t) ≡ nat_lt 0 t
past q t = ⊎_elim (λ (l : 0 < t). lt-ltb q (q + t) (omega arith) ∙ sym (lt-ltb 0 t l)) (λ (l : t ≤ 0). le-ltb q (q + t) (omega arith) ∙ sym (le-ltb 0 t l)) (cases_lt 0 t)

sum_is : (m b e : ℕ) → b + e ≡ b / m * m + (b % m + e)
sum_is m b e = omega (arith, div-add-mod' b m)

cross_is : (m b e : ℕ) → 0 < m → nat_le m (b % m + e) ≡ nat_lt (b / m) ((b + e) / m)
cross_is m b e some =
    whole_none m (b % m + e) some
    ∙ (sym (past (b / m) ((b % m + e) / m))
    ∙ ap (nat_lt (b / m)) (sym (ap (λ k. k / m) (sum_is m b e) ∙ mul-add-div_right some (b / m) (b % m + e))))

-- the count comes to the rule where the number passes a multiple
pub crosses_is : (rule b e : ℕ) → crosses rule (left_of rule b) e ≡ passes rule b (b + e)
crosses_is zero b e = refl
crosses_is (suc m) b e = ap (λ c. c && nat_le (suc m) (cond c (b % suc m) 0 + e)) (lt-ltb 0 (suc m) (omega arith)) ∙ (cross_is (suc m) b e (omega arith) ∙ sym (ap (λ c. c && nat_lt (b / suc m) ((b + e) / suc m)) (lt-ltb 0 (suc m) (omega arith))))

pub counted_is : (rule b e : ℕ) → counted rule (left_of rule b) e ≡ left_of rule (b + e)
counted_is zero b e = refl
counted_is (suc m) b e =
    ap (λ c. cond c ((cond c (b % suc m) 0 + e) % suc m) 0) (lt-ltb 0 (suc m) (omega arith))
    ∙ (sym (ap (λ k. k % suc m) (sum_is (suc m) b e ∙ omega arith) ∙ add-mul-mod_self_right (b % suc m + e) (b / suc m) (suc m))
    ∙ sym (ap (λ c. cond c ((b + e) % suc m) 0) (lt-ltb 0 (suc m) (omega arith))))
