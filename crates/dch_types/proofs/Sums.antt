-- Sums over the first of some numbers.
use Rattle.std.proofs.Common.{◌≡◌, ◌<◌, ◌≤◌, ◌+◌, ◌*◌, ℕ, zero, suc, refl, ap, ap₂, arith, add-one, inl, inr}
use Rattle.std.proofs.lemmas.Bool.{cases_lt}
use Rattle.dch_types.specs.Sums.{total}

pub total-zero : (w : ℕ → ℕ) → total w 0 ≡ 0
unfolding total
total-zero w = refl

pub total-more : (w : ℕ → ℕ) (n : ℕ) → total w (n + 1) ≡ total w n + w n
unfolding total
total-more w n = rw add-one refl

-- the sum of more numbers is more
pub total_up : (w : ℕ → ℕ) (m n : ℕ) → m ≤ n → total w m ≤ total w n
unfolding total
total_up w m zero order = let same : m ≡ 0 = omega arith in omega (arith, ap (total w) same)
total_up w m (suc n) order = elim (cases_lt n m) [
  | inl past ↦ let same : m ≡ suc n = omega arith in omega (arith, ap (total w) same)
  | inr before ↦ omega (arith, total_up w m n before)
]

-- a number with those before it is at most the whole
pub part_le : (w : ℕ → ℕ) (i n : ℕ) → i < n → total w i + w i ≤ total w n
part_le w i n inside = omega (arith, total-more w i, total_up w (i + 1) n (omega arith))

-- equal numbers have equal sums
pub total_same : (v w : ℕ → ℕ) (n : ℕ) → ((i : ℕ) → i < n → v i ≡ w i) → total v n ≡ total w n
unfolding total
total_same v w zero each = refl
total_same v w (suc n) each = ap₂ (λ a b. a + b) (total_same v w n (λ i less. each i (omega arith))) (each n (omega arith))

-- and smaller numbers smaller sums
pub total_le : (v w : ℕ → ℕ) (n : ℕ) → ((i : ℕ) → i < n → v i ≤ w i) → total v n ≤ total w n
unfolding total
total_le v w zero each = omega arith
total_le v w (suc n) each = omega (arith, total_le v w n (λ i less. each i (omega arith)), each n (omega arith))

pub total_none : (v : ℕ → ℕ) (n : ℕ) → ((i : ℕ) → v i ≡ 0) → total v n ≡ 0
unfolding total
total_none v zero each = refl
total_none v (suc n) each = omega (arith, total_none v n each, each n)

pub total_small : (v : ℕ → ℕ) (n most : ℕ) → ((i : ℕ) → v i ≤ most) → total v n ≤ n * most
unfolding total
total_small v zero most each = omega arith
total_small v (suc n) most each = omega (arith, total_small v n most each, each n)
