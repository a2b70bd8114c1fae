-- Half octets of octets.
use Rattle.std.proofs.Common.{◌≡◌, ◌+◌, ◌*◌, ◌/◌, ◌%◌, ◌<◌, ℕ, zero, suc, List, [], ◌∷◌, length, set, get_or, arith, refl, ap}
use Rattle.dch_rlcpdu.specs.Halves.{halves}

pub length-halves : (xs : List ℕ) → length (halves xs) ≡ 2 * length xs
length-halves [] = refl
length-halves (x ∷ xs) = omega (arith, length-halves xs)

pub half_even : (xs : List ℕ) (n : ℕ) → n % 2 ≡ 0 → get_or xs (n / 2) 0 / 16 ≡ get_or (halves xs) n 0
half_even [] n even = refl
half_even (x ∷ xs) zero even = refl
half_even (x ∷ xs) (suc zero) even = absurd (omega arith)
half_even (x ∷ xs) (suc (suc n)) even =
    let k : suc (suc n) / 2 ≡ suc (n / 2) = omega arith in
    rw k (half_even xs n (omega arith))

pub half_odd : (xs : List ℕ) (n : ℕ) → n % 2 ≡ 1 → get_or xs (n / 2) 0 % 16 ≡ get_or (halves xs) n 0
half_odd [] n odd = refl
half_odd (x ∷ xs) zero odd = absurd (omega arith)
half_odd (x ∷ xs) (suc zero) odd = refl
half_odd (x ∷ xs) (suc (suc n)) odd =
    let k : suc (suc n) / 2 ≡ suc (n / 2) = omega arith in
    rw k (half_odd xs n (omega arith))

-- a half octet that is written
pub set_even : (xs : List ℕ) (n v : ℕ) → n % 2 ≡ 0 → v < 16 → halves (set xs (n / 2) (16 * v + get_or xs (n / 2) 0 % 16)) ≡ set (halves xs) n v
set_even [] n v even small = refl
set_even (x ∷ xs) zero v even small =
    let high : (16 * v + x % 16) / 16 ≡ v = omega arith in
    let low : (16 * v + x % 16) % 16 ≡ x % 16 = omega arith in
    rw (high, low) refl
set_even (x ∷ xs) (suc zero) v even small = absurd (omega arith)
set_even (x ∷ xs) (suc (suc n)) v even small =
    let k : suc (suc n) / 2 ≡ suc (n / 2) = omega arith in
    rw k (ap (λ rest. x / 16 ∷ x % 16 ∷ rest) (set_even xs n v (omega arith) small))

pub set_odd : (xs : List ℕ) (n v : ℕ) → n % 2 ≡ 1 → v < 16 → halves (set xs (n / 2) (get_or xs (n / 2) 0 / 16 * 16 + v)) ≡ set (halves xs) n v
set_odd [] n v odd small = refl
set_odd (x ∷ xs) zero v odd small = absurd (omega arith)
set_odd (x ∷ xs) (suc zero) v odd small =
    let high : (x / 16 * 16 + v) / 16 ≡ x / 16 = omega arith in
    let low : (x / 16 * 16 + v) % 16 ≡ v = omega arith in
    rw (high, low) refl
set_odd (x ∷ xs) (suc (suc n)) v odd small =
    let k : suc (suc n) / 2 ≡ suc (n / 2) = omega arith in
    rw k (ap (λ rest. x / 16 ∷ x % 16 ∷ rest) (set_odd xs n v (omega arith) small))
