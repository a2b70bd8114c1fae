-- Legal sequences as numbers, which rise from each one to the next.
use Rattle.std.proofs.Common.{◌≡◌, ◌<◌, ◌≤◌, ◌+◌, ◌-◌, ◌*◌, ℕ, zero, suc, List, [], ◌∷◌, length, get_or, refl, ap, ◌∙◌, arith}
use Rattle.dch_collision.specs.Sequences.{IsBefore}

-- 128 to the power of a length
pub power : List ℕ → ℕ
power [] = 1
power (x ∷ xs) = 128 * power xs

-- the number whose digits a list gives
pub value : List ℕ → ℕ
value [] = 0
value (x ∷ xs) = x * power xs + value xs

-- each member is a digit
abbrev pub AreDigits : List ℕ → Type 0
AreDigits xs = (n : ℕ) → n < length xs → get_or xs n 0 < 128

tail_digits : (x : ℕ) (xs : List ℕ) → AreDigits (x ∷ xs) → AreDigits xs
tail_digits x xs digits n inside = digits (suc n) (omega arith)

times_less : (x most p : ℕ) → x < most → x * p + p ≤ most * p
times_less x zero p less = absurd (omega arith)
times_less zero (suc most) p less = grind arith
times_less (suc x) (suc most) p less = omega (arith, times_less x most p (omega arith))

pub value_less : (xs : List ℕ) → AreDigits xs → value xs < power xs
unfolding value power
value_less [] digits = omega arith
value_less (x ∷ xs) digits = omega (arith, value_less xs (tail_digits x xs digits), times_less x 128 (power xs) (digits 0 (omega arith)))

pub same_power : (xs ys : List ℕ) → length xs ≡ length ys → power xs ≡ power ys
unfolding power
same_power [] [] same = refl
same_power [] (y ∷ ys) same = absurd (omega arith)
same_power (x ∷ xs) [] same = absurd (omega arith)
same_power (x ∷ xs) (y ∷ ys) same = ap (λ p. 128 * p) (same_power xs ys (omega arith))

-- a list that comes before another of its length is a lesser number
less_at : (place : ℕ) (xs ys : List ℕ) → length xs ≡ length ys → AreDigits xs → place < length xs → ((n : ℕ) → n < place → get_or xs n 0 ≡ get_or ys n 0) → get_or xs place 0 < get_or ys place 0 → value xs < value ys
unfolding value
less_at place [] ys long digits inside same less = absurd (omega arith)
less_at place (x ∷ xs) [] long digits inside same less = absurd (omega arith)
less_at zero (x ∷ xs) (y ∷ ys) long digits inside same less =
    let here : x < y = less in
    omega (arith, value_less xs (tail_digits x xs digits), times_less x y (power xs) here, ap (λ p. y * p) (same_power xs ys (omega arith)))
less_at (suc place) (x ∷ xs) (y ∷ ys) long digits inside same less =
    let head : x ≡ y = same 0 (omega arith) in
    let rest : value xs < value ys = less_at place xs ys (omega arith) (tail_digits x xs digits) (omega arith) (λ n early. same (suc n) (omega arith)) less in
    let power_is : x * power xs ≡ y * power ys = ap (λ x. x * power xs) head ∙ ap (λ p. y * p) (same_power xs ys (omega arith)) in
    omega arith

pub before_less : (xs ys : List ℕ) → length xs ≡ length ys → AreDigits xs → IsBefore xs ys → value xs < value ys
before_less xs ys long digits before = less_at before.place xs ys long digits before.within before.same before.less

-- so the numbers that are left become fewer
pub rest_falls : (xs ys : List ℕ) → length xs ≡ length ys → AreDigits xs → AreDigits ys → IsBefore xs ys → power ys - value ys < power xs - value xs
rest_falls xs ys long digits next before = omega (arith, before_less xs ys long digits before, value_less ys next, same_power xs ys long)
