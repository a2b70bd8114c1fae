-- How the number of changes grows, and what the copies of a prefix come to.
use Rattle.std.proofs.Common.{◌≡◌, ◌<◌, ◌≤◌, ◌+◌, ◌-◌, ◌*◌, ◌/◌, ◌^◌, ℕ, zero, suc, length, get_or, replicate, refl, ap, sym, ◌∙◌, arith, add_assoc, length-append, add-one, add-zero, inl, inr}
use Rattle.std.proofs.lemmas.Nat.{le-div, div_below}
use Rattle.std.proofs.Math.Nat.{div-mul-le_self, lt-div-mul-add, add-mul, one-mul, mul-add, lt_of_mul-lt-mul_right}
use Rattle.std.proofs.lemmas.List.{length-replicate, get_or-replicate, get_or_append_left, get_or-append_right}
use Rattle.std.proofs.lemmas.Bool.{cases_lt}
use Rattle.dch_frame.specs.declared.pattern.Steps.{Steps}
use Rattle.dch_frame.specs.declared.pattern.Kind.{Kind}
use Rattle.dch_frame.specs.declared.pattern.Kind.TheVariants.{Same, Repeat, Puncture}
use Rattle.dch_frame.specs.declared.pattern.Pattern.{Pattern}
use Rattle.dch_frame.specs.Patterns.{changes, copies, copies_below, kept_list, InRange, IsWellFormed}

-- a quotient from its bounds
pub quotient : (n d q : ℕ) → q * d ≤ n → n < q * d + d → n / d ≡ q
quotient n d q low high =
    let some : 0 < d = omega arith in
    let above : q ≤ n / d = le-div q n d some low in
    let split : (q + 1) * d ≡ q * d + d = omega (arith, add-mul q 1 d, one-mul d) in
    let below : n / d < q + 1 = div_below n d (q + 1) some (omega arith) in
    omega arith

-- the bounds of the changes
pub changes_bounds : (s : Steps) (m : ℕ) → InRange s → (changes s m * s.e_plus + s.e_ini ≤ m * s.e_minus + s.e_plus) × (m * s.e_minus < changes s m * s.e_plus + s.e_ini)
changes_bounds s m range =
    let some : 0 < s.e_plus = omega arith in
    let a : ℕ = m * s.e_minus + s.e_plus - s.e_ini in
    let low : a / s.e_plus * s.e_plus ≤ a = div-mul-le_self a s.e_plus in
    let high : a < a / s.e_plus * s.e_plus + s.e_plus = lt-div-mul-add some in
    (omega arith, omega arith)

-- and a number within them is the changes
pub changes_is : (s : Steps) (m q : ℕ) → InRange s → q * s.e_plus + s.e_ini ≤ m * s.e_minus + s.e_plus → m * s.e_minus < q * s.e_plus + s.e_ini → changes s m ≡ q
changes_is s m q range low high = quotient (m * s.e_minus + s.e_plus - s.e_ini) s.e_plus q (omega arith) (omega arith)

pub one_more : (m k : ℕ) → (m + 1) * k ≡ m * k + k
one_more m k = omega (arith, add-mul m 1 k, one-mul k)

pub changes-zero : (s : Steps) → InRange s → changes s 0 ≡ 0
changes-zero s range = changes_is s 0 0 range (omega arith) (omega arith)

pub changes_up : (s : Steps) (m : ℕ) → InRange s → changes s m ≤ changes s (m + 1)
changes_up s m range =
    let now = changes_bounds s m range in
    let low : changes s m * s.e_plus ≤ (m + 1) * s.e_minus + s.e_plus - s.e_ini = omega (arith, now.0, one_more m s.e_minus) in
    le-div (changes s m) ((m + 1) * s.e_minus + s.e_plus - s.e_ini) s.e_plus (omega arith) low

-- in puncturing a step removes one bit at most
pub changes_by_one : (s : Steps) (m : ℕ) → InRange s → s.e_minus ≤ s.e_plus → changes s (m + 1) ≤ changes s m + 1
changes_by_one s m range few =
    let now = changes_bounds s m range in
    let high : (m + 1) * s.e_minus + s.e_plus - s.e_ini < (changes s m + 2) * s.e_plus = omega (arith, now.1, one_more m s.e_minus, one_more (changes s m) s.e_plus, one_more (changes s m + 1) s.e_plus) in
    let below : changes s (m + 1) < changes s m + 2 = div_below ((m + 1) * s.e_minus + s.e_plus - s.e_ini) s.e_plus (changes s m + 2) (omega arith) high in
    omega arith

-- the copies of a prefix
pub below-more : (kind : Kind) (m : ℕ) → copies_below kind (m + 1) ≡ copies_below kind m + copies kind m
unfolding copies_below
below-more kind m = rw add-one refl

pub below-same : (m : ℕ) → copies_below Same m ≡ m
unfolding copies_below
below-same zero = refl
below-same (suc m) = omega (arith, below-same m)

pub below-repeat : (s : Steps) (m : ℕ) → InRange s → copies_below (Repeat s) m ≡ m + changes s m
unfolding copies_below
below-repeat s zero range = omega (arith, changes-zero s range)
below-repeat s (suc m) range = omega (arith, below-repeat s m range, changes_up s m range, ap (changes s) (add-one m))

pub below-puncture : (s : Steps) (m : ℕ) → InRange s → s.e_minus ≤ s.e_plus → copies_below (Puncture s) m + changes s m ≡ m
unfolding copies_below
below-puncture s zero range few = omega (arith, changes-zero s range)
below-puncture s (suc m) range few = omega (arith, below-puncture s m range few, changes_up s m range, changes_by_one s m range few, ap (changes s) (add-one m))

pub below_up : (kind : Kind) (m n : ℕ) → copies_below kind m ≤ copies_below kind (m + n)
unfolding copies_below
below_up kind m zero = rw add-zero (omega arith)
below_up kind m (suc n) = rw (← add-one, ← add_assoc) (omega (arith, below_up kind m n, below-more kind (m + n)))

-- the kept list has so many places
pub length-kept : (kind : Kind) (m : ℕ) → length (kept_list kind m) ≡ copies_below kind m
unfolding copies_below kept_list
length-kept kind zero = refl
length-kept kind (suc m) = omega (arith, length-append (kept_list kind m) (replicate (copies kind m) m), length-replicate (copies kind m) m, length-kept kind m)

pub below_le : (kind : Kind) (m n : ℕ) → m ≤ n → copies_below kind m ≤ copies_below kind n
below_le kind m n order =
    let rest : n ≡ m + (n - m) = omega arith in
    omega (arith, below_up kind m (n - m), ap (copies_below kind) rest)

-- place k is shown by the bit whose copies stand there
pub shown : (kind : Kind) (m n k : ℕ) → m < n → copies_below kind m ≤ k → k < copies_below kind (m + 1) → get_or (kept_list kind n) k 0 ≡ m
unfolding kept_list
shown kind m zero k inside low high = absurd (omega arith)
shown kind m (suc n) k inside low high = elim (cases_lt m n) [
  | inl less ↦ get_or_append_left (kept_list kind n) (replicate (copies kind n) n) 0 k (omega (arith, length-kept kind n, below_le kind (m + 1) n)) ∙ shown kind m n k less low high
  | inr past ↦
      let same : m ≡ n = omega arith in
      let from : copies_below kind m ≡ copies_below kind n = ap (copies_below kind) same in
      let many : copies kind m ≡ copies kind n = ap (copies kind) same in
      get_or-append_right (kept_list kind n) (replicate (copies kind n) n) (copies_below kind n) k 0 (length-kept kind n) (omega arith)
      ∙ get_or-replicate (copies kind n) (k - copies_below kind n) n 0 (omega (arith, below-more kind m)) ∙ sym same
]

-- the copies of the first n bits all lie before the copies of a bit past them
pub bit_inside : (kind : Kind) (m n k : ℕ) → copies_below kind m ≤ k → k < copies_below kind n → m < n
bit_inside kind m n k low high = elim (cases_lt m n) [
  | inl inside ↦ inside
  | inr past ↦ absurd (
      let split : m ≡ n + (m - n) = omega arith in
      let up : copies_below kind n ≤ copies_below kind (n + (m - n)) = below_up kind n (m - n) in
      omega (arith, ap (copies_below kind) split))
]

-- the bit shown at place k, where bits are repeated
pub repeated_bit : (s : Steps) (k m : ℕ) → InRange s → m ≡ (k * s.e_plus + (s.e_ini - 1)) / (s.e_plus + s.e_minus) → (copies_below (Repeat s) m ≤ k) × (k < copies_below (Repeat s) (m + 1))
repeated_bit s k m range is =
    let p : ℕ = s.e_plus in
    let a : ℕ = k * s.e_plus + (s.e_ini - 1) in
    let low : m * (p + s.e_minus) ≤ a = rw is (div-mul-le_self a (p + s.e_minus)) in
    let high : a < (m + 1) * (p + s.e_minus) = rw (is, one_more) (lt-div-mul-add (omega arith)) in
    let now = changes_bounds s m range in
    let next = changes_bounds s (m + 1) range in
    let before : (m + changes s m) * p < (k + 1) * p = omega (arith, now.0, mul-add m p s.e_minus, add-mul m (changes s m) p, one_more k p) in
    let after : k * p < (m + 1 + changes s (m + 1)) * p = omega (arith, next.1, mul-add (m + 1) p s.e_minus, add-mul (m + 1) (changes s (m + 1)) p) in
    let first : m + changes s m < k + 1 = lt_of_mul-lt-mul_right s.e_plus before in
    let second : k < m + 1 + changes s (m + 1) = lt_of_mul-lt-mul_right s.e_plus after in
    (omega (arith, below-repeat s m range), omega (arith, below-repeat s (m + 1) range))

-- a stream of which a bit is left does not lose every bit
pub some_left : (s : Steps) (k n : ℕ) → InRange s → s.e_minus ≤ s.e_plus → k < copies_below (Puncture s) n → s.e_minus < s.e_plus
some_left s k n range few inside = elim (cases_lt s.e_minus s.e_plus) [
  | inl less ↦ less
  | inr all ↦ absurd (
      let same : s.e_minus ≡ s.e_plus = omega arith in
      let bounds = changes_bounds s n range in
      let each : n * s.e_plus < (changes s n + 1) * s.e_plus = omega (arith, bounds.1, ap (λ e. n * e) same, one_more (changes s n) s.e_plus) in
      let gone : n < changes s n + 1 = lt_of_mul-lt-mul_right s.e_plus each in
      omega (arith, below-puncture s n range few))
]

-- the bit shown at place k, where bits are removed
pub punctured_bit : (s : Steps) (k m : ℕ) → InRange s → s.e_minus < s.e_plus → m ≡ (k * s.e_plus + (s.e_plus - s.e_ini)) / (s.e_plus - s.e_minus) → (copies_below (Puncture s) m ≤ k) × (k < copies_below (Puncture s) (m + 1))
punctured_bit s k m range less is =
    let p : ℕ = s.e_plus in
    let b : ℕ = s.e_plus - s.e_minus in
    let few : s.e_minus ≤ s.e_plus = omega arith in
    let whole : b + s.e_minus ≡ p = omega arith in
    let a : ℕ = k * s.e_plus + (s.e_plus - s.e_ini) in
    let low : m * b ≤ a = rw is (div-mul-le_self a b) in
    let high : a < (m + 1) * b = rw (is, one_more) (lt-div-mul-add (omega arith)) in
    let now = changes_bounds s m range in
    let next = changes_bounds s (m + 1) range in
    let parts : m * p ≡ m * b + m * s.e_minus = ap (λ e. m * e) (sym whole) ∙ mul-add m b s.e_minus in
    let next_parts : (m + 1) * p ≡ (m + 1) * b + (m + 1) * s.e_minus = ap (λ e. (m + 1) * e) (sym whole) ∙ mul-add (m + 1) b s.e_minus in
    let before : m * p < (changes s m + k + 1) * p = omega (arith, now.1, parts, add-mul (changes s m) k p, one_more (changes s m + k) p) in
    let after : (changes s (m + 1) + k) * p < (m + 1) * p = omega (arith, next.0, next_parts, add-mul (changes s (m + 1)) k p) in
    let first : m < changes s m + k + 1 = lt_of_mul-lt-mul_right s.e_plus before in
    let second : changes s (m + 1) + k < m + 1 = lt_of_mul-lt-mul_right s.e_plus after in
    (omega (arith, below-puncture s m range few), omega (arith, below-puncture s (m + 1) range few))

-- no bit has more copies than a number of 32 bits says
pub copies_fit : (pattern : Pattern) (m : ℕ) → IsWellFormed pattern → m < pattern.len → copies pattern.kind m < 2 ^ 32
copies_fit pattern m formed inside =
    let rest : pattern.len ≡ m + 1 + (pattern.len - (m + 1)) = omega arith in
    omega (arith, formed.few, below-more pattern.kind m, below_up pattern.kind (m + 1) (pattern.len - (m + 1)), ap (copies_below pattern.kind) rest)

-- one step of the counter: e_minus is taken off, and e_plus added at each change
pub next_changes : (s : Steps) (m n before after : ℕ) → InRange s → before ≡ s.e_ini + changes s m * s.e_plus - m * s.e_minus → after + s.e_minus ≡ before + n * s.e_plus → 1 ≤ after → after ≤ s.e_plus → changes s (m + 1) ≡ changes s m + n
next_changes s m n before after range at step low high =
    let now = changes_bounds s m range in
    let sum = add-mul (changes s m) n s.e_plus in
    let more = one_more m s.e_minus in
    changes_is s (m + 1) (changes s m + n) range (omega (arith, now.1, sum, more)) (omega (arith, now.1, sum, more))

pub next_counter : (s : Steps) (m n before after : ℕ) → InRange s → before ≡ s.e_ini + changes s m * s.e_plus - m * s.e_minus → after + s.e_minus ≡ before + n * s.e_plus → 1 ≤ after → after ≤ s.e_plus → after ≡ s.e_ini + changes s (m + 1) * s.e_plus - (m + 1) * s.e_minus
next_counter s m n before after range at step low high =
    let now = changes_bounds s m range in
    let sum = add-mul (changes s m) n s.e_plus in
    let more = one_more m s.e_minus in
    let moved : changes s (m + 1) * s.e_plus ≡ (changes s m + n) * s.e_plus = ap (λ q. q * s.e_plus) (next_changes s m n before after range at step low high) in
    omega (arith, now.1, sum, more, moved)

-- the counter stays between 1 and e_plus
pub counter_bounds : (s : Steps) (m before : ℕ) → InRange s → before ≡ s.e_ini + changes s m * s.e_plus - m * s.e_minus → (1 ≤ before) × (before ≤ s.e_plus)
counter_bounds s m before range at =
    let now = changes_bounds s m range in
    (omega (arith, now.1), omega (arith, now.0))
