-- How the blocks of a format are shared out among bearers, priority by priority.
use Rattle.std.proofs.Common.{◌≡◌, ◌<◌, ◌≤◌, ◌+◌, ◌-◌, ℕ, zero, suc, nat_lt, refl, ap, sym, ◌∙◌, arith, add-one, inl, inr, length}
use Rattle.std.specs.Prelude.{◌==◌, ◌&&◌, ◌||◌, if◌then◌else◌, min}
use Rattle.std.proofs.lemmas.Bool.{cases_lt, cases_eq}
use Rattle.std.proofs.lemmas.Bool.Decides.{nat_tests}
use Rattle.dch_types.specs.declared.channel.Format.{Format}
use Rattle.dch_types.specs.Sums.{total}
use Rattle.dch_types.proofs.Sums.{total-zero, total-more, total_same}
use Rattle.dch_mac.specs.Asked.{Asked, IsAsked, priority_of}
use Rattle.dch_mac.specs.Offered.{offered, given_by, waiting, waiting_at, waiting_below, waiting_above}

-- sums of sums
total_add : (f g : ℕ → ℕ) (n : ℕ) → total (λ a. f a + g a) n ≡ total f n + total g n
unfolding total
total_add f g zero = refl
total_add f g (suc n) = omega (arith, total_add f g n)

total_none : (f : ℕ → ℕ) (n : ℕ) → ((a : ℕ) → a < n → f a ≡ 0) → total f n ≡ 0
unfolding total
total_none f zero none = refl
total_none f (suc n) none = omega (arith, total_none f n (λ a less. none a (omega arith)), none n (omega arith))

inside_is : (o a b : ℕ) → a < b → (if nat_lt a b then o else 0) ≡ o
inside_is o a b less = grind (arith, nat_tests)

outside_is : (o a b : ℕ) → b ≤ a → (if nat_lt a b then o else 0) ≡ 0
outside_is o a b past = grind (arith, nat_tests)

-- a sum that is cut off
cut : (f : ℕ → ℕ) (b n : ℕ) → b ≤ n → total (λ a. if nat_lt a b then f a else 0) n ≡ total f b
unfolding total
cut f b zero within = let none : b ≡ 0 = omega arith in sym (ap (total f) none)
cut f b (suc n) within = elim (cases_lt n b) [
  | inl all ↦
      let same : b ≡ suc n = omega arith in
      total_same (λ a. if nat_lt a b then f a else 0) f (suc n) (λ a less. inside_is (f a) a b (omega arith)) ∙ sym (ap (total f) same)
  | inr past ↦ omega (arith, cut f b n past, outside_is (f n) n b past)
]

served : (u p a b o : ℕ) → (if nat_lt u p || (u == p && nat_lt a b) then o else 0) ≡ (if nat_lt u p then o else 0) + (if nat_lt a b then (if u == p then o else 0) else 0)
served u p a b o = grind (arith, nat_tests)

-- those served before a bearer: all of lesser numbers of priority, and the first of its own
ahead_is : (pr off : ℕ → ℕ) (p b n : ℕ) → pr b ≡ p → b ≤ n
    → total (λ a. if nat_lt (pr a) (pr b) || (pr a == pr b && nat_lt a b) then off a else 0) n
    ≡ total (λ a. if nat_lt (pr a) p then off a else 0) n + total (λ a. if pr a == p then off a else 0) b
ahead_is pr off p b n own within =
    let lesser : ℕ → ℕ = λ a. if nat_lt (pr a) p then off a else 0 in
    let equal : ℕ → ℕ = λ a. if pr a == p then off a else 0 in
    let parts : total (λ a. if nat_lt (pr a) (pr b) || (pr a == pr b && nat_lt a b) then off a else 0) n ≡ total (λ a. lesser a + (if nat_lt a b then equal a else 0)) n
    = total_same (λ a. if nat_lt (pr a) (pr b) || (pr a == pr b && nat_lt a b) then off a else 0) (λ a. lesser a + (if nat_lt a b then equal a else 0)) n
    (λ a less. ap (λ u. if nat_lt (pr a) u || (pr a == u && nat_lt a b) then off a else 0) own ∙ served (pr a) p a b (off a)) in
    parts ∙ total_add lesser (λ a. if nat_lt a b then equal a else 0) n ∙ ap (λ t. total lesser n + t) (cut equal b n within)

if_own : (u p x : ℕ) → u ≡ p → (if u == p then x else 0) ≡ x
if_own u p x same = grind (arith, nat_tests)

if_other : (u p x : ℕ) → (u ≡ p → ⊥) → (if u == p then x else 0) ≡ 0
if_other u p x other = grind (arith, nat_tests)

-- what the first bearers of a priority give is what they have, up to what is left to them
given_is : (pr off : ℕ → ℕ) (wanted p n m : ℕ) → m ≤ n
    → total (λ b. if pr b == p then min (off b) (wanted - total (λ a. if nat_lt (pr a) (pr b) || (pr a == pr b && nat_lt a b) then off a else 0) n) else 0) m
    ≡ min (wanted - total (λ a. if nat_lt (pr a) p then off a else 0) n) (total (λ a. if pr a == p then off a else 0) m)
unfolding total
given_is pr off wanted p n zero within = omega arith
given_is pr off wanted p n (suc m) within =
    let gives : ℕ = min (off m) (wanted - total (λ a. if nat_lt (pr a) (pr m) || (pr a == pr m && nat_lt a m) then off a else 0) n) in
    elim (cases_eq (pr m) p) [
      | inl own ↦ omega (arith, given_is pr off wanted p n m (omega arith), if_own (pr m) p gives own, if_own (pr m) p (off m) own, ahead_is pr off p m n own (omega arith))
      | inr other ↦ omega (arith, given_is pr off wanted p n m (omega arith), if_other (pr m) p gives other, if_other (pr m) p (off m) other)
    ]

next_priority : (u q o : ℕ) → (if nat_lt u (q + 2) then o else 0) ≡ (if nat_lt u (q + 1) then o else 0) + (if u == q + 1 then o else 0)
next_priority u q o = grind (arith, nat_tests)

-- all of lesser numbers of priority, priority by priority
lesser_is : (pr off : ℕ → ℕ) (n q : ℕ) → ((b : ℕ) → b < n → 1 ≤ pr b)
    → total (λ a. if nat_lt (pr a) (q + 1) then off a else 0) n ≡ total (λ r. total (λ a. if pr a == r + 1 then off a else 0) n) q
lesser_is pr off n zero least =
    total_none (λ a. if nat_lt (pr a) (0 + 1) then off a else 0) n (λ a less. outside_is (off a) (pr a) 1 (least a less))
    ∙ sym (total-zero (λ r. total (λ a. if pr a == r + 1 then off a else 0) n))
lesser_is pr off n (suc q) least =
    let lesser : ℕ → ℕ = λ a. if nat_lt (pr a) (q + 1) then off a else 0 in
    let equal : ℕ → ℕ = λ a. if pr a == q + 1 then off a else 0 in
    let two : suc q + 1 ≡ q + 2 = omega arith in
    ap (λ p. total (λ a. if nat_lt (pr a) p then off a else 0) n) two
    ∙ total_same (λ a. if nat_lt (pr a) (q + 2) then off a else 0) (λ a. lesser a + equal a) n (λ a less. next_priority (pr a) q (off a))
    ∙ total_add lesser equal n
    ∙ ap (λ t. t + total equal n) (lesser_is pr off n q least)
    ∙ sym (total-more (λ r. total (λ a. if pr a == r + 1 then off a else 0) n) q)
    ∙ ap (total (λ r. total (λ a. if pr a == r + 1 then off a else 0) n)) (add-one q)

-- what the bearers of a priority give to a channel
pub given_by_is : (asked : Asked) (i : ℕ) (format : Format) (q : ℕ) → IsAsked asked
    → given_by asked i format (q + 1) ≡ min (format.number - waiting_above asked i format.size q) (waiting_at asked i format.size (q + 1))
unfolding given_by waiting_above waiting_below
given_by_is asked i format q good =
    given_is (priority_of asked) (offered asked i format.size) format.number (q + 1) (length asked.bearers) (length asked.bearers) (omega arith)
    ∙ ap (λ t. min (format.number - t) (total (λ a. if priority_of asked a == q + 1 then offered asked i format.size a else 0) (length asked.bearers)))
    (lesser_is (priority_of asked) (offered asked i format.size) (length asked.bearers) q good.least)

-- what is left after one more priority
pub left_is : (asked : Asked) (i size q : ℕ) → waiting_above asked i size (q + 1) ≡ waiting_above asked i size q + waiting_at asked i size (q + 1)
unfolding waiting_above
left_is asked i size q = total-more (λ r. waiting_at asked i size (r + 1)) q

pub left_all : (asked : Asked) (i size : ℕ) → waiting_above asked i size 0 ≡ 0
unfolding waiting_above
left_all asked i size = total-zero (λ r. waiting_at asked i size (r + 1))

-- the blocks of all priorities are all blocks
pub waiting_all : (asked : Asked) (i size : ℕ) → IsAsked asked → waiting_above asked i size 8 ≡ waiting asked i size
unfolding waiting_above waiting_below
waiting_all asked i size good =
    sym (lesser_is (priority_of asked) (offered asked i size) (length asked.bearers) 8 good.least)
    ∙ total_same (λ a. if nat_lt (priority_of asked a) (8 + 1) then offered asked i size a else 0) (offered asked i size) (length asked.bearers)
    (λ a less. inside_is (offered asked i size a) (priority_of asked a) (8 + 1) (omega (arith, good.most a less)))

-- one more bearer
pub waiting_more : (asked : Asked) (i size priority b : ℕ) → priority_of asked b ≡ priority
    → waiting_below asked i size priority (b + 1) ≡ waiting_below asked i size priority b + offered asked i size b
unfolding waiting_below
waiting_more asked i size priority b own =
    total-more (λ a. if priority_of asked a == priority then offered asked i size a else 0) b
    ∙ ap (λ t. waiting_below asked i size priority b + t) (if_own (priority_of asked b) priority (offered asked i size b) own)

pub waiting_same : (asked : Asked) (i size priority b : ℕ) → (priority_of asked b ≡ priority → ⊥)
    → waiting_below asked i size priority (b + 1) ≡ waiting_below asked i size priority b
unfolding waiting_below
waiting_same asked i size priority b other =
    omega (arith, total-more (λ a. if priority_of asked a == priority then offered asked i size a else 0) b, if_other (priority_of asked b) priority (offered asked i size b) other)

pub waiting_none : (asked : Asked) (i size priority : ℕ) → waiting_below asked i size priority 0 ≡ 0
unfolding waiting_below
waiting_none asked i size priority = total-zero (λ a. if priority_of asked a == priority then offered asked i size a else 0)
