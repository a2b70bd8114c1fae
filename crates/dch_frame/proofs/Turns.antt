-- The turns |floor(x*q')| by the sign of q, and that they reach each column once.
use Rattle.std.proofs.Common.{◌≡◌, ◌<◌, ◌≤◌, ◌+◌, ◌-◌, ◌*◌, ◌/◌, ◌%◌, ◌==◌, ◌&&◌, inl, inr, ℕ, zero, suc, Bool, true, false, cond, refl, ap, sym, ◌∙◌, arith, add-one, not, ◌||◌, nat_lt, ◌^◌}
use Rattle.std.proofs.Math.IntN.{ℤ, pos, negsuc, ◌+ℤ◌, ◌*ℤ◌, neg_ℤ, pos-*ℤ-pos, pos-*ℤ-negsuc}
use Rattle.std.proofs.Math.Nat.{mul-add, mul-sub, mul_comm, mul_left_comm, mul-zero, mul-one, add-mul, zero-div, zero-mod, add-mul-div_left, div-mul-le_self, div-le_self, lt-div-mul-add, lt_of_mul-lt-mul_right, mul-le-mul_left}
use Rattle.std.proofs.lemmas.Grind.{div_ceil_times}
use Rattle.std.proofs.lemmas.Bool.{cases_lt, cases_eq, eqb-true, eq-eqb, ne_eqb, ltb-true}
use Rattle.std.proofs.lemmas.Bool.Decides.{nat_tests}
use Rattle.std.proofs.lemmas.Int.{ints}
use Rattle.std.proofs.lemmas.Nat.{mul-le}
use Rattle.std.specs.Int.{div_ceil, int_div_euclid}
use Rattle.std.specs.Int.RustNames.{unsigned_abs}
use Rattle.std.specs.Int.Signed.{lt_z}
use Rattle.dch_types.specs.Limits.{IsFrames}
use Rattle.dch_frame.proofs.Changes.{one_more}
use Rattle.dch_frame.specs.Shifts.{common_divisor, gcd, extra, whole_average_distance, q_multiple, shift_below, column_shift}

whole-pos : (a frames : ℕ) → whole_average_distance (pos a) frames ≡ pos (frames * a + extra a frames)
whole-pos a frames = ap (λ z. z +ℤ pos (extra a frames)) (pos-*ℤ-pos frames a)

pub q_multiple-pos : (a frames x : ℕ) → q_multiple (pos a) frames x ≡ (x * (frames * a + extra a frames)) / frames
q_multiple-pos a frames x =
    ap (λ z. unsigned_abs (int_div_euclid (pos x *ℤ z) (pos frames))) (whole-pos a frames)
    ∙ ap (λ z. unsigned_abs (int_div_euclid z (pos frames))) (pos-*ℤ-pos x (frames * a + extra a frames))

whole-neg : (b frames : ℕ) → extra (suc b) frames ≤ frames * suc b → whole_average_distance (negsuc b) frames ≡ neg_ℤ (pos (frames * suc b - extra (suc b) frames))
whole-neg b frames h = ap (λ z. z +ℤ pos (extra (suc b) frames)) (pos-*ℤ-negsuc frames b) ∙ omega (arith, ints)

times-neg : (x n : ℕ) → pos x *ℤ neg_ℤ (pos n) ≡ neg_ℤ (pos (x * n))
times-neg x zero = pos-*ℤ-pos x zero ∙ rw mul-zero refl
times-neg x (suc n) = pos-*ℤ-negsuc x n

-- a quotient that is rounded up, from its bounds
pub ceil_is : (n d c : ℕ) → 0 < d → n ≤ c * d → c * d < n + d → div_ceil n d ≡ c
ceil_is n d c some low high =
    let bounds = div_ceil_times n d some in
    let below : div_ceil n d < c + 1 = lt_of_mul-lt-mul_right d (omega (arith, bounds.1, one_more c d)) in
    let above : c < div_ceil n d + 1 = lt_of_mul-lt-mul_right d (omega (arith, bounds.0, one_more (div_ceil n d) d)) in
    omega arith

-- the floor of a number below 0
ceiling : (n d : ℕ) → 0 < d → unsigned_abs (int_div_euclid (neg_ℤ (pos n)) (pos d)) ≡ div_ceil n d
ceiling zero d some = rw (zero-div, zero-mod) refl
ceiling (suc n) d some =
    let over : n < n / d * d + d = lt-div-mul-add some in
    let under : n / d * d ≤ n = div-mul-le_self n d in
    rw (← add-one) (sym (ceil_is (suc n) d (n / d + 1) some (omega (arith, one_more (n / d) d)) (omega (arith, one_more (n / d) d))))

pub q_multiple-neg : (b frames x : ℕ) → 0 < frames → extra (suc b) frames ≤ frames * suc b → q_multiple (negsuc b) frames x ≡ div_ceil (x * (frames * suc b - extra (suc b) frames)) frames
q_multiple-neg b frames x some h =
    ap (λ z. unsigned_abs (int_div_euclid (pos x *ℤ z) (pos frames))) (whole-neg b frames h)
    ∙ ap (λ z. unsigned_abs (int_div_euclid z (pos frames))) (times-neg x (frames * suc b - extra (suc b) frames))
    ∙ ceiling (x * (frames * suc b - extra (suc b) frames)) frames some

-- a number that divides both is the answer of the search, and one that does not is passed over
pub divisor_found : (a b d : ℕ) → 0 < d → b % d ≡ 0 → a % d ≡ 0 → common_divisor a b d ≡ d
divisor_found a b zero some first second = absurd (omega arith)
divisor_found a b (suc d) some first second = rw (first, second) refl

pub divisor_missed : (a b d : ℕ) → 0 < d → (b % d == 0 && a % d == 0) ≡ false → common_divisor a b d ≡ common_divisor a b (d - 1)
divisor_missed a b zero some missed = absurd (omega arith)
divisor_missed a b (suc d) some missed =
    let next : suc d - 1 ≡ d = omega arith in
    rw (missed, next) refl

divisor_le : (a b d : ℕ) → common_divisor a b d ≤ d
divisor_le a b zero = omega arith
divisor_le a b (suc d) = elim (b % suc d == 0 && a % suc d == 0) as (λ test. cond test (suc d) (common_divisor a b d) ≤ suc d) [
  | true ↦ omega arith
  | false ↦ omega (arith, divisor_le a b d)
]

pub extra_le : (size frames : ℕ) → extra size frames ≤ frames
extra_le size frames = elim (size % 2 == 0) as (λ test. cond test (gcd size frames) 0 ≤ frames) [
  | true ↦ divisor_le size frames frames
  | false ↦ omega arith
]

-- the turns by their size: x*q goes up by a part of a frame at each x
pub q_multiple-up : (a frames x : ℕ) → 0 < frames → q_multiple (pos a) frames x ≡ x * a + x * extra a frames / frames
q_multiple-up a frames x some =
    let whole : x * (frames * a + extra a frames) ≡ x * extra a frames + frames * (x * a) = mul-add x (frames * a) (extra a frames) ∙ omega (arith, mul_left_comm x frames a) in
    q_multiple-pos a frames x ∙ ap (λ n. n / frames) whole ∙ add-mul-div_left (x * extra a frames) (x * a) some ∙ omega arith

pub q_multiple-down : (b frames x : ℕ) → 0 < frames → q_multiple (negsuc b) frames x + x * extra (suc b) frames / frames ≡ x * suc b
q_multiple-down b frames x some =
    let g : ℕ = extra (suc b) frames in
    let a : ℕ = suc b in
    let most : g ≤ frames = extra_le a frames in
    let once : frames * 1 ≤ frames * a = mul-le-mul_left frames (omega arith) in
    let less : g ≤ frames * a = omega (arith, mul-one frames) in
    let n : ℕ = x * (frames * a - g) in
    let whole : n ≡ x * (frames * a) - x * g = mul-sub x (frames * a) g in
    let turned : x * (frames * a) ≡ x * a * frames = mul_left_comm x frames a ∙ mul_comm frames (x * a) in
    let up : x * g ≤ x * (frames * a) = mul-le-mul_left x less in
    let part : x * g / frames * frames ≤ x * g = div-mul-le_self (x * g) frames in
    let rest : x * g < x * g / frames * frames + frames = lt-div-mul-add some in
    let fits : x * g / frames < x * a + 1 = lt_of_mul-lt-mul_right frames (omega (arith, one_more (x * a) frames)) in
    let parts : x * a * frames ≡ (x * a - x * g / frames) * frames + x * g / frames * frames = ap (λ m. m * frames) (omega arith) ∙ add-mul (x * a - x * g / frames) (x * g / frames) frames in
    let count : div_ceil n frames ≡ x * a - x * g / frames = ceil_is n frames (x * a - x * g / frames) some (omega arith) (omega arith) in
    omega (arith, q_multiple-neg b frames x some less)

-- every p n: p holds of each number below n
abbrev pub every : (ℕ → Bool) → ℕ → Bool
every p zero = true
every p (suc n) = p n && every p n

-- the parts of a test of two
pub and_both : (a b : Bool) → (a && b) ≡ true → (a ≡ true) × (b ≡ true)
and_both true b h = (refl, h)
and_both false b h = absurd (cc)

every_at : (p : ℕ → Bool) (n k : ℕ) → every p n ≡ true → k < n → p k ≡ true
every_at p zero k all below = absurd (omega arith)
every_at p (suc n) k all below =
    let both = and_both (p n) (every p n) all in
    elim (cases_lt k n) [ inl less ↦ every_at p n k both.1 less | inr same ↦ let is : k ≡ n = omega arith in ap p is ∙ both.0 ]

-- q modulo 8 with its sign
abbrev pub residue : ℤ → ℤ
residue (pos a) = pos (a % 8)
residue (negsuc b) = negsuc (b % 8)

gcd_residue : (a b frames : ℕ) → IsFrames frames → a % 8 ≡ b % 8 → gcd a frames ≡ gcd b frames
gcd_residue a b frames kind same =
    let two : a % 2 ≡ b % 2 = omega arith in
    let four : a % 4 ≡ b % 4 = omega arith in
    let one : a % 1 ≡ b % 1 = omega arith in
    elim kind [
      | inl one_frame ↦ rw (one_frame, one) refl
      | inr (inl two_frames) ↦ rw (two_frames, two, one) refl
      | inr (inr (inl four_frames)) ↦ rw (four_frames, four, two, one) refl
      | inr (inr (inr eight_frames)) ↦ rw (eight_frames, same, four, two, one) refl
    ]

extra_residue : (a b frames : ℕ) → IsFrames frames → a % 8 ≡ b % 8 → extra a frames ≡ extra b frames
extra_residue a b frames kind same =
    let two : a % 2 ≡ b % 2 = omega arith in
    rw (two, gcd_residue a b frames kind same) refl

frames_some : (frames : ℕ) → IsFrames frames → 0 < frames
frames_some frames kind = omega (arith, kind)

-- eight times some number more leaves the column
same_column : (frames u t : ℕ) → IsFrames frames → (8 * u + t) % frames ≡ t % frames
same_column frames u t kind = elim kind [
  | inl is ↦ rw is (omega arith)
  | inr (inl is) ↦ rw is (omega arith)
  | inr (inr (inl is)) ↦ rw is (omega arith)
  | inr (inr (inr is)) ↦ rw is (omega arith)
]

-- the column of a turn depends on the sign of q and on q modulo 8 alone
pub column_residue : (q : ℤ) (frames x : ℕ) → IsFrames frames → q_multiple q frames x % frames ≡ q_multiple (residue q) frames x % frames
column_residue (pos a) frames x kind =
    let some = frames_some frames kind in
    let k : ℕ = a / 8 in
    let r : ℕ = a % 8 in
    let split : a ≡ 8 * k + r = omega arith in
    let size : x * a ≡ 8 * (x * k) + x * r = ap (λ n. x * n) split ∙ mul-add x (8 * k) r ∙ ap (λ n. n + x * r) (mul_left_comm x 8 k) in
    let same : x * extra a frames / frames ≡ x * extra r frames / frames = ap (λ g. x * g / frames) (extra_residue a r frames kind (omega arith)) in
    let turned : q_multiple (pos a) frames x ≡ 8 * (x * k) + q_multiple (pos r) frames x = omega (arith, q_multiple-up a frames x some, q_multiple-up r frames x some, size, same) in
    ap (λ t. t % frames) turned ∙ same_column frames (x * k) (q_multiple (pos r) frames x) kind
column_residue (negsuc b) frames x kind =
    let some = frames_some frames kind in
    let k : ℕ = b / 8 in
    let r : ℕ = b % 8 in
    let split : suc b ≡ 8 * k + suc r = omega arith in
    let size : x * suc b ≡ 8 * (x * k) + x * suc r = ap (λ n. x * n) split ∙ mul-add x (8 * k) (suc r) ∙ ap (λ n. n + x * suc r) (mul_left_comm x 8 k) in
    let same : x * extra (suc b) frames / frames ≡ x * extra (suc r) frames / frames = ap (λ g. x * g / frames) (extra_residue (suc b) (suc r) frames kind (omega arith)) in
    let turned : q_multiple (negsuc b) frames x ≡ 8 * (x * k) + q_multiple (negsuc r) frames x = omega (arith, q_multiple-down b frames x some, q_multiple-down r frames x some, size, same) in
    ap (λ t. t % frames) turned ∙ same_column frames (x * k) (q_multiple (negsuc r) frames x) kind

-- the x below the count whose turn falls on a column
abbrev pub place_below : ℤ → ℕ → ℕ → ℕ → ℕ
place_below q frames i zero = 0
place_below q frames i (suc x) = cond (q_multiple q frames x % frames == i) x (place_below q frames i x)

-- two turns lie on columns of their own
abbrev pub apart : ℤ → ℕ → ℕ → ℕ → Bool
apart q frames x y = not (q_multiple q frames x % frames == q_multiple q frames y % frames) || x == y

-- a column has a turn
abbrev pub has_turn : ℤ → ℕ → ℕ → Bool
has_turn q frames i = q_multiple q frames (place_below q frames i frames) % frames == i && nat_lt (place_below q frames i frames) frames

abbrev pub all_apart : ℤ → ℕ → Bool
all_apart q frames = every (λ x. every (apart q frames x) frames) frames

abbrev pub reaches_each : ℤ → ℕ → Bool
reaches_each q frames = all_apart q frames && every (has_turn q frames) frames

abbrev pub both_signs : ℕ → ℕ → Bool
both_signs frames r = reaches_each (pos r) frames && reaches_each (negsuc r) frames

checked : (frames : ℕ) → IsFrames frames → every (both_signs frames) 8 ≡ true
checked frames kind = elim kind [
  | inl is ↦ rw is refl
  | inr (inl is) ↦ rw is refl
  | inr (inr (inl is)) ↦ rw is refl
  | inr (inr (inr is)) ↦ rw is refl
]

reached : (q : ℤ) (frames : ℕ) → IsFrames frames → reaches_each (residue q) frames ≡ true
reached (pos a) frames kind = (and_both (reaches_each (pos (a % 8)) frames) (reaches_each (negsuc (a % 8)) frames) (every_at (both_signs frames) 8 (a % 8) (checked frames kind) (omega arith))).0
reached (negsuc b) frames kind = (and_both (reaches_each (pos (b % 8)) frames) (reaches_each (negsuc (b % 8)) frames) (every_at (both_signs frames) 8 (b % 8) (checked frames kind) (omega arith))).1

same_x : (a b x y : ℕ) → a ≡ b → (not (a == b) || x == y) ≡ true → x ≡ y
same_x a b x y same test = grind (arith, nat_tests)

-- two turns on one column are one
pub one_turn : (q : ℤ) (frames x y : ℕ) → IsFrames frames → x < frames → y < frames → q_multiple q frames x % frames ≡ q_multiple q frames y % frames → x ≡ y
one_turn q frames x y kind first second same =
    let p : ℤ = residue q in
    let all = (and_both (all_apart p frames) (every (has_turn p frames) frames) (reached q frames kind)).0 in
    let test = every_at (apart p frames x) frames y (every_at (λ x. every (apart p frames x) frames) frames x all first) second in
    same_x (q_multiple p frames x % frames) (q_multiple p frames y % frames) x y (sym (column_residue q frames x kind) ∙ same ∙ column_residue q frames y kind) test

-- each column has a turn
pub each_column : (q : ℤ) (frames i : ℕ) → IsFrames frames → i < frames → (x : ℕ) × (x < frames) × (q_multiple q frames x % frames ≡ i)
each_column q frames i kind inside =
    let p : ℤ = residue q in
    let x : ℕ = place_below p frames i frames in
    let all = (and_both (all_apart p frames) (every (has_turn p frames) frames) (reached q frames kind)).1 in
    let here = and_both (q_multiple p frames x % frames == i) (nat_lt x frames) (every_at (has_turn p frames) frames i all inside) in
    (x, ltb-true x frames here.1, column_residue q frames x kind ∙ eqb-true (q_multiple p frames x % frames) i here.0)

found : (q : ℤ) (frames x count : ℕ) → IsFrames frames → x < count → count ≤ frames → shift_below q frames (q_multiple q frames x % frames) count ≡ q_multiple q frames x / frames
found q frames x zero kind inside few = absurd (omega arith)
found q frames x (suc c) kind inside few = elim (cases_eq c x) [
  | inl same ↦ rw (eq-eqb (q_multiple q frames c % frames) (q_multiple q frames x % frames) (ap (λ x. q_multiple q frames x % frames) same)) (ap (λ x. q_multiple q frames x / frames) same)
  | inr differ ↦ rw (ne_eqb (q_multiple q frames c % frames) (q_multiple q frames x % frames) (λ e. differ (one_turn q frames c x kind (omega arith) (omega arith) e))) (found q frames x c kind (omega (arith, differ)) (omega arith))
]

-- S at t mod F is t div F
pub shift_is : (q : ℤ) (frames x : ℕ) → IsFrames frames → x < frames → column_shift q frames (q_multiple q frames x % frames) ≡ q_multiple q frames x / frames
shift_is q frames x kind inside = found q frames x frames kind inside (omega arith)

-- what the code computes, by the sign of q
pub turn_below : (q : ℤ) (frames x size : ℕ) → IsFrames frames → lt_z q (pos 0) ≡ true → size ≡ unsigned_abs q → div_ceil (x * (frames * size - extra size frames)) frames ≡ q_multiple q frames x
turn_below (pos a) frames x size kind below is = absurd (omega (arith, ltb-true a 0 below))
turn_below (negsuc b) frames x size kind below is =
    let some = frames_some frames kind in
    let once : frames * 1 ≤ frames * suc b = mul-le-mul_left frames (omega arith) in
    rw is (sym (q_multiple-neg b frames x some (omega (arith, extra_le (suc b) frames, mul-one frames))))

pub turn_above : (q : ℤ) (frames x size : ℕ) → lt_z q (pos 0) ≡ false → size ≡ unsigned_abs q → (x * (frames * size + extra size frames)) / frames ≡ q_multiple q frames x
turn_above (pos a) frames x size above is = rw is (sym (q_multiple-pos a frames x))
turn_above (negsuc b) frames x size above is = absurd (cc)

pub turn_small : (q : ℤ) (frames x : ℕ) → IsFrames frames → unsigned_abs q ≤ 131072 → x < frames → q_multiple q frames x < 2 ^ 21
turn_small (pos a) frames x kind size inside =
    let few : frames ≤ 8 = omega (arith, kind) in
    let g : ℕ = extra a frames in
    let first : x * a ≤ 8 * 131072 = mul-le x a 8 131072 (omega arith) size in
    let second : x * g ≤ 8 * 8 = mul-le x g 8 8 (omega arith) (omega (arith, extra_le a frames)) in
    omega (arith, q_multiple-up a frames x (omega arith), div-le_self (x * g) frames)
turn_small (negsuc b) frames x kind size inside =
    let few : frames ≤ 8 = omega (arith, kind) in
    let first : x * suc b ≤ 8 * 131072 = mul-le x (suc b) 8 131072 (omega arith) size in
    omega (arith, q_multiple-down b frames x (omega arith))
