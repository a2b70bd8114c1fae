-- The sizes of code blocks.
use Rattle.std.proofs.Common.{◌≡◌, ◌+◌, ◌-◌, ◌*◌, ◌<◌, ◌≤◌, ◌≢◌, ℕ, zero, suc, arith, refl, ⊎_elim}
use Rattle.std.specs.Int.{div_ceil}
use Rattle.std.proofs.lemmas.Bool.Decides.{nat_tests}
use Rattle.std.proofs.lemmas.Grind.{div_ceil_times}
use Rattle.std.proofs.lemmas.Bool.{cases_lt}
use Rattle.std.proofs.Math.Nat.{mul-le-mul_left}
use Rattle.dch_types.specs.declared.channel.Coding.{Coding}
use Rattle.dch_types.specs.declared.channel.Coding.TheVariants.{Uncoded, Half, Third}
use Rattle.dch_types.specs.Lengths.{block_count, block_size}
use Rattle.dch_types.proofs.Sizes.{block_count-some}
use Rattle.dch_coding.specs.declared.cut.Plan.{Plan}
use Rattle.dch_coding.specs.Segments.{plan_of, IsPlan}

-- a quotient rounded up is at most a number that covers
ceil_le : (x c m : ℕ) → 0 < c → x ≤ c * m → div_ceil x c ≤ m
ceil_le x c m some covered =
    let times : (x ≤ div_ceil x c * c) × (div_ceil x c * c < x + c) = div_ceil_times x c some in
    ⊎_elim
    (λ (above : m < div_ceil x c). absurd (let more : c * (m + 1) ≤ c * div_ceil x c = mul-le-mul_left c (omega arith) in omega (arith, times, more)))
    (λ (here : div_ceil x c ≤ m). here)
    (cases_lt m (div_ceil x c))

sized : (x c : ℕ) → 0 < x → block_size x c ≡ div_ceil x c
sized x c some = grind (arith, nat_tests)

-- so many blocks of this size hold all bits
covered : (x c : ℕ) → (0 < x → 0 < c) → x ≤ c * block_size x c
covered x c some = grind (arith, nat_tests, div_ceil_times x c)

whole_of : (x : ℕ) (coding : Coding) → (plan_of x coding).filler + x ≡ (plan_of x coding).blocks * (plan_of x coding).size
whole_of x coding = omega (arith, covered x (block_count x coding) (block_count-some x coding))

pub plan_whole : (plan : Plan) → IsPlan plan → plan.filler + plan.bits ≡ plan.blocks * plan.size
plan_whole plan (x, (coding, (small, same))) = rw same (whole_of x coding)

-- the coded blocks of x bits: enough, and no more than that
count_enough : (x c : ℕ) → c ≡ div_ceil x 504 → x ≤ c * 504
count_enough x c is = rw is (div_ceil_times x 504 (omega arith)).0

count_least : (x c : ℕ) → c ≡ div_ceil x 504 → c * 504 < x + 504
count_least x c is = rw is (div_ceil_times x 504 (omega arith)).1

count_some : (x c : ℕ) → c ≡ div_ceil x 504 → 0 < x → 0 < c
count_some x c is some = omega (arith, count_enough x c is)

-- a coded block has at most 504 bits
coded_short : (x c : ℕ) → c ≡ div_ceil x 504 → block_size x c ≤ 504
coded_short zero c is = omega arith
coded_short (suc x) c is =
    rw (sized (suc x) c (omega arith)) (ceil_le (suc x) c 504 (count_some (suc x) c is (omega arith)) (count_enough (suc x) c is))

pub size_short : (x : ℕ) (coding : Coding) → coding ≢ Uncoded → block_size x (block_count x coding) ≤ 504
size_short x Uncoded coded = absurd (coded refl)
size_short x Half coded = coded_short x (div_ceil x 504) refl
size_short x Third coded = coded_short x (div_ceil x 504) refl

-- fewer bits are left over in blocks of at most 504 bits than one of them has
few_filler : (x c k : ℕ) → 0 < k → 0 < c → k ≤ 504 → c * 504 < x + 504 → c * k - x < k
few_filler x zero k bits some short least = absurd (omega arith)
few_filler x (suc c) k bits some short least =
    let rest : c * k ≤ c * 504 = mul-le-mul_left c short in
    omega (arith, rest, bits)

coded_filler : (x c : ℕ) → c ≡ div_ceil x 504 → 0 < x → c * block_size x c - x < block_size x c
coded_filler x c is some =
    let bits : 0 < block_size x c = some_size (block_size x c) x c some (covered x c (λ some. count_some x c is some)) in
    few_filler x c (block_size x c) bits (count_some x c is some) (coded_short x c is) (count_least x c is)
  where
    some_size : (k x c : ℕ) → 0 < x → x ≤ c * k → 0 < k
    some_size zero x c some all = absurd (omega arith)
    some_size (suc k) x c some all = omega arith

-- fewer filler bits than a block has bits
pub filler_few : (x : ℕ) (coding : Coding) → 0 < x → block_count x coding * block_size x (block_count x coding) - x < block_size x (block_count x coding)
filler_few x Uncoded some =
    let one : block_count x Uncoded ≡ 1 = grind (arith, nat_tests) in
    let bits : 0 < block_size x 1 = rw (sized x 1 some) (omega arith) in
    let all : block_size x 1 ≤ x = rw (sized x 1 some) (omega arith) in
    rw one (omega arith)
filler_few x Half some = coded_filler x (div_ceil x 504) refl some
filler_few x Third some = coded_filler x (div_ceil x 504) refl some
