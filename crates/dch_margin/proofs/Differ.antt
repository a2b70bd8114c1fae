-- The least cells in which two blocks differ.
use Rattle.std.proofs.Common.{◌≡◌, ◌⊎◌, ◌<◌, ◌≤◌, ◌+◌, ◌*◌, ℕ, zero, suc, List, [], ◌∷◌, length, arith, refl, ap, sym, subst, ◌∙◌, inl, inr}
use Rattle.std.specs.Prelude.{Bool, true, false, nat_lt, if◌then◌else◌}
use Rattle.std.proofs.lemmas.Bool.{cases_lt, ltb-false, ltb-true}
use Rattle.dch_bits.specs.declared.bit.Bit.{Bit}
use Rattle.dch_types.specs.declared.channel.Coding.{Coding}
use Rattle.dch_types.specs.declared.channel.Coding.TheVariants.{Uncoded, Half, Third}
use Rattle.dch_types.specs.declared.channel.Side.{Side}
use Rattle.dch_types.specs.Lengths.{coded_block}
use Rattle.dch_types.specs.Parts.{channel_at}
use Rattle.dch_coding.specs.declared.rate.Rate.{Rate}
use Rattle.dch_coding.specs.declared.rate.Rate.TheVariants.{Half as HalfRate, Third as ThirdRate}
use Rattle.dch_coding.specs.declared.cut.Plan.{Plan}
use Rattle.dch_coding.specs.Chain.{coded_as}
use Rattle.dch_coding.specs.Conv.{encoded}
use Rattle.dch_coding.specs.Segments.{filler_of}
use Rattle.dch_coding.proofs.Codes.{length-encoded}
use Rattle.dch_trellis.specs.Distance.{copies_between, IsLeastDistance}
use Rattle.dch_collision.specs.Clear.{Copies, block_copies}
use Rattle.dch_margin.specs.Differ.{DifferBelow, DifferIn, DifferInBlock, IsFromZeros, IsLeast, IsLeastBelow, IsLeastUnder, plan_in}
use Rattle.dch_margin.specs.declared.distance.Least.{Least}

-- only the copies of the bits of a code count
pub between-same : (sent other : ℕ → ℕ) (xs ys : List Bit) → ((j : ℕ) → j < length xs → sent j ≡ other j) → copies_between sent xs ys ≡ copies_between other xs ys
between-same sent other [] ys same = refl
between-same sent other (x ∷ xs) [] same = refl
between-same sent other (x ∷ xs) (y ∷ ys) same =
    rw (same 0 (omega arith), between-same (λ j. sent (suc j)) (λ j. other (suc j)) xs ys (λ j within. same (suc j) (omega arith))) refl

pub length-coded : (coding : Coding) (block : List Bit) → length (coded_as coding block) ≡ coded_block coding (length block)
length-coded Uncoded block = refl
length-coded Half block = length-encoded HalfRate block
length-coded Third block = length-encoded ThirdRate block

pub differ_same : (coding : Coding) (size filler : ℕ) (sent other : ℕ → ℕ) (cells : ℕ) → ((t : ℕ) → t < coded_block coding size → sent t ≡ other t) → DifferIn (coded_as coding) size filler sent cells → DifferIn (coded_as coding) size filler other cells
differ_same coding size filler sent other cells same pair = record {
  first = pair.first;
  second = pair.second;
  shape = pair.shape;
  other = pair.other;
  differ = pair.differ;
  between = sym (between-same sent other (coded_as coding pair.first) (coded_as coding pair.second) (λ j within. same j (omega (arith, within, length-coded coding pair.first, ap (coded_block coding) pair.shape.sized)))) ∙ pair.between;
}

-- and so do a block and zeros
pub from_zeros_same : (coding : Coding) (size filler : ℕ) (sent other : ℕ → ℕ) (cells : ℕ) (block : List Bit) → ((t : ℕ) → t < coded_block coding size → sent t ≡ other t) → IsFromZeros (coded_as coding) size filler sent cells block → IsFromZeros (coded_as coding) size filler other cells block
unfolding differ_same
from_zeros_same coding size filler sent other cells block same is = record { pair = differ_same coding size filler sent other cells same is.pair; zeros = is.zeros; is = is.is }

pub least_same : (Has Other : ℕ → Type 0) (n : ℕ) → ((m : ℕ) → Has m → Other m) → ((m : ℕ) → Other m → Has m) → IsLeast Has n → IsLeast Other n
least_same Has Other n to back is = record { has = to n is.has; least = λ m other. is.least m (back m other) }

-- the least in one code block under copies that agree on it
pub least_copies : (coding : Coding) (size filler : ℕ) (sent other : ℕ → ℕ) (n : ℕ) → ((t : ℕ) → t < coded_block coding size → sent t ≡ other t) → IsLeast (DifferIn (coded_as coding) size filler sent) n → IsLeast (DifferIn (coded_as coding) size filler other) n
least_copies coding size filler sent other n same is =
    least_same (DifferIn (coded_as coding) size filler sent) (DifferIn (coded_as coding) size filler other) n
    (λ m pair. differ_same coding size filler sent other m same pair)
    (λ m pair. differ_same coding size filler other sent m (λ t within. sym (same t within)) pair)
    is

-- what the search tells
pub least_distance : (rate : Rate) (size filler : ℕ) (sent : ℕ → ℕ) (n : ℕ) → IsLeastDistance rate size filler sent n → IsLeast (DifferIn (encoded rate) size filler sent) n
least_distance rate size filler sent n is = record { has = there; least = λ m pair. none m pair }
  where
    there : DifferIn (encoded rate) size filler sent n
    there = let (a, b, first, second, differ, between) = is.attained in
        record { first = a; second = b; shape = first; other = second; differ = differ; between = between }

    none : (m : ℕ) → DifferIn (encoded rate) size filler sent m → n ≤ m
    none m pair = omega (arith, is.told pair.first pair.second pair.shape pair.other pair.differ, pair.between)

-- the first code block
pub first_place : (coding : Coding) (plan : Plan) (sent : ℕ → ℕ) (n : ℕ) → IsLeast (DifferInBlock coding plan sent 0) n → IsLeastBelow coding plan sent 1 (record { cells = n; block = 0 })
first_place coding plan sent n is = record { there = omega arith; pair = is.has; none = none }
  where
    none : (m : ℕ) → DifferBelow coding plan sent 1 m → n ≤ m
    none m below = let zero : below.block ≡ 0 = omega (arith, below.there) in is.least m (subst (λ (r : ℕ). DifferInBlock coding plan sent r m) zero below.pair)

lesser_place : (coding : Coding) (plan : Plan) (sent : ℕ → ℕ) (r n : ℕ) (before : Least) (less : Bool) → (less ≡ true → n < before.cells) → (less ≡ false → before.cells ≤ n) → IsLeastBelow coding plan sent r before → IsLeast (DifferInBlock coding plan sent r) n
    → IsLeastBelow coding plan sent (r + 1) (if less then record { cells = n; block = r } else before)
lesser_place coding plan sent r n before less below above is here = by_test less below above
  where
    either : (m : ℕ) → DifferBelow coding plan sent (r + 1) m → (before.cells ≤ m) ⊎ (n ≤ m)
    either m pair = elim (cases_lt pair.block r) [
      | inl earlier ↦ inl (is.none m (record { block = pair.block; there = earlier; pair = pair.pair }))
      | inr last ↦ let same : pair.block ≡ r = omega (arith, pair.there, last) in inr (here.least m (subst (λ (r : ℕ). DifferInBlock coding plan sent r m) same pair.pair))
    ]

    at_least : (least : ℕ) → least ≤ before.cells → least ≤ n → (m : ℕ) → DifferBelow coding plan sent (r + 1) m → least ≤ m
    at_least least first second m pair = elim (either m pair) [ inl more ↦ omega arith | inr more ↦ omega arith ]

    by_test : (less : Bool) → (less ≡ true → n < before.cells) → (less ≡ false → before.cells ≤ n) → IsLeastBelow coding plan sent (r + 1) (if less then record { cells = n; block = r } else before)
    by_test true below above = record { there = omega arith; pair = here.has; none = at_least n (omega (arith, below refl)) (omega arith) }
    by_test false below above = record { there = omega (arith, is.there); pair = is.pair; none = at_least before.cells (omega arith) (above refl) }

-- and one more
pub more_places : (coding : Coding) (plan : Plan) (sent : ℕ → ℕ) (r : ℕ) (before : Least) (n : ℕ) → IsLeastBelow coding plan sent r before → IsLeast (DifferInBlock coding plan sent r) n
    → IsLeastBelow coding plan sent (r + 1) (if nat_lt n before.cells then record { cells = n; block = r } else before)
more_places coding plan sent r before n is here = lesser_place coding plan sent r n before (nat_lt n before.cells) (λ test. ltb-true n before.cells test) (λ test. ltb-false n before.cells test) is here

-- copies that agree on all code blocks
below_same : (coding : Coding) (plan : Plan) (sent other : ℕ → ℕ) (blocks cells : ℕ) → ((r t : ℕ) → r < blocks → t < coded_block coding plan.size → block_copies coding plan sent r t ≡ block_copies coding plan other r t)
    → DifferBelow coding plan sent blocks cells → DifferBelow coding plan other blocks cells
below_same coding plan sent other blocks cells same below = record {
  block = below.block;
  there = below.there;
  pair = differ_same coding plan.size (filler_of plan below.block) (block_copies coding plan sent below.block) (block_copies coding plan other below.block) cells (λ t within. same below.block t below.there within) below.pair;
}

pub inside_all : (r t blocks coded : ℕ) → r < blocks → t < coded → r * coded + t < blocks * coded
inside_all r t zero coded there within = absurd (omega arith)
inside_all zero t (suc blocks) coded there within = omega arith
inside_all (suc r) t (suc blocks) coded there within = omega (arith, inside_all r t blocks coded (omega arith) within)

pub least_below : (coding : Coding) (plan : Plan) (sent other : ℕ → ℕ) (least : Least) → ((j : ℕ) → j < plan.blocks * coded_block coding plan.size → sent j ≡ other j) → IsLeastBelow coding plan sent plan.blocks least → IsLeastBelow coding plan other plan.blocks least
least_below coding plan sent other least same is =
    let coded : ℕ = coded_block coding plan.size in
    record {
      there = is.there;
      pair = differ_same coding plan.size (filler_of plan least.block) (block_copies coding plan sent least.block) (block_copies coding plan other least.block) least.cells (λ t within. same (least.block * coded + t) (inside_all least.block t plan.blocks coded is.there within)) is.pair;
      none = λ m below. is.none m (below_same coding plan other sent plan.blocks m (λ r t there within. sym (same (r * coded + t) (inside_all r t plan.blocks coded there within))) below);
    }

-- by the coding and the plan of a format
pub in_place_of : (side : Side) (sent : Copies) (i f : ℕ) (sequence : List ℕ) (coding : Coding) (plan : Plan) (least : Least) → coding ≡ (channel_at side i).coding → plan ≡ plan_in side i f
    → IsLeastBelow coding plan (sent i f sequence) plan.blocks least → IsLeastUnder side sent i f sequence least
in_place_of side sent i f sequence coding plan least code cut is =
    subst (λ (coding : Coding). IsLeastBelow coding (plan_in side i f) (sent i f sequence) (plan_in side i f).blocks least) code
    (subst (λ (plan : Plan). IsLeastBelow coding plan (sent i f sequence) plan.blocks least) cut is)
